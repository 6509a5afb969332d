mod Begun
mod Topped
mod Completed
