mod Left
mod Hearing
