mod Ones
mod Rows
mod Singles
