mod Apart
mod Places
mod Frame
mod Writes
mod Commits
mod Marks
mod Takes
mod Steps
mod Sums
mod Filled
mod Idle
pub mod Rooms
mod Keeping
mod Founds
pub mod Lending
mod WrittenBytes
mod Masks
pub mod Eight
