mod Heads
mod Listed
mod Used
