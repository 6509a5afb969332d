mod Passing
mod Decimals
mod Digits
mod Links
mod Entries
mod Lines
mod Traces
