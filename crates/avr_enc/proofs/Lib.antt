mod Digits
mod Fields
mod Sums
mod Products
mod Logic
mod Moves
mod Jumps
mod Bits
