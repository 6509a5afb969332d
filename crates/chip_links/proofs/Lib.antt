mod Assembly
mod Registers
mod Raising
mod Directions
mod Fitting
mod Offers
