mod Behind
mod Cut
mod Flash
mod Pairs
mod Pieces
