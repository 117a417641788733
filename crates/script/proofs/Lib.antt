mod Hexes
mod Numbers
