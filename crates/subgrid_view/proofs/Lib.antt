mod Halves
mod Levels
mod Sums
mod Tracks
