pub mod Above
mod AskedOf
mod Distinct
mod GridLeaves
mod Pages
pub mod Stays
