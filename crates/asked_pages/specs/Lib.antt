pub mod AskedOf
pub mod Bounds
pub mod Leaves
