pub mod Filling
pub mod Greatest
