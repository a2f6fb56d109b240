pub mod Memory
pub mod Sparing
