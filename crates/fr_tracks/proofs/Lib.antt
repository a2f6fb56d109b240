pub mod Settled
pub mod Expanded
pub mod Filling
