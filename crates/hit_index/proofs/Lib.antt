pub mod Contained
pub mod Bounds
pub mod Ranges
pub mod Numbers
pub mod Adding
pub mod Runs
pub mod Lasts
pub mod Found
