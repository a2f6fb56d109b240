pub mod Crosses
pub mod Filling
pub mod Lines
pub mod Ranges
pub mod Rounds
