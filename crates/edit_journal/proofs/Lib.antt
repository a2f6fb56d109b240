pub mod Restored
pub mod Relabels
pub mod Positions
pub mod Items
pub mod Found
pub mod Applied
pub mod Stepping
