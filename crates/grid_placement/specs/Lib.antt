pub mod Near
pub mod InRow
pub mod Wishes
pub mod Heights
pub mod Dense
pub mod Fitting
pub mod Entries
pub mod Starts
pub mod Fields
pub mod Reached
pub use Rattle.part_rules.specs.Placement as Placement
