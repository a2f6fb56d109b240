pub mod Counting
pub mod Indexes
pub mod LineLists
pub mod Levels
pub mod Parts
pub mod Passing
pub mod Repeats
pub mod SetLists
pub mod Sides
pub mod Tables
pub use Rattle.part_rules.specs.LineNames as LineNames
pub use Rattle.part_rules.specs.Repetition as Repetition
