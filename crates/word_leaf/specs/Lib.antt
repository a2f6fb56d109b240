pub mod Leaves
pub use Rattle.part_rules.specs.WordLines as WordLines
