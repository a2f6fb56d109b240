pub use Rattle.plain_tree.specs.Trees as PlainTrees
pub mod Numbers
pub mod Edits
pub mod Plain
pub mod Inside
pub mod Lends
pub mod Faults
