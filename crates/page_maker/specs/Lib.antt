pub use Rattle.doc_text.specs.Edits as Edits
pub use Rattle.doc_text.specs.Valid as Valid
pub mod Draws
pub mod Choices
pub mod Nodes
pub mod Growing
pub mod Making
pub mod Scripts
pub mod Standing
pub mod Sums
pub mod Examples
