pub use Rattle.command_words.specs.Commands as Commands
pub use Rattle.outside.specs.Faults as Faults
pub use Rattle.outside.specs.Told as Told
pub use Rattle.text_scan.specs.Lines as Lines
pub use Rattle.text_scan.specs.Stream as Stream
pub use Rattle.doc_text.specs.Documents as Documents
pub use Rattle.doc_text.specs.EditText as EditText
pub use Rattle.doc_text.specs.Edits as Edits
pub use Rattle.doc_text.specs.Histories as Histories
pub use Rattle.doc_text.specs.Laws as Laws
pub use Rattle.doc_text.specs.Valid as Valid
pub use Rattle.edit_journal.specs.Changes as Changes
pub use Rattle.edit_journal.specs.Steps as DefinedSteps
pub use Rattle.page_maker.specs.Making as Making
pub use Rattle.page_maker.specs.Scripts as Scripts
pub use Rattle.page_maker.specs.Sums as Sums
pub use Rattle.page_tree.specs.Boxes as DefinedBoxes
pub use Rattle.page_tree.specs.Pages as Pages
pub use Rattle.page_tree.specs.Reach as Reach
pub mod Printing
pub mod Boxes
pub mod Hits
pub mod Words
pub mod FaultNames
pub mod Script
pub mod Courses
pub mod ScriptExamples
pub mod BoxLines
pub mod Logs
pub mod Written
pub mod Laying
pub mod Input
pub mod Outcome
pub mod Runs
pub mod Serving
pub mod Standing
pub mod Engine
pub mod Touched
pub mod Spares
pub mod Calls
pub mod Made
pub mod Replies
pub mod Writing
pub use Rattle.asked_names.specs.Asked as Asked
pub use Rattle.asked_pages.specs.AskedOf as AskedOf
pub use Rattle.asked_pages.specs.Bounds as Bounds
pub use Rattle.asked_pages.specs.Leaves as Leaves
pub use Rattle.sparing.specs.Memory as Memory
pub use Rattle.sparing.specs.Sparing as Sparing
