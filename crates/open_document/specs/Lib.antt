pub use Rattle.text_scan.specs.Lines as Lines
pub use Rattle.doc_text.specs.Documents as Documents
pub use Rattle.doc_text.specs.EditText as EditText
pub use Rattle.doc_text.specs.Edits as Edits
pub use Rattle.doc_text.specs.Histories as Histories
pub use Rattle.doc_text.specs.Valid as Valid
pub use Rattle.doc_writer.specs.Documents as Canonical
pub use Rattle.hit_index.specs.Hits as Hits
pub use Rattle.session.specs.Boxes as Boxes
pub use Rattle.session.specs.Printing as Printing
pub use Rattle.session.specs.Script as Script
pub mod Changed
pub mod Opened
pub mod Calls
pub mod Runs
pub mod Apart
pub mod Steps
pub mod Texts
pub mod Coming
