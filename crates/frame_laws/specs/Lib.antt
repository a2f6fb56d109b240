pub use Rattle.asked_pages.specs.AskedOf as AskedOf
pub use Rattle.edit_journal.specs.Changes as Changes
pub use Rattle.page_tree.specs.Reach as Reach
pub mod Agreement
