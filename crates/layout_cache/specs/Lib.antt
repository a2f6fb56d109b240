pub use Rattle.tree_rules.specs.KeptAnswers as KeptAnswers
pub use Rattle.tree_rules.specs.Queries as Queries
pub mod Kept
pub mod Reach
