pub use Rattle.placing.specs.Bases as PlacingBases
pub use Rattle.placing.specs.Keeping as Keeping
pub use Rattle.placing.specs.Kept as PlacingKept
pub use Rattle.placing.specs.Nodes as PlacingNodes
pub use Rattle.placing.specs.Ranges as Ranges
pub use Rattle.placing.specs.Told as PlacingTold
pub use Rattle.placing.specs.Walks as Walks
pub use Rattle.tree_rules.specs.KeptAnswers as KeptAnswers
pub use Rattle.tree_rules.specs.Queries as Queries
pub mod Walkers
