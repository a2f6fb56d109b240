pub mod Along
pub mod Areas
pub mod Axes
pub mod Bases
pub mod Children
pub mod Counted
pub mod Covered
pub mod Glances
pub mod Insides
pub mod Keeping
pub mod Kept
pub mod Lined
pub mod Members
pub mod Nodes
pub mod Order
pub mod Ranges
pub mod Seats
pub mod Spread
pub mod Told
pub mod Turns
pub mod Walks
pub mod Wides
pub mod Wishes
pub mod Written
pub use Rattle.layout_cache.specs.Kept as CacheKept
pub use Rattle.layout_cache.specs.Reach as Reach
pub use Rattle.flex_lines.specs.Lines as FlexLineRanges
pub use Rattle.line_names.specs.Sides as LineSides
pub use Rattle.line_names.specs.Tables as LineTables
pub use Rattle.node_arena.specs.Numbers as ArenaNumbers
pub use Rattle.node_arena.specs.Plain as ArenaNodes
pub use Rattle.outside.specs.Logging as Logging
pub use Rattle.outside.specs.Told as OutsideTold
pub use Rattle.part_rules.specs.Repetition as TrackRepetition
pub use Rattle.style_types.specs.Briefs as StyleBriefs
pub use Rattle.style_types.specs.Styles as Styles
pub use Rattle.style_types.specs.Table as StyleTable
pub use Rattle.tree_rules.specs.AskedQueries as AskedQueries
pub use Rattle.tree_rules.specs.Chains as Chains
pub use Rattle.tree_rules.specs.Contexts as Contexts
pub use Rattle.tree_rules.specs.GridSizes as GridSizes
pub use Rattle.tree_rules.specs.KeptAnswers as KeptAnswers
pub use Rattle.tree_rules.specs.Labels as Labels
pub use Rattle.tree_rules.specs.Orders as Orders
pub use Rattle.tree_rules.specs.Places as Places
pub use Rattle.tree_rules.specs.Queries as Queries
pub use Rattle.tree_rules.specs.Repetitions as Repetitions
pub use Rattle.tree_rules.specs.Templates as Templates
pub use Rattle.tree_rules.specs.TrackRules as TrackRules
pub use Rattle.word_leaf.specs.Leaves as Leaves
