use Rattle.std.proofs.Common.{ap, ◌∙◌}
use Rattle.plain_tree.specs.Trees.{height_of}
use Rattle.node_arena.specs.Edits.{tree_at}
use Rattle.node_arena.specs.Plain.{is_live}
use Rattle.node_arena.proofs.Reading.{live_held, tree_height}
use Rattle.node_arena.proofs.arena.Arena.height.Goals as goal

pub returns-clause-value : goal.returns-clause-value
returns-clause-value g c =
    let held = live_held _ _ _ _ _ _ c.self.invariant c.args.id (ap (λ n. is_live n c.args.id) c.self.view_is ∙ c.requires) in
    c.height.ensures.value ∙ tree_height _ _ _ _ _ _ c.self.invariant c.args.id held.0 held.1 ∙ ap (λ n. height_of (tree_at c.args.id n.tree)) c.self.view_is
