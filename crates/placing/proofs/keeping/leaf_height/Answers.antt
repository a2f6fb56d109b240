use Rattle.std.proofs.Common.{None, ◌∙◌, ap, subst, sym}
use Rattle.node_arena.specs.Plain.{Nodes}
use Rattle.placing.proofs.Leaves.{height_answer, height_events, leaf_stopped, leaf_unkept, leaf_walked, on_err}
use Rattle.placing.specs.declared.node.Node.{Node}
use Rattle.placing.specs.Kept.{IsRight}
use Rattle.placing.specs.Nodes.{bare, sight_at}
use Rattle.placing.specs.Walks.{state}
use Rattle.placing.proofs.Puts.{keeps_own, keeps_right}
use Rattle.tree_rules.specs.declared.kind.NodeKind.TheVariants as kind
use Rattle.placing.proofs.keeping.leaf_height.Goals as goal

pub returns-in_err-height-clause-stopped : goal.returns-in_err-height-clause-stopped
returns-in_err-height-clause-stopped g c =
    on_err _ _ (leaf_stopped c.args.tree.now _ _ _ _ c.args.id c.args.query _ c.requires.right c.requires.absent
    (height_events (sight_at (bare c.args.tree.now.tree) c.args.id) c.content.result.now c.node_at-leaf.result.now.name c.args.query (ap kind.Leaf c.content.ensures ∙ sym c.in-Leaf.is ∙ c.node_at-leaf.ensures.kind) c.node_at-leaf.ensures.name c.requires.ask _ c.size_of.ensures)
    c.in_err-height.ensures.some)

pub returns-in_err-gone-clause-right : goal.returns-in_err-gone-clause-right
returns-in_err-gone-clause-right g c = subst (λ (z : Nodes Node). IsRight z.tree) (sym c.in_err-gone.ensures.err) c.requires.right

pub returns-in_err-gone-clause-stopped : goal.returns-in_err-gone-clause-stopped
returns-in_err-gone-clause-stopped g c =
    on_err _ _ (leaf_unkept c.args.tree.now _ _ _ _ _ c.args.id c.args.query _ c.in_err-gone.ensures.err c.requires.right c.requires.absent
    (height_events (sight_at (bare c.args.tree.now.tree) c.args.id) c.content.result.now c.node_at-leaf.result.now.name c.args.query (ap kind.Leaf c.content.ensures ∙ sym c.in-Leaf.is ∙ c.node_at-leaf.ensures.kind) c.node_at-leaf.ensures.name c.requires.ask _ c.size_of.ensures)
    c.in_ok-height.ensures.counts)

pub returns-clause-right : goal.returns-clause-right
returns-clause-right g c =
    keeps_right (state c.args.tree.now c.args.tally.now 0 None) (state c.keep.new.tree c.args.tally.now 0 None) c.args.id c.args.query _ c.in_ok-gone.ensures.ok c.requires.right c.requires.absent c.requires.fits
    (height_answer (sight_at (bare c.args.tree.now.tree) c.args.id) c.content.result.now c.node_at-leaf.result.now.name c.args.query (ap kind.Leaf c.content.ensures ∙ sym c.in-Leaf.is ∙ c.node_at-leaf.ensures.kind) c.requires.ask _ _ c.size_of.ensures c.in_ok-height.ensures.value)
    tt

pub returns-clause-walked : goal.returns-clause-walked
returns-clause-walked g c =
    leaf_walked c.args.tree.now c.keep.new.tree _ _ _ _ _ c.args.id c.args.query _ _ c.in_ok-gone.ensures.ok c.requires.right c.requires.absent
    (height_events (sight_at (bare c.args.tree.now.tree) c.args.id) c.content.result.now c.node_at-leaf.result.now.name c.args.query (ap kind.Leaf c.content.ensures ∙ sym c.in-Leaf.is ∙ c.node_at-leaf.ensures.kind) c.node_at-leaf.ensures.name c.requires.ask _ c.size_of.ensures)
    c.in_ok-height.ensures.counts c.in_ok-gone.gone c.count_added.ensures c.in_ok-gone.ensures.all

pub returns-clause-own : goal.returns-clause-own
returns-clause-own g c = keeps_own (state c.args.tree.now c.args.tally.now 0 None) (state c.keep.new.tree c.args.tally.now 0 None) c.args.id c.args.query _ c.in_ok-gone.ensures.ok c.requires.right
