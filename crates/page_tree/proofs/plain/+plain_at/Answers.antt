use Rattle.std.proofs.Common.{refl, sym, ap, ◌∙◌, arith}
use Rattle.plain_tree.specs.Trees.{joined}
use Rattle.node_arena.specs.Numbers.{below_at}
use Rattle.layout_cache.proofs.Reaches.{from_end, past_none}
use Rattle.page_tree.specs.Documents.{plain_trees}
use Rattle.page_tree.proofs.Plains.{children_end, next_plain, plain_made}
use Rattle.page_tree.proofs.plain.+plain_at.Goals as goal

pub loop-index-preserved-in_default : goal.loop-index-preserved-in_default
loop-index-preserved-in_default t c =
    ap (λ u. joined c.loop-index.children (plain_trees u)) (past_none _ c.loop-index.index c.in_default.ensures.none ∙ sym c.in_default.ensures.none) ∙ c.loop-index.invariant

pub loop-index-preserved : goal.loop-index-preserved
loop-index-preserved t c =
    next_plain c.args.tree.now.tree c.args.id c.loop-index.index c.in-Some.child c.in_ok-plain_at.field-0 c.loop-index.children _ c.in-Some.ensures.some c.in_ok-plain_at.ensures c.in_ok-push.ensures.ok c.loop-index.invariant

pub returns : goal.returns
returns t c =
    plain_made c.args.tree.now.tree c.args.id _ _ _ _ _ c.node_of-node.ensures refl c.in_ok-plain_kind.ensures c.in_ok-copy.ensures
    (children_end c.args.tree.now.tree c.args.id c.loop-index.index c.loop-index.children (from_end (below_at c.args.tree.now.tree c.args.id) c.loop-index.index (omega (arith, c.count-index-end.ensures))) c.loop-index.invariant)
