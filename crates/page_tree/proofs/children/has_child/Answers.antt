use Rattle.std.proofs.Common.{sym, ap, ◌∙◌, arith}
use Rattle.std.specs.Prelude.{◌||◌, ◌+◌}
use Rattle.node_arena.specs.Faults.{is_top}
use Rattle.node_arena.specs.Numbers.{below_at}
use Rattle.layout_cache.specs.Reach.{from_tree}
use Rattle.layout_cache.proofs.Reaches.{from_end, past_none}
use Rattle.page_tree.proofs.children.has_child.Goals as goal

pub loop-index-preserved-in_default : goal.loop-index-preserved-in_default
loop-index-preserved-in_default c =
    ap (λ u. is_top u c.args.id) (past_none _ c.loop-index.index c.in_default.ensures.none ∙ sym c.in_default.ensures.none) ∙ c.loop-index.invariant

pub returns-then-is : goal.returns-then-is
returns-then-is c = sym (sym c.loop-index.invariant ∙ ap (λ u. is_top u c.args.id) c.in-Some.ensures.some.next ∙ ap (λ b. b || is_top (from_tree (c.loop-index.index + 1) (below_at c.args.tree.now.tree c.args.parent)) c.args.id) (sym c.is.ensures ∙ c.if-is.true))

pub loop-index-preserved : goal.loop-index-preserved
loop-index-preserved c =
    sym (ap (λ u. is_top u c.args.id) c.in-Some.ensures.some.next ∙ ap (λ b. b || is_top (from_tree (c.loop-index.index + 1) (below_at c.args.tree.now.tree c.args.parent)) c.args.id) (sym c.is.ensures ∙ c.if-is.false)) ∙ c.loop-index.invariant

pub returns : goal.returns
returns c = sym (sym c.loop-index.invariant ∙ ap (λ u. is_top u c.args.id) (from_end (below_at c.args.tree.now.tree c.args.parent) c.loop-index.index (omega (arith, c.count-index-end.ensures))))
