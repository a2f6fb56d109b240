use Rattle.std.proofs.Common.{max, sym, ap, ◌∙◌, arith}
use Rattle.plain_tree.specs.Trees.{height_of}
use Rattle.node_arena.specs.Numbers.{below_at}
use Rattle.node_arena.proofs.Loops.{one_higher}
use Rattle.layout_cache.proofs.Reaches.{from_end, past_none}
use Rattle.page_tree.proofs.Removals.{low_below}
use Rattle.page_tree.proofs.children.+height_below.Goals as goal

pub loop-index-preserved-in_default : goal.loop-index-preserved-in_default
loop-index-preserved-in_default t c =
    ap (λ u. max c.loop-index.highest (height_of u)) (past_none _ c.loop-index.index c.in_default.ensures.none ∙ sym c.in_default.ensures.none) ∙ c.loop-index.invariant

pub loop-index-preserved : goal.loop-index-preserved
loop-index-preserved t c = one_higher _ _ _ _ _ c.larger-highest.ensures c.height_below.ensures.value (ap height_of c.in-Some.ensures.some.next) c.loop-index.invariant

pub returns-clause-value : goal.returns-clause-value
returns-clause-value t c = omega (arith, c.loop-index.invariant, ap height_of (from_end (below_at c.args.tree.now.tree c.args.id) c.loop-index.index (omega (arith, c.count-index-end.ensures))))

pub returns-clause-most : goal.returns-clause-most
returns-clause-most t c =
    omega (arith, c.loop-index.invariant, low_below c.args.tree.now.tree c.args.id 64 c.root.ensures.sound.low)
