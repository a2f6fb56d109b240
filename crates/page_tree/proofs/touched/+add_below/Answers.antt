use Rattle.std.proofs.Common.{◌++◌, sym, ap, ◌∙◌, arith}
use Rattle.node_arena.specs.Numbers.{below_at}
use Rattle.page_tree.specs.Marking.{numbers_below}
use Rattle.page_tree.proofs.Marking.{all_numbers_found, next_numbers}
use Rattle.layout_cache.proofs.Reaches.{from_end, past_none}
use Rattle.page_tree.proofs.touched.+add_below.Goals as goal

pub loop-index-preserved-in_default : goal.loop-index-preserved-in_default
loop-index-preserved-in_default t c =
    ap (λ u. c.loop-index.found ++ numbers_below c.args.all c.args.before c.args.after c.args.rem u) (past_none _ c.loop-index.index c.in_default.ensures.none ∙ sym c.in_default.ensures.none) ∙ c.loop-index.invariant

pub loop-index-preserved : goal.loop-index-preserved
loop-index-preserved t c =
    let child = c.in-Some.child in
    next_numbers c.args.all c.args.before c.args.after c.args.rem c.args.tree.now.tree c.args.id c.loop-index.index child.id child.before child.after c.loop-index.found c.add_if.new.found c.add_below.new.found _ c.in-Some.ensures.some c.in_ok-add_if.ensures
    c.in_ok-add_below.ensures c.loop-index.invariant

pub returns : goal.returns
returns t c =
    all_numbers_found c.args.all c.args.before c.args.after c.args.rem c.args.tree.now.tree c.args.id c.loop-index.index c.loop-index.found _ (from_end (below_at c.args.tree.now.tree c.args.id) c.loop-index.index (omega (arith, c.count-index-end.ensures))) c.loop-index.invariant
