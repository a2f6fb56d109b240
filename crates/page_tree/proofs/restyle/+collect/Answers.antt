use Rattle.std.proofs.Common.{◌≡◌, Option, arith, subst}
use Rattle.std.specs.Prelude.{IfNone, IfSome}
use Rattle.plain_tree.specs.Trees.{leafless}
use Rattle.node_arena.specs.Numbers.{below_at}
use Rattle.layout_cache.specs.Reach.{from_tree}
use Rattle.layout_cache.proofs.Reaches.{from_end}
use Rattle.page_tree.specs.declared.restyle.Child.{Child}
use Rattle.page_tree.specs.Restyled.{IsNextStyled}
use Rattle.page_tree.proofs.Restyled.{all_collected, next_collected, none_next}
use Rattle.page_tree.proofs.restyle.+collect.Goals as goal

pub loop-index-preserved-in_default : goal.loop-index-preserved-in_default
loop-index-preserved-in_default t c =
    let below = below_at c.args.tree.now.tree c.args.id in
    none_next c.args.em c.args.rem below c.loop-index.index c.loop-index.found _ (subst (λ (o : Option Child). IfNone o (from_tree c.loop-index.index below ≡ leafless)) c.in_default.is c.in_ok-child.ensures.none) c.loop-index.invariant

pub loop-index-preserved : goal.loop-index-preserved
loop-index-preserved t c =
    let child = c.in-Some.child in
    next_collected c.args.em c.args.rem c.args.tree.now.tree c.args.id c.loop-index.index child.id child.font child.style c.loop-index.found c.push.new.self c.collect.new.found _
    (subst (λ (o : Option Child). IfSome o (λ k. IsNextStyled c.args.em c.args.rem c.args.tree.now.tree c.args.id c.loop-index.index k.id k.font k.style)) c.in-Some.is c.in_ok-child.ensures.some)
    c.in_ok-push.ensures.ok c.in_ok-collect.ensures c.loop-index.invariant

pub returns : goal.returns
returns t c =
    all_collected c.args.em c.args.rem c.args.tree.now.tree c.args.id c.loop-index.index c.loop-index.found _ (from_end (below_at c.args.tree.now.tree c.args.id) c.loop-index.index (omega (arith, c.count-index-end.ensures))) c.loop-index.invariant
