use Rattle.std.proofs.Common.{◌-◌, ap, arith, ◌∙◌}
use Rattle.plain_tree.specs.Trees.{height_of}
use Rattle.node_arena.specs.Inside.{grown, shown}
use Rattle.node_arena.proofs.Loops.{next_some, one_higher, within_levels}
use Rattle.node_arena.proofs.slots.+height.Goals as goal

pub loop-number-preserved : goal.loop-number-preserved
loop-number-preserved g t c =
    record {
      whole = one_higher _ _ _ _ _ c.larger-highest.ensures (c.height.ensures.value ∙ ap (λ l. height_of (grown (c.args.levels - 1) (shown c.args.slots.now.slots) l)) c.deref.ensures.value)
          (next_some c.args.slots.now.slots c.args.levels c.args.numbers.now c.loop-number.number-index _ c.in-Some.slot.now (omega arith) (omega arith) c.in-Some.ensures) c.loop-number.invariant.whole;
      most = within_levels _ _ _ _ c.larger-highest.ensures c.height.ensures.most (omega arith) c.loop-number.invariant.most;
    }
