use Rattle.std.proofs.Common.{◌+◌, ◌∙◌, ap, arith, sym, subst}
use Rattle.std.specs.Prelude.{get_or, slice_set}
use Rattle.placing.proofs.Spliced.{IsRewritten, rewritten_other, rewritten_same}
use Rattle.placing.proofs.telling.write_items.Goals as goal
use Rattle.placing.proofs.telling.write_items.Goals.{then-not-same_item, else-not-same_item}

pub overflow_add-start : goal.overflow_add-start
overflow_add-start c = omega (arith, c.requires.room, c.loop-at-test.true)

pub loop-at-preserved : goal.loop-at-preserved
loop-at-preserved c =
    elim c.if-not-same_item.branch [
      | then-not-same_item w ↦ subst (λ b. IsRewritten c.args.items.now c.args.own.now c.args.start (c.loop-at.at + 1) b c.set.new.self) (sym w.other-is)
          (rewritten_other c.args.items.now c.args.own.now c.loop-at.items c.set.new.self c.args.start c.loop-at.at c.index-own-at-in-loop-at.result c.loop-at.other c.loop-at.invariant c.requires.within c.loop-at-test.true
          (c.set.ensures ∙ ap (slice_set c.loop-at.items (c.args.start + c.loop-at.at)) c.index-own-at-in-loop-at.is))
      | else-not-same_item w ↦ subst (λ b. IsRewritten c.args.items.now c.args.own.now c.args.start (c.loop-at.at + 1) b c.set.new.self) (sym w.other-is)
          (rewritten_same c.args.items.now c.args.own.now c.loop-at.items c.set.new.self c.args.start c.loop-at.at c.index-own-at-in-loop-at.result c.index-as_slice-start.result c.index-own-at.result c.loop-at.other c.loop-at.invariant c.requires.within c.loop-at-test.true
          (ap (λ l. get_or l (c.args.start + c.loop-at.at) c.index-as_slice-start.result) (sym c.as_slice.ensures) ∙ sym c.index-as_slice-start.is ∙ c.same_item.ensures w.if-not-same_item.false ∙ c.index-own-at.is)
          (c.set.ensures ∙ ap (slice_set c.loop-at.items (c.args.start + c.loop-at.at)) c.index-own-at-in-loop-at.is))
    ]
