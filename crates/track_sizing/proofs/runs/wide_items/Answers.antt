use Rattle.std.proofs.Common.{arith, ap, subst, ◌∙◌, sym, ◌+◌, List}
use Rattle.lunit.specs.declared.item.Item.{Item}
use Rattle.track_sizing.specs.Spans.{is_wide}
use Rattle.track_sizing.proofs.Kept.{IsFiltered, more_filtered, passed_filtered}
use Rattle.track_sizing.proofs.runs.wide_items.Goals as goal
use Rattle.track_sizing.proofs.runs.wide_items.Goals.{then-is_wide+in_ok-push, else-is_wide}

pub loop-item-preserved : goal.loop-item-preserved
loop-item-preserved c =
    elim c.if-is_wide.branch [
      | then-is_wide+in_ok-push w ↦ more_filtered is_wide c.args.items.now c.loop-item.item-index c.loop-item.wide.items c.if-is_wide.wide.items c.item-item.result c.loop-item.invariant (omega arith) c.item-item.is (sym c.is_wide.ensures ∙ w.if-is_wide.true)
          (ap (λ v. v.items) w.wide-is ∙ w.in_ok-push.ensures.items)
      | else-is_wide w ↦ subst (λ (xs : List Item). IsFiltered is_wide c.args.items.now (c.loop-item.item-index + 1) xs) (sym (ap (λ v. v.items) w.wide-is))
          (passed_filtered is_wide c.args.items.now c.loop-item.item-index c.loop-item.wide.items c.item-item.result c.loop-item.invariant (omega arith) c.item-item.is (sym c.is_wide.ensures ∙ w.if-is_wide.false))
    ]
