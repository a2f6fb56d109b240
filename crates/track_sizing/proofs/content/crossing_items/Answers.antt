use Rattle.std.proofs.Common.{arith, ap, subst, ◌∙◌, sym, ◌+◌, List, length}
use Rattle.lunit.specs.declared.item.Item.{Item}
use Rattle.part_rules.specs.Tracks.{crosses_flexible}
use Rattle.track_sizing.proofs.Kept.{AreKept, more_kept, passed_kept}
use Rattle.track_sizing.proofs.content.crossing_items.Goals as goal
use Rattle.track_sizing.proofs.content.crossing_items.Goals.{then-crosses_flexible+in_ok-push, else-crosses_flexible}

pub loop-item-preserved : goal.loop-item-preserved
loop-item-preserved c =
    elim c.if-crosses_flexible.branch [
      | then-crosses_flexible+in_ok-push w ↦ more_kept (crosses_flexible c.args.rows.now) c.args.first (length c.args.rows.now) c.args.items.now c.loop-item.item-index c.loop-item.group.items c.if-crosses_flexible.group.items c.item-item.result c.loop-item.invariant (omega arith)
          c.item-item.is (sym c.crosses_flexible.ensures ∙ w.if-crosses_flexible.true) (ap (λ v. v.items) w.group-is ∙ w.in_ok-push.ensures.items)
      | else-crosses_flexible w ↦ subst (λ (xs : List Item). AreKept (crosses_flexible c.args.rows.now) c.args.first (length c.args.rows.now) c.args.items.now (c.loop-item.item-index + 1) xs) (sym (ap (λ v. v.items) w.group-is))
          (passed_kept (crosses_flexible c.args.rows.now) c.args.first (length c.args.rows.now) c.args.items.now c.loop-item.item-index c.loop-item.group.items c.item-item.result c.loop-item.invariant (omega arith) c.item-item.is
          (sym c.crosses_flexible.ensures ∙ w.if-crosses_flexible.false))
    ]
