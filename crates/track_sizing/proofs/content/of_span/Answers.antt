use Rattle.std.proofs.Common.{arith, ap, subst, ◌∙◌, sym, ◌+◌, List, length}
use Rattle.lunit.specs.declared.item.Item.{Item}
use Rattle.track_sizing.specs.Spans.{is_of_span}
use Rattle.track_sizing.proofs.Kept.{AreKept, more_kept, passed_kept}
use Rattle.track_sizing.proofs.content.of_span.Goals as goal
use Rattle.track_sizing.proofs.content.of_span.Goals.{then-is_of_span+in_ok-push, else-is_of_span}

pub loop-item-preserved : goal.loop-item-preserved
loop-item-preserved c =
    elim c.if-is_of_span.branch [
      | then-is_of_span+in_ok-push w ↦ more_kept (is_of_span c.args.rows.now c.args.span) c.args.first (length c.args.rows.now) c.args.items.now c.loop-item.item-index c.loop-item.group.items c.if-is_of_span.group.items c.item-item.result c.loop-item.invariant (omega arith)
          c.item-item.is (sym c.is_of_span.ensures ∙ w.if-is_of_span.true) (ap (λ v. v.items) w.group-is ∙ w.in_ok-push.ensures.items)
      | else-is_of_span w ↦ subst (λ (xs : List Item). AreKept (is_of_span c.args.rows.now c.args.span) c.args.first (length c.args.rows.now) c.args.items.now (c.loop-item.item-index + 1) xs) (sym (ap (λ v. v.items) w.group-is))
          (passed_kept (is_of_span c.args.rows.now c.args.span) c.args.first (length c.args.rows.now) c.args.items.now c.loop-item.item-index c.loop-item.group.items c.item-item.result c.loop-item.invariant (omega arith) c.item-item.is (sym c.is_of_span.ensures ∙ w.if-is_of_span.false))
    ]
