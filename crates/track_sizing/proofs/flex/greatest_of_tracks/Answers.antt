use Rattle.std.proofs.Common.{arith, ap, subst, ◌≡◌, ◌∙◌, sym, ℕ, ◌+◌, ◌-◌, ◌<◌, pos, ◌≤ℤ◌, length, get_or}
use Rattle.part_rules.specs.declared.fraction.Fraction.{Fraction}
use Rattle.part_rules.specs.Tracks.{base_fraction, flexible}
use Rattle.track_sizing.proofs.Best.{IsBest, more_best, passed_best}
use Rattle.track_sizing.proofs.flex.greatest_of_tracks.Goals as goal
use Rattle.track_sizing.proofs.flex.greatest_of_tracks.Goals.{then-flexible, else-flexible}

pub loop-back-preserved : goal.loop-back-preserved
loop-back-preserved c =
    let at : length c.args.rows.now - 1 - c.loop-back.back ≡ length c.args.rows.now - (c.loop-back.back + 1) = omega arith in
    let is : c.index-rows-rows.result ≡ get_or c.args.rows.now (length c.args.rows.now - (c.loop-back.back + 1)) c.index-rows-rows.result = c.index-rows-rows.is ∙ ap (λ (k : ℕ). get_or c.args.rows.now k c.index-rows-rows.result) at in
    elim c.if-flexible.branch [
      | then-flexible w ↦ more_best flexible base_fraction c.args.start.now c.loop-back.best c.if-flexible.best w.base_fraction.result c.args.rows.now (length c.args.rows.now - c.loop-back.back) (length c.args.rows.now - (c.loop-back.back + 1)) c.index-rows-rows.result
          c.loop-back.invariant (omega arith) (omega arith) is
          (sym c.flexible.ensures ∙ w.if-flexible.true) w.base_fraction.ensures.value (w.best-is ∙ w.greater-best.ensures.value)
          (subst (λ (f : Fraction). 0 < f.weight) (sym w.best-is) w.greater-best.ensures.weight) (subst (λ (f : Fraction). pos 0 ≤ℤ f.space) (sym w.best-is) w.greater-best.ensures.space)
      | else-flexible w ↦ subst (λ (f : Fraction). IsBest flexible base_fraction c.args.start.now c.args.rows.now (length c.args.rows.now - (c.loop-back.back + 1)) f) (sym w.best-is)
          (passed_best flexible base_fraction c.args.start.now c.loop-back.best c.args.rows.now (length c.args.rows.now - c.loop-back.back) (length c.args.rows.now - (c.loop-back.back + 1)) c.index-rows-rows.result c.loop-back.invariant (omega arith) (omega arith) is
          (sym c.flexible.ensures ∙ w.if-flexible.false))
    ]
