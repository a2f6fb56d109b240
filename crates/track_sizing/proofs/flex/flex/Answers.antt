use Rattle.std.proofs.Common.{ap, ◌≡◌, ◌∙◌, sym, length, map}
use Rattle.part_rules.specs.declared.fraction.Fraction.{Fraction}
use Rattle.part_rules.specs.Lists.{zipped}
use Rattle.part_rules.specs.Fractions.{expanded}
use Rattle.part_rules.specs.Tracks.{definite_fraction, fraction_for, fr_row, with_base}
use Rattle.track_sizing.proofs.Flexed.{flexed_none, flexed_some, unflexed}
use Rattle.track_sizing.proofs.flex.flex.Goals as goal

pub returns-in-Some : goal.returns-in-Some
returns-in-Some g c =
    let done : c.deref-2.result.now ≡ expanded (fraction_for c.args.fit.now.space c.args.fit.now.gap c.args.items.now c.args.rows.now) (map fr_row c.args.rows.now) =
    c.deref-2.ensures.value ∙ c.in_ok-done.ensures.value ∙ ap (λ (f : Fraction). expanded f (map fr_row c.args.rows.now)) c.fraction_for-fraction.ensures.value in
    let again : c.deref-in-Some-2.result.now ≡ expanded (definite_fraction c.args.fit.now.gap c.in-Some.space c.args.rows.now) (map fr_row c.args.rows.now) =
    c.deref-in-Some-2.ensures.value ∙ c.in_ok-again-in-Some.ensures.value ∙ ap (λ (f : Fraction). expanded f (map fr_row c.args.rows.now)) c.definite_fraction-fraction.ensures.value in
    flexed_some c.args.fit.now c.args.items.now c.args.rows.now c.set_bases.new.rows c.deref-2.result.now c.deref-in-Some-2.result.now c.in-Some.space
    done (ap length c.deref-2.ensures.value ∙ c.in_ok-done.ensures.length) (sym c.in-Some.ensures) again c.set_bases.ensures

pub returns : goal.returns
returns g c =
    let done : c.deref-2.result.now ≡ expanded (fraction_for c.args.fit.now.space c.args.fit.now.gap c.args.items.now c.args.rows.now) (map fr_row c.args.rows.now) =
    c.deref-2.ensures.value ∙ c.in_ok-done.ensures.value ∙ ap (λ (f : Fraction). expanded f (map fr_row c.args.rows.now)) c.fraction_for-fraction.ensures.value in
    flexed_none c.args.fit.now c.args.items.now c.args.rows.now c.set_bases-in-None.new.rows c.deref-2.result.now
    done (ap length c.deref-2.ensures.value ∙ c.in_ok-done.ensures.length) (sym c.in-None.ensures) (c.set_bases-in-None.ensures ∙ ap (zipped with_base c.args.rows.now) (c.deref-in-None.ensures.value ∙ sym c.deref-2.ensures.value))

pub returns-then-not-some_flexible : goal.returns-then-not-some_flexible
returns-then-not-some_flexible g c = unflexed c.args.fit.now c.args.items.now c.args.rows.now (sym c.some_flexible.ensures ∙ c.if-not-some_flexible.true)
