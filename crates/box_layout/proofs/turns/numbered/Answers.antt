use Rattle.std.proofs.Common.{rules, arith, sym, ◌∙◌, ◌++◌, ◌∷◌, [], ℤ, w64}
use Rattle.std.specs.Prelude.{FitsSigned}
use Rattle.std.proofs.lemmas.Int.{to_z-of_z}
use Rattle.box_layout.proofs.Backward.{pairs_next}
use Rattle.box_layout.proofs.turns.numbered.Goals as goal

pub loop-place-preserved : goal.loop-place-preserved
loop-place-preserved c =
    let i = c.loop-place.place in
    let x : ℤ = c.number_of-number.result in
    let fits : FitsSigned w64 x = search rules in
    c.in_ok-push.ensures.items ∙ (λ j. c.loop-place.invariant j ++ (i, (to_z-of_z w64 x fits ∙ c.number_of-number.ensures) j) ∷ []) ∙ sym (pairs_next c.args.numbers.now i 0 (omega (arith, c.loop-place-test.true)))
