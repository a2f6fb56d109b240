use Rattle.std.proofs.Common.{rules, arith, sym, ◌∙◌, ◌++◌, ◌∷◌, [], ℤ, pos, w32}
use Rattle.std.specs.Prelude.{get_or, FitsSigned}
use Rattle.std.proofs.lemmas.Int.{to_z-of_z}
use Rattle.placing.proofs.Numbers.{numbered_step}
use Rattle.placing.proofs.order.numbered.Goals as goal

pub loop-number-preserved : goal.loop-number-preserved
loop-number-preserved c =
    let i = c.loop-number.number in
    let x : ℤ = get_or c.args.orders.now i (pos 0) in
    let fits : FitsSigned w32 x = search rules in
    c.in_ok-push.ensures.items ∙ (λ j. c.loop-number.invariant j ++ (i, to_z-of_z w32 x fits j) ∷ []) ∙ sym (numbered_step c.args.orders.now i (pos 0) (omega (arith, c.loop-number-test.true)))
