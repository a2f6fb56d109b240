use Rattle.std.proofs.Common.{ℤ, pos, ◌∙◌, sym, subst}
use Rattle.std.specs.Prelude.{◌≤ℤ◌}
use Rattle.inline_sizes.proofs.Lastings.{clamp_length}
use Rattle.inline_sizes.proofs.lasting.length_of.Goals as goal

pub returns-then-is_length-clause-low : goal.returns-then-is_length-clause-low
returns-then-is_length-clause-low c =
    let range = c.is_length.ensures c.if-is_length.true in
    subst (λ (x : ℤ). pos 0 ≤ℤ x) (sym (c.clamp.ensures ∙ clamp_length c.args.sum range.0 range.1)) range.0

pub returns-then-is_length-clause-same : goal.returns-then-is_length-clause-same
returns-then-is_length-clause-same c =
    let range = c.is_length.ensures c.if-is_length.true in
    clamp_length c.args.sum range.0 range.1
