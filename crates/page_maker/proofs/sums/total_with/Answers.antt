use Rattle.std.proofs.Common.{rules, ap, ◌∙◌, ℤ, pos, ◌+ℤ◌}
use Rattle.std.specs.Int.{w64, w128}
use Rattle.std.proofs.lemmas.Int.{to_z-of_z}
use Rattle.page_maker.specs.Sums.{rest_of}
use Rattle.page_maker.proofs.sums.total_with.Goals as goal

pub returns : goal.returns
returns c =
    c.rest_of.ensures
    ∙ ap rest_of (to_z-of_z w128 c.added.result (search rules) ∙ c.added.ensures ∙ ap (λ (w : ℤ). pos c.args.total +ℤ w) (to_z-of_z w64 c.weighted.result (search rules) ∙ c.weighted.ensures.value))
