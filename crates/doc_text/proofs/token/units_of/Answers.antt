use Rattle.std.proofs.Common.{ap, ◌∙◌, Some, arith}
use Rattle.std.proofs.lemmas.Int.{ints}
use Rattle.lunit.specs.Units.{clamp}
use Rattle.track_text.proofs.Limits.{within_limits}
use Rattle.doc_text.proofs.token.units_of.Goals as goal

pub returns : goal.returns
returns c =
    let units = c.in_ok-units.units in
    let bound = c.in_ok-units.ensures.bound in
    ap Some (c.of.ensures ∙ ap clamp (omega (arith, ints)) ∙ within_limits units _ bound c.requires.most) ∙ c.in_ok-units.ensures.value
