use Rattle.std.proofs.Common.{arith, ap, ◌≡◌, ◌∙◌, ℤ, ◌-ℤ◌, List, length}
use Rattle.std.proofs.lemmas.Int.{ints}
use Rattle.part_rules.specs.declared.fraction.FrRow.{FrRow}
use Rattle.part_rules.specs.Fractions.{fraction_of, left_flexible}
use Rattle.part_rules.specs.Tracks.{all_gutters}
use Rattle.track_sizing.proofs.flex.filling_fraction.Goals as goal

pub returns-clause-value : goal.returns-clause-value
returns-clause-value c =
    let space : c.sub.result ≡ c.args.space -ℤ all_gutters c.args.gap c.args.rows.now = omega (arith, ints, c.sub.ensures, c.wide.ensures.value, c.all_gutters.ensures.value) in
    c.find_fr_without_gutters.ensures.value
    ∙ ap (λ (z : ℤ). fraction_of z (left_flexible (length c.args.all.now) z c.args.all.now)) space
    ∙ ap (λ (xs : List FrRow). fraction_of (c.args.space -ℤ all_gutters c.args.gap c.args.rows.now) (left_flexible (length xs) (c.args.space -ℤ all_gutters c.args.gap c.args.rows.now) xs)) c.requires.all
