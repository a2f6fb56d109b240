use Rattle.std.proofs.Common.{rules, ◌∙◌, codes}
use Rattle.std.specs.Option.{option_map}
use Rattle.lunit.specs.Decimals.{read_number}
use Rattle.track_text.specs.Words.{Word}
use Rattle.track_text.specs.Values.{ends_in, before, relative_form, in_rem, em_or_zero}
use Rattle.track_text.proofs.Limits.{unit_found}
use Rattle.track_text.proofs.values.relative_of.Goals as goal

pub returns-in-Some : goal.returns-in-Some
returns-in-Some c =
    c.rem_of.ensures
    ∙ unit_found (ends_in (codes "rem") c.args.word.now) c.in-Some.number.now (before (codes "rem") c.args.word.now)
    (λ (text : Word). option_map in_rem (read_number (relative_form c.args.below_zero) text)) (em_or_zero c.args.below_zero c.args.word.now) (search rules)
