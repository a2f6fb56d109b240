use Rattle.std.proofs.Common.{rules, ◌∙◌, codes}
use Rattle.std.specs.Option.{option_map}
use Rattle.lunit.specs.Decimals.{read_number}
use Rattle.track_text.specs.Words.{Word}
use Rattle.track_text.specs.Values.{ends_in, before, px_form, in_px, other_length}
use Rattle.track_text.proofs.Limits.{unit_found}
use Rattle.track_text.proofs.values.length_in.Goals as goal

pub returns-in-Some : goal.returns-in-Some
returns-in-Some c =
    c.px_of.ensures
    ∙ unit_found (ends_in (codes "px") c.args.word.now) c.in-Some.number.now (before (codes "px") c.args.word.now)
    (λ (text : Word). option_map in_px (read_number (px_form c.args.below_zero) text)) (other_length c.args.relative c.args.below_zero c.args.word.now) (search rules)
