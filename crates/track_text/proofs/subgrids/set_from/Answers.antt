use Rattle.std.proofs.Common.{rules, ◌≡◌, ◌∷◌, List, Option, Some, ap, ◌∙◌, codes}
use Rattle.std.specs.Option.{option_map}
use Rattle.track_text.specs.Words.{Word, front, rest_up_to}
use Rattle.track_text.specs.NameSets.{name_first, distinct}
use Rattle.track_text.specs.Templates.{distinct_read, set_first}
use Rattle.track_text.proofs.Fronts.{gives_handed}
use Rattle.track_text.proofs.SubgridSets.{set_named, set_none}
use Rattle.track_text.proofs.subgrids.set_from.Goals as goal

pub returns-then-ne : goal.returns-then-ne
returns-then-ne c = set_none c.args.word.now c.args.words (search rules)

pub returns-in_err-names : goal.returns-in_err-names
returns-in_err-names c = gives_handed c.from_residual.result c.in_err-names.field-0.0 (rest_up_to (codes "]") name_first c.args.words) (front set_first (c.args.word.now ∷ c.args.words))
    (search rules) c.in_err-names.ensures
    (λ none. set_named c.args.word.now c.args.words (search rules) ∙ ap (λ (read : Option (List Word × List Word)). option_map distinct_read read) none)

pub returns : goal.returns
returns c =
    let set : distinct c.in_ok-names.names ≡ c.in_ok-set.set = search rules in
    set_named c.args.word.now c.args.words (search rules) ∙ ap (λ (read : Option (List Word × List Word)). option_map distinct_read read) c.in_ok-names.ensures
    ∙ ap (λ (names : List Word). Some (names, c.in_ok-names.words)) set
