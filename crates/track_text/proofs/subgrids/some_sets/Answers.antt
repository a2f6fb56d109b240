use Rattle.std.proofs.Common.{rules, ◌≡◌, [], List, Option, ap, ◌∙◌, codes}
use Rattle.std.proofs.lemmas.Bool.{true≢false}
use Rattle.std.proofs.Common.{sym}
use Rattle.std.specs.Option.{option_map}
use Rattle.track_text.specs.Words.{Word, bind, past, rest_up_to}
use Rattle.track_text.specs.Templates.{set_first, sets_or_none, sets_after}
use Rattle.track_text.proofs.Fronts.{gives_handed}
use Rattle.track_text.proofs.SubgridSets.{some_sets, some-none, some-some}
use Rattle.track_text.proofs.subgrids.some_sets.Goals as goal

pub returns-in_err-sets : goal.returns-in_err-sets
returns-in_err-sets c = gives_handed c.from_residual.result c.in_err-sets.field-0.0 (rest_up_to (codes ")") set_first c.args.words) (option_map (past c.args.words) (sets_after c.args.words))
    (search rules) c.in_err-sets.ensures
    (λ none. some_sets c.args.words ∙ ap (λ (read : Option (List (List Word) × List Word)). bind read sets_or_none) none)

pub returns-then-is_empty : goal.returns-then-is_empty
returns-then-is_empty c =
    let empty : c.in_ok-sets.sets ≡ [] = search rules in
    some_sets c.args.words ∙ ap (λ (read : Option (List (List Word) × List Word)). bind read sets_or_none) c.in_ok-sets.ensures
    ∙ some-none c.in_ok-sets.sets c.in_ok-sets.words empty

pub returns : goal.returns
returns c =
    some_sets c.args.words ∙ ap (λ (read : Option (List (List Word) × List Word)). bind read sets_or_none) c.in_ok-sets.ensures
    ∙ some-some c.in_ok-sets.sets c.in_ok-sets.words (λ e. true≢false (sym (c.is_empty.ensures.1 e) ∙ c.if-is_empty.false))
