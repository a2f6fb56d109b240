use Rattle.std.proofs.Common.{rules, ◌≡◌, ◌∷◌, [], List, Option, Some, ap, ◌∙◌, sym}
use Rattle.std.specs.Option.{option_map}
use Rattle.track_text.specs.Words.{Word, past, front}
use Rattle.track_text.specs.Templates.{set_first, set_repeat_after, set_once, sets_times, sets_first}
use Rattle.track_text.proofs.Fronts.{gives_same, gives_handed}
use Rattle.track_text.proofs.SubgridSets.{set_repeat, set_single}
use Rattle.track_text.proofs.subgrids.part_from.Goals as goal

pub returns-then-eq : goal.returns-then-eq
returns-then-eq c = gives_same c.repeat_from.result (option_map (past c.args.words) (set_repeat_after c.args.words)) (front sets_first (c.args.word.now ∷ c.args.words)) c.repeat_from.ensures (set_repeat c.args.word.now c.args.words (search rules))

pub returns-in_err-set : goal.returns-in_err-set
returns-in_err-set c = gives_handed c.from_residual.result c.in_err-set.field-0.0 (front set_first (c.args.word.now ∷ c.args.words)) (front sets_first (c.args.word.now ∷ c.args.words))
    (search rules) c.in_err-set.ensures
    (λ none. set_single c.args.word.now c.args.words (search rules) ∙ ap (λ (read : Option (List Word × List Word)). option_map set_once read) none)

pub returns : goal.returns
returns c =
    let sets : c.push.new.self ≡ c.in_ok-set.set ∷ [] = search rules in
    set_single c.args.word.now c.args.words (search rules) ∙ ap (λ (read : Option (List Word × List Word)). option_map set_once read) c.in_ok-set.ensures
    ∙ ap (λ (xs : List (List Word)). Some (sets_times 1 xs, c.in_ok-set.words)) (sym sets)
