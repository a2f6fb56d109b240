use Rattle.std.proofs.Common.{rules, ◌∷◌, List, Option, ap, ◌∙◌}
use Rattle.std.specs.Option.{option_map}
use Rattle.track_text.specs.declared.entry.Entry.{Entry}
use Rattle.track_text.specs.Words.{Word, past, front}
use Rattle.track_text.specs.Repeats.{entry_first, repeat_after, once, part_first}
use Rattle.track_text.proofs.Fronts.{at_repeat, at_once, gives_same, gives_handed}
use Rattle.track_text.proofs.parts.part_from.Goals as goal

pub returns-then-eq : goal.returns-then-eq
returns-then-eq c = gives_same c.repeat_from.result (option_map (past c.args.words) (repeat_after c.args.relative c.args.words)) (front (part_first c.args.relative) (c.args.word.now ∷ c.args.words)) c.repeat_from.ensures (at_repeat c.args.relative c.args.word.now c.args.words (search rules))

pub returns-in_err-entries : goal.returns-in_err-entries
returns-in_err-entries c = gives_handed c.from_residual.result c.in_err-entries.field-0.0 (front (entry_first c.args.relative) (c.args.word.now ∷ c.args.words)) (front (part_first c.args.relative) (c.args.word.now ∷ c.args.words))
    (search rules) c.in_err-entries.ensures
    (λ none. at_once c.args.relative c.args.word.now c.args.words (search rules) ∙ ap (λ (read : Option (List Entry × List Word)). option_map once read) none)

pub returns : goal.returns
returns c = at_once c.args.relative c.args.word.now c.args.words (search rules) ∙ ap (λ (read : Option (List Entry × List Word)). option_map once read) c.in_ok-entries.ensures
