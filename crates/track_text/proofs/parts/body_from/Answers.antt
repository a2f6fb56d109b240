use Rattle.std.proofs.Common.{rules, ◌≡◌, List, Option, Some, None, ap, ◌∙◌, codes, true, false, if◌then◌else◌, Bool}
use Rattle.std.specs.Option.{option_map}
use Rattle.track_text.specs.declared.entry.Entry.{Entry}
use Rattle.track_text.specs.Words.{Word, bind, past, rest_up_to}
use Rattle.track_text.specs.Repeats.{entry_first, joined_read, body_after, has_track}
use Rattle.track_text.proofs.Fronts.{at_body, body_checked, gives_handed}
use Rattle.track_text.proofs.parts.body_from.Goals as goal

pub returns-in_err-entries : goal.returns-in_err-entries
returns-in_err-entries c = gives_handed c.from_residual.result c.in_err-entries.field-0.0 (option_map joined_read (rest_up_to (codes ")") (entry_first c.args.relative) c.args.words)) (option_map (past c.args.words) (body_after c.args.relative c.args.words))
    (search rules) c.in_err-entries.ensures
    (λ none. at_body c.args.relative c.args.words ∙ ap (λ (read : Option (List Entry × List Word)). bind read body_checked) none)

pub returns-then-has_track : goal.returns-then-has_track
returns-then-has_track c =
    let t : has_track c.in_ok-entries.entries ≡ true = search rules in
    at_body c.args.relative c.args.words ∙ ap (λ (read : Option (List Entry × List Word)). bind read body_checked) c.in_ok-entries.ensures
    ∙ ap (λ (b : Bool). if b then Some (c.in_ok-entries.entries, c.in_ok-entries.words) else None) t

pub returns : goal.returns
returns c =
    let t : has_track c.in_ok-entries.entries ≡ false = search rules in
    at_body c.args.relative c.args.words ∙ ap (λ (read : Option (List Entry × List Word)). bind read body_checked) c.in_ok-entries.ensures
    ∙ ap (λ (b : Bool). if b then Some (c.in_ok-entries.entries, c.in_ok-entries.words) else None) t
