use Rattle.std.proofs.Common.{rules, ◌≡◌, ◌∷◌, List, Option, Some, None, ap, ◌∙◌, codes}
use Rattle.std.specs.Option.{option_map}
use Rattle.track_text.specs.declared.side.Track.{Track}
use Rattle.track_text.specs.Words.{Word, front, rest_up_to}
use Rattle.track_text.specs.NameSets.{name_first}
use Rattle.track_text.specs.TrackSizes.{track_first}
use Rattle.track_text.specs.Repeats.{named, one_track, entry_first}
use Rattle.track_text.proofs.Fronts.{at_set, at_track, gives_same}
use Rattle.track_text.proofs.Rests.{gives_bad}
use Rattle.track_text.proofs.parts.entry_from.Goals as goal

pub returns-then-eq : goal.returns-then-eq
returns-then-eq c = gives_same c.set_from.result (option_map named (rest_up_to (codes "]") name_first c.args.words)) (front (entry_first c.args.relative) (c.args.word.now ∷ c.args.words)) c.set_from.ensures (at_set c.args.relative c.args.word.now c.args.words (search rules))

pub returns-in_err-track : goal.returns-in_err-track
returns-in_err-track c =
    let none : front (track_first c.args.relative) (c.args.word.now ∷ c.args.words) ≡ None = search rules in
    gives_bad c.from_residual.result (front (entry_first c.args.relative) (c.args.word.now ∷ c.args.words)) (search rules)
    (at_track c.args.relative c.args.word.now c.args.words (search rules) ∙ ap (λ (read : Option (Track × List Word)). option_map one_track read) none)

pub returns : goal.returns
returns c =
    let some : front (track_first c.args.relative) (c.args.word.now ∷ c.args.words) ≡ Some (c.in_ok-track.track, c.in_ok-track.words) = search rules in
    at_track c.args.relative c.args.word.now c.args.words (search rules) ∙ ap (λ (read : Option (Track × List Word)). option_map one_track read) some
    ∙ ap (λ (entries : List _). Some (entries, c.in_ok-track.words)) (search rules)
