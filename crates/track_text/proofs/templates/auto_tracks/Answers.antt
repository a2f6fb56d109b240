use Rattle.std.proofs.Common.{rules, ◌≡◌, [], List, Option, Some, ap, ◌∙◌, sym}
use Rattle.track_text.specs.declared.side.Track.{Track}
use Rattle.track_text.specs.Words.{bind, all_from}
use Rattle.track_text.specs.TrackSizes.{track_first}
use Rattle.track_text.specs.Templates.{some_tracks, sizes_value, auto_tracks}
use Rattle.track_text.proofs.Fronts.{gives_handed}
use Rattle.track_text.proofs.Units.{some_sizes, sizes_read}
use Rattle.std.proofs.lemmas.Bool.{true≢false}
use Rattle.track_text.proofs.templates.auto_tracks.Goals as goal

pub returns-in_err-tracks : goal.returns-in_err-tracks
returns-in_err-tracks c = gives_handed c.from_residual.result c.in_err-tracks.field-0.0 (all_from (track_first c.args.relative) c.args.words) (auto_tracks c.args.relative c.args.words)
    (search rules) c.in_err-tracks.ensures
    (λ none. sizes_read c.args.relative c.args.words ∙ ap (λ (tracks : Option (List Track)). bind tracks some_tracks) none)

pub returns-then-is_empty : goal.returns-then-is_empty
returns-then-is_empty c =
    let empty : c.in_ok-tracks.tracks ≡ [] = search rules in
    sizes_read c.args.relative c.args.words ∙ ap (λ (tracks : Option (List Track)). bind tracks some_tracks) c.in_ok-tracks.ensures ∙ ap some_tracks empty

pub returns : goal.returns
returns c =
    let value : c.in_ok-sizes_value.field-0 ≡ sizes_value c.in_ok-tracks.tracks = search rules in
    sizes_read c.args.relative c.args.words ∙ ap (λ (tracks : Option (List Track)). bind tracks some_tracks) c.in_ok-tracks.ensures
    ∙ some_sizes c.in_ok-tracks.tracks (λ e. true≢false (sym (c.is_empty.ensures.1 e) ∙ c.if-is_empty.false))
    ∙ ap Some (sym value)
