use Rattle.std.proofs.Common.{rules, ◌≡◌, List, [], ◌∷◌, Some, None, ap, ◌∙◌, sym}
use Rattle.track_text.specs.declared.side.Track.{Track}
use Rattle.track_text.specs.Words.{Word, front, all_from}
use Rattle.track_text.specs.TrackSizes.{track_first}
use Rattle.track_text.proofs.Fronts.{rest_falls}
use Rattle.track_text.proofs.Rests.{gives_bad}
use Rattle.track_text.proofs.Joins.{all_with, all_at_form, all_at_none, all_at_end}
use Rattle.track_text.proofs.templates.tracks_of.Goals as goal

pub returns-in_err-track : goal.returns-in_err-track
returns-in_err-track c =
    let word = c.in-Some.word.now in
    let rest = c.in-Some.rest in
    let e : c.loop-word.words ≡ word ∷ rest = search rules in
    let none : front (track_first c.args.relative) (word ∷ rest) ≡ None = search rules in
    gives_bad c.from_residual.result (all_from (track_first c.args.relative) c.args.words) (search rules)
    (sym c.loop-word.invariant
    ∙ ap (λ (words : List Word). all_with c.loop-word.tracks (all_from (track_first c.args.relative) words)) e
    ∙ all_at_none c.loop-word.tracks (track_first c.args.relative) word rest none)

pub loop-word-smaller : goal.loop-word-smaller
loop-word-smaller c =
    let word = c.in-Some.word.now in
    let rest = c.in-Some.rest in
    let e : c.loop-word.words ≡ word ∷ rest = search rules in
    let some : front (track_first c.args.relative) (word ∷ rest) ≡ Some (c.in_ok-track.track, c.in_ok-track.rest) = search rules in
    rw e (rest_falls (track_first c.args.relative) word rest c.in_ok-track.track c.in_ok-track.rest some)

pub loop-word-preserved : goal.loop-word-preserved
loop-word-preserved c =
    let word = c.in-Some.word.now in
    let rest = c.in-Some.rest in
    let e : c.loop-word.words ≡ word ∷ rest = search rules in
    let some : front (track_first c.args.relative) (word ∷ rest) ≡ Some (c.in_ok-track.track, c.in_ok-track.rest) = search rules in
    ap (λ (tracks : List Track). all_with tracks (all_from (track_first c.args.relative) c.in_ok-track.rest)) c.in_ok-push.ensures.ok
    ∙ sym (all_at_form c.loop-word.tracks (track_first c.args.relative) word rest c.in_ok-track.rest c.in_ok-track.track some)
    ∙ ap (λ (words : List Word). all_with c.loop-word.tracks (all_from (track_first c.args.relative) words)) (sym e)
    ∙ c.loop-word.invariant

pub returns : goal.returns
returns c =
    let e : c.loop-word.words ≡ [] = search rules in
    sym c.loop-word.invariant
    ∙ ap (λ (words : List Word). all_with c.loop-word.tracks (all_from (track_first c.args.relative) words)) e
    ∙ all_at_end c.loop-word.tracks (track_first c.args.relative)
