use Rattle.std.proofs.Common.{rules, arith, ◌≡◌, ◌≤◌, ◌+◌, ◌++◌, ◌∷◌, List, take, drop, length, ap, ◌∙◌, sym}
use Rattle.runs.specs.Times.{times as runs_times}
use Rattle.track_text.specs.declared.side.Track.{Track}
use Rattle.track_text.specs.declared.entry.Part.TheVariants as part
use Rattle.track_text.specs.Templates.{tracks_of, kept_tracks}
use Rattle.track_text.specs.Kept.{entries_of}
use Rattle.track_text.proofs.Holding.{from_there}
use Rattle.track_text.proofs.Listing.{few_are, tracks_next, tracks_skip, tracks_last}
use Rattle.track_text.proofs.kept.part_tracks.Goals.{in-Written+in_ok-body+in_ok-tracks, in_default}
use Rattle.track_text.proofs.kept.part_tracks.Goals as goal

pub loop-part-preserved : goal.loop-part-preserved
loop-part-preserved c =
    let item = c.part-item.result in
    let held = c.loop-part.tracks in
    let all = kept_tracks (entries_of c.args.parts.now) in
    let here = drop c.loop-part.part-index c.args.parts.now in
    let left = drop (c.loop-part.part-index + 1) c.args.parts.now in
    let e : here ≡ item ∷ left = search (rules, from_there) in
    elim c.match-part.branch [
      | in-Written+in_ok-body+in_ok-tracks w ↦
          let k : item ≡ part.Written w.in-Written.count w.in-Written.body = search rules in
          let t : w.in_ok-body.body ≡ tracks_of w.in-Written.body = search rules in
          let m : w.in_ok-tracks.tracks ≡ take 10000 (held ++ runs_times w.in-Written.count w.in_ok-body.body) = w.in_ok-tracks.ensures in
          let few : length w.in_ok-tracks.tracks ≤ 10000 = few_are 10000 w.in_ok-tracks.tracks (held ++ runs_times w.in-Written.count w.in_ok-body.body) m in
          let same : length c.match-part.tracks ≡ length w.in_ok-tracks.tracks = ap length w.tracks-is in
          record {
            few = omega (arith, few, same);
            all = ap (λ (xs : List Track). take 10000 (xs ++ tracks_of (entries_of left))) w.tracks-is
                ∙ tracks_next 10000 held w.in_ok-tracks.tracks all w.in_ok-body.body w.in-Written.count w.in-Written.body here left item e k t m c.loop-part.invariant.all;
          }
      | in_default w ↦
          let same : length c.match-part.tracks ≡ length held = ap length w.tracks-is in
          record {
            few = omega (arith, c.loop-part.invariant.few, same);
            all = ap (λ (xs : List Track). take 10000 (xs ++ tracks_of (entries_of left))) w.tracks-is
                ∙ ap (λ (parts : List _). take 10000 (held ++ tracks_of (entries_of parts))) (sym (e ∙ ap (λ (x : _). x ∷ left) w.in_default.is))
                ∙ c.loop-part.invariant.all;
          }
    ]

pub returns-clause-tracks : goal.returns-clause-tracks
returns-clause-tracks c = tracks_last 10000 c.loop-part.tracks (kept_tracks (entries_of c.args.parts.now)) c.args.parts.now c.loop-part.part-index (omega arith) c.loop-part.invariant.few c.loop-part.invariant.all
