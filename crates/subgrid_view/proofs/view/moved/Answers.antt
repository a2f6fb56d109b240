use Rattle.std.proofs.Common.{◌≡◌, ap, ◌∙◌, pos, ◌+◌, ◌++◌, ◌∷◌, [], drop, get_or}
use Rattle.std.proofs.lemmas.List.{take_rest}
use Rattle.part_rules.specs.Views.{track_between}
use Rattle.subgrid_view.specs.Moves.{end_moved, moved_from, start_moved}
use Rattle.subgrid_view.proofs.Tracks.{one_more}
use Rattle.subgrid_view.proofs.view.moved.Goals as goal

pub loop-place-preserved : goal.loop-place-preserved
loop-place-preserved c =
    let m = c.args.moves.now in
    let tracks = c.args.tracks.now in
    let place = c.loop-place.place in
    let track = get_or tracks place (pos 0, pos 0) in
    let rest = drop (place + 1) tracks in
    let end : c.moved_end-end.result ≡ end_moved m track.1 rest = c.moved_end-end.ensures.value ∙ ap (end_moved m track.1) (take_rest tracks (place + 1)) in
    let made : c.track_between.result ≡ track_between (start_moved m place track.0) (end_moved m track.1 rest) = c.track_between.ensures ∙ ap (λ z. track_between z c.moved_end-end.result) c.moved_start-start.ensures.value ∙ ap (track_between (start_moved m place track.0)) end in
    ap (λ ts. ts ++ moved_from m (place + 1) rest) (c.in_ok-push.ensures.ok ∙ ap (λ t. c.loop-place.edges ++ t ∷ []) made)
    ∙ one_more m tracks c.loop-place.edges (moved_from m 0 tracks) place (pos 0, pos 0) c.loop-place-test.true c.loop-place.invariant
