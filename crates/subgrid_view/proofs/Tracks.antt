-- Tracks and their edges.
use Rattle.std.proofs.Common.{arith, ap, ◌≡◌, ◌∙◌, sym, refl, ℕ, suc, ◌+◌, ◌-◌, ◌<◌, ℤ, pos, ◌+ℤ◌, ◌-ℤ◌, List, [], ◌∷◌, ◌++◌, drop, get_or, length, Option, Some, unwrap_or, add-one}
use Rattle.std.specs.List.{slice_get}
use Rattle.std.specs.Prelude.{neg_ℤ}
use Rattle.std.proofs.lemmas.Int.{ints}
use Rattle.std.proofs.lemmas.List.{drop_more, append_assoc}
use Rattle.std.proofs.lemmas.List.Elements.{All-drop, All-take}
use Rattle.part_rules.specs.Views.{all_tracks, end_in, first_start, half_after, half_before, last_end, later_tracks, track_between, tracks_over}
use Rattle.lunit.specs.Units.{IsUnits}
use Rattle.lunit.specs.declared.geometry.Span.{Span}
use Rattle.part_rules.specs.Lists.{above_zero}
use Rattle.subgrid_view.specs.Moves.{end_moved, moved_from, start_moved}
use Rattle.subgrid_view.specs.Ranges.{AreNear, IsNear, IsNearTrack, IsOrigin}
use Rattle.subgrid_view.specs.declared.view.Moves.{Moves}

-- the end of the last track
pub last_is : (tracks : List (ℤ × ℤ)) (track : ℤ × ℤ) → slice_get tracks (length tracks - 1) ≡ Some track → track.1 ≡ last_end tracks
last_is [] track h = absurd cc
last_is (e ∷ []) track h = ap (λ (o : Option (ℤ × ℤ)). (unwrap_or o e).1) (sym h)
last_is (e ∷ f ∷ rest) track h =
    let place : suc (length (f ∷ rest) - 1) ≡ length (e ∷ f ∷ rest) - 1 = omega arith in
    last_is (f ∷ rest) track (ap (slice_get (e ∷ f ∷ rest)) place ∙ h)

-- the tracks over a span are as near as all tracks
pub over_near : (edges : List (ℤ × ℤ)) (span : Span) → AreNear edges → AreNear (tracks_over edges span)
over_near edges span h = All-take IsNearTrack (above_zero span.end - above_zero span.start) (drop (above_zero span.start) edges) (All-drop IsNearTrack (above_zero span.start) edges h)

first_near : (tracks : List (ℤ × ℤ)) → AreNear tracks → IsNear (first_start tracks)
first_near [] h = omega arith
first_near (e ∷ rest) h = (h 0 e (omega arith)).start

-- a content box begins near its first track
pub origin_in_range : (tracks : List (ℤ × ℤ)) (before origin : ℤ) → AreNear tracks → IsUnits before → origin ≡ first_start tracks +ℤ before → IsOrigin origin
origin_in_range tracks before origin h u e = (omega (arith, ints, first_near tracks h, u.0, u.1, e), omega (arith, ints, first_near tracks h, u.0, u.1, e))

-- one track more
pub one_more : (m : Moves) (tracks made all : List (ℤ × ℤ)) (i : ℕ) (d : ℤ × ℤ) → i < length tracks → made ++ moved_from m i (drop i tracks) ≡ all
    → (made ++ track_between (start_moved m i (get_or tracks i d).0) (end_moved m (get_or tracks i d).1 (drop (i + 1) tracks)) ∷ []) ++ moved_from m (i + 1) (drop (i + 1) tracks) ≡ all
one_more m tracks made all i d h e =
    let rest = drop (i + 1) tracks in
    let track : ℤ × ℤ = track_between (start_moved m i (get_or tracks i d).0) (end_moved m (get_or tracks i d).1 rest) in
    append_assoc made (track ∷ []) (moved_from m (i + 1) rest)
    ∙ ap (λ (k : ℕ). made ++ track ∷ moved_from m k rest) (add-one i)
    ∙ sym (ap (λ (ts : List (ℤ × ℤ)). made ++ moved_from m i ts) (drop_more tracks i d h))
    ∙ e

ends_seen : (m : Moves) (d origin content : ℤ) (e : ℤ × ℤ) (rest : List (ℤ × ℤ)) → m.end ≡ neg_ℤ (origin +ℤ half_before d) → m.last ≡ content → end_moved m e.1 rest ≡ end_in d origin content e rest
ends_seen m d origin content e [] b c = c
ends_seen m d origin content e (f ∷ rest) b c = omega (arith, ints, b)

later_seen : (m : Moves) (d origin content : ℤ) (k : ℕ) (tracks : List (ℤ × ℤ)) → m.start ≡ half_after d -ℤ origin → m.end ≡ neg_ℤ (origin +ℤ half_before d) → m.last ≡ content → moved_from m (suc k) tracks ≡ later_tracks d origin content tracks
later_seen m d origin content k [] a b c = refl
later_seen m d origin content k (e ∷ rest) a b c =
    let start : e.0 +ℤ m.start ≡ e.0 -ℤ origin +ℤ half_after d = omega (arith, ints, a) in
    ap (λ (z : ℤ). track_between z (end_moved m e.1 rest) ∷ moved_from m (suc (suc k)) rest) start
    ∙ ap (λ (z : ℤ). track_between (e.0 -ℤ origin +ℤ half_after d) z ∷ moved_from m (suc (suc k)) rest) (ends_seen m d origin content e rest b c)
    ∙ ap (λ (ts : List (ℤ × ℤ)). track_between (e.0 -ℤ origin +ℤ half_after d) (end_in d origin content e rest) ∷ ts) (later_seen m d origin content (suc k) rest a b c)

-- tracks with their edges moved are those that a subgrid sees
pub all_seen : (m : Moves) (d origin content : ℤ) (tracks : List (ℤ × ℤ)) → m.start ≡ half_after d -ℤ origin → m.end ≡ neg_ℤ (origin +ℤ half_before d) → m.last ≡ content → moved_from m 0 tracks ≡ all_tracks d origin content tracks
all_seen m d origin content [] a b c = refl
all_seen m d origin content (e ∷ rest) a b c =
    ap (λ (z : ℤ). track_between (pos 0) z ∷ moved_from m 1 rest) (ends_seen m d origin content e rest b c)
    ∙ ap (λ (ts : List (ℤ × ℤ)). track_between (pos 0) (end_in d origin content e rest) ∷ ts) (later_seen m d origin content 0 rest a b c)
