-- Tracks that lie alike are seen alike.
use Rattle.std.proofs.Common.{arith, ap, ◌≡◌, ◌∙◌, ℕ, ℤ, pos, ◌+ℤ◌, ◌-ℤ◌, true, false, List, [], ◌∷◌, refl}
use Rattle.std.specs.Prelude.{◌&&◌}
use Rattle.std.specs.Int.{int_max}
use Rattle.std.specs.Ordering.{int_eq}
use Rattle.std.proofs.lemmas.Bool.{and_parts, false≢true}
use Rattle.std.proofs.lemmas.Bool.Decides.{Decides-int_eq}
use Rattle.std.proofs.lemmas.Int.{ints}
use Rattle.lunit.specs.Units.{clamp}
use Rattle.lunit.specs.declared.geometry.Span.{Span}
use Rattle.part_rules.specs.declared.view.View.{View}
use Rattle.part_rules.specs.Views.{all_tracks, content_size, end_in, half_after, last_end, later_tracks, seen, track_between, tracks_over}
use Rattle.tree_rules.specs.Queries.{same_items}
use Rattle.block_sizes.specs.Sharing.{AreMadeIn, AreSeenAlike, AreTracksOf, IsSpanIn, is_moved, lie_alike, same_sides, view_made}
use Rattle.block_sizes.specs.declared.last_tracks.LastTracks.{LastTracks}
use Rattle.block_sizes.specs.declared.last_tracks.ViewParts.{ViewParts}

moved_is : (by : ℤ) (x y : ℤ × ℤ) → is_moved by x y ≡ true → (y.0 -ℤ x.0 ≡ by) × (y.1 -ℤ x.1 ≡ by)
moved_is by x y e =
    let parts = and_parts (int_eq (y.0 -ℤ x.0) by) (int_eq (y.1 -ℤ x.1) by) e in
    ((Decides-int_eq (y.0 -ℤ x.0) by).0 parts.0, (Decides-int_eq (y.1 -ℤ x.1) by).0 parts.1)

both_moved : (by : ℤ) (x y : ℤ × ℤ) (xs ys : List (ℤ × ℤ)) → same_items (is_moved by) (x ∷ xs) (y ∷ ys) ≡ true → (is_moved by x y ≡ true) × (same_items (is_moved by) xs ys ≡ true)
both_moved by x y xs ys e = and_parts (is_moved by x y) (same_items (is_moved by) xs ys) e

-- ---- an end, and the tracks after the first one

end_alike : (by d origin content : ℤ) (x y : ℤ × ℤ) (xs ys : List (ℤ × ℤ)) → y.1 -ℤ x.1 ≡ by → same_items (is_moved by) xs ys ≡ true → end_in d origin content x xs ≡ end_in d (origin +ℤ by) content y ys
end_alike by d origin content x y [] [] m e = refl
end_alike by d origin content x y [] (g ∷ ys) m e = absurd (false≢true e)
end_alike by d origin content x y (f ∷ xs) [] m e = absurd (false≢true e)
end_alike by d origin content x y (f ∷ xs) (g ∷ ys) m e = omega (arith, ints, m)

later_alike : (by d origin content : ℤ) (xs ys : List (ℤ × ℤ)) → same_items (is_moved by) xs ys ≡ true → later_tracks d origin content xs ≡ later_tracks d (origin +ℤ by) content ys
later_alike by d origin content [] [] e = refl
later_alike by d origin content [] (y ∷ ys) e = absurd (false≢true e)
later_alike by d origin content (x ∷ xs) [] e = absurd (false≢true e)
later_alike by d origin content (x ∷ xs) (y ∷ ys) e =
    let parts = both_moved by x y xs ys e in
    let here = moved_is by x y parts.0 in
    let start : x.0 -ℤ origin +ℤ half_after d ≡ y.0 -ℤ (origin +ℤ by) +ℤ half_after d = omega (arith, ints, here.0) in
    λ i. track_between (start i) (end_alike by d origin content x y xs ys here.1 parts.1 i) ∷ later_alike by d origin content xs ys parts.1 i

all_alike : (by d origin content : ℤ) (x y : ℤ × ℤ) (xs ys : List (ℤ × ℤ)) → same_items (is_moved by) (x ∷ xs) (y ∷ ys) ≡ true → all_tracks d origin content (x ∷ xs) ≡ all_tracks d (origin +ℤ by) content (y ∷ ys)
all_alike by d origin content x y xs ys e =
    let parts = both_moved by x y xs ys e in
    λ i. track_between (pos 0) (end_alike by d origin content x y xs ys (moved_is by x y parts.0).1 parts.1 i) ∷ later_alike by d origin content xs ys parts.1 i

-- ---- the size of the content box

last_alike : (by : ℤ) (x y : ℤ × ℤ) (xs ys : List (ℤ × ℤ)) → same_items (is_moved by) (x ∷ xs) (y ∷ ys) ≡ true → last_end (y ∷ ys) -ℤ last_end (x ∷ xs) ≡ by
last_alike by x y [] [] e = (moved_is by x y (both_moved by x y [] [] e).0).1
last_alike by x y [] (g ∷ ys) e = absurd (false≢true (both_moved by x y [] (g ∷ ys) e).1)
last_alike by x y (f ∷ xs) [] e = absurd (false≢true (both_moved by x y (f ∷ xs) [] e).1)
last_alike by x y (f ∷ xs) (g ∷ ys) e = last_alike by f g xs ys (both_moved by x y (f ∷ xs) (g ∷ ys) e).1

content_alike : (by before after : ℤ) (x y : ℤ × ℤ) (xs ys : List (ℤ × ℤ)) → same_items (is_moved by) (x ∷ xs) (y ∷ ys) ≡ true → content_size (x ∷ xs) before after ≡ content_size (y ∷ ys) before after
content_alike by before after x y xs ys e =
    let wide : last_end (x ∷ xs) -ℤ x.0 ≡ last_end (y ∷ ys) -ℤ y.0 = omega (arith, ints, last_alike by x y xs ys e, (moved_is by x y (both_moved by x y xs ys e).0).0) in
    ap (λ z. clamp (int_max (pos 0) (clamp (int_max (pos 0) z) -ℤ before -ℤ after))) wide

-- ---- all tracks

pub seen_alike : (xs ys : List (ℤ × ℤ)) → lie_alike xs ys ≡ true → AreSeenAlike xs ys
seen_alike [] [] e = record { same = λ d before after. refl }
seen_alike [] (y ∷ ys) e = absurd (false≢true e)
seen_alike (x ∷ xs) [] e = absurd (false≢true e)
seen_alike (x ∷ xs) (y ∷ ys) e = record {
  same = λ d before after.
      let origin : x.0 +ℤ before +ℤ (y.0 -ℤ x.0) ≡ y.0 +ℤ before = omega (arith, ints) in
      all_alike (y.0 -ℤ x.0) d (x.0 +ℤ before) (content_size (x ∷ xs) before after) x y xs ys e ∙ (λ i. all_tracks d (origin i) (content_alike (y.0 -ℤ x.0) before after x y xs ys e i) (y ∷ ys));
}

-- the tracks over one span twice
pub seen_itself : (edges : List (ℤ × ℤ)) (a b : Span) → a.start ≡ b.start → a.end ≡ b.end → AreSeenAlike (tracks_over edges a) (tracks_over edges b)
seen_itself edges a b s e = record { same = λ d before after i. seen d before after (tracks_over edges (record { start = s i; end = e i })) }

pub ruleset alike_laws = (seen_alike, seen_itself)

-- ---- what the last subgrid was given

sides_are : (p q : ViewParts) → same_sides p q ≡ true → (p.gap ≡ q.gap) × (p.before ≡ q.before) × (p.after ≡ q.after)
sides_are p q e =
    let all = and_parts (int_eq p.gap q.gap) (int_eq p.before q.before && int_eq p.after q.after) e in
    let sides = and_parts (int_eq p.before q.before) (int_eq p.after q.after) all.1 in
    ((Decides-int_eq p.gap q.gap).0 all.0, (Decides-int_eq p.before q.before).0 sides.0, (Decides-int_eq p.after q.after).0 sides.1)

pub seen_again : {axis : ℕ} (outer : View axis) (last : LastTracks) (p : ViewParts) (tracks : List (ℤ × ℤ)) → tracks ≡ last.tracks → AreMadeIn outer last → same_sides last.parts p ≡ true → AreSeenAlike (tracks_over outer.edges last.parts.span) (tracks_over outer.edges p.span) →
    AreTracksOf outer p tracks
seen_again outer last p tracks t h s a =
    let sides = sides_are last.parts p s in
    record { same = t ∙ h.tracks.same ∙ (λ i. seen (sides.0 i -ℤ outer.gap) (sides.1 i) (sides.2 i) (tracks_over outer.edges last.parts.span)) ∙ a.same (p.gap -ℤ outer.gap) p.before p.after }

pub made_again : {axis : ℕ} (outer : View axis) (last : LastTracks) (p : ViewParts) → IsSpanIn outer.edges p.span → AreTracksOf outer p last.tracks → AreMadeIn outer (record last { parts = p })
made_again outer last p s h = record { span = s; tracks = h }

-- ---- what this one is given

pub made_anew : {axis : ℕ} (outer : View axis) (p : ViewParts) (view : View axis) (tracks : List (ℤ × ℤ)) → view ≡ view_made outer p → tracks ≡ view.edges → AreTracksOf outer p tracks
made_anew outer p view tracks v t = record { same = t ∙ ap (λ w. w.edges) v }

pub last_made : {axis : ℕ} (outer : View axis) (p : ViewParts) (tracks again : List (ℤ × ℤ)) → IsSpanIn outer.edges p.span → AreTracksOf outer p tracks → again ≡ tracks → AreMadeIn outer (record { parts = p; tracks = again })
last_made outer p tracks again s h e = record { span = s; tracks = record { same = e ∙ h.same } }

pub tracks_are : {axis : ℕ} (outer : View axis) (p : ViewParts) (view : View axis) (tracks : List (ℤ × ℤ)) → AreTracksOf outer p tracks → view_made outer p ≡ view → tracks ≡ view.edges
tracks_are outer p view tracks h v = h.same ∙ ap (λ w. w.edges) v

pub gap_is : {axis : ℕ} (outer : View axis) (p : ViewParts) (view : View axis) → view_made outer p ≡ view → p.gap ≡ view.gap
gap_is outer p view v = ap (λ w. w.gap) v
