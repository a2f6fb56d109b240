-- The rules of the tracks of an axis: as many as there are tracks, and no fixed min function below 0; and no gap below 0.
use Rattle.std.proofs.Common.{arith, rules, refl, ap, subst, sym, ◌∙◌, ◌≡◌, ℕ, zero, suc, ◌-◌, ◌*◌, ◌/◌, ◌%◌, ◌<◌, ◌≤◌, ◌^◌, ℤ, pos, negsuc, ◌+ℤ◌, ◌-ℤ◌, ◌*ℤ◌, ◌≤ℤ◌, Bool, true, false, ◌&&◌, List, [], ◌∷◌, ◌++◌, length, map, take, drop, Option, Some, None}
use Rattle.std.specs.Prelude.{nat_lt, int_le, slice_get, unwrap_or, if◌then◌else◌}
use Rattle.std.specs.Int.{int_min}
use Rattle.std.specs.List.{list_all}
use Rattle.std.proofs.lemmas.Int.{ints, int_max_is, int_min_is}
use Rattle.lunit.specs.Units.{bottom, clamp, floor_div, percent, top}
use Rattle.lunit.specs.declared.geometry.Span.{Span}
use Rattle.part_rules.specs.Lists.{above_zero}
use Rattle.part_rules.specs.Repetition.{cycled, cycled_back, size_at}
use Rattle.part_rules.specs.Tracks.{fixed_least}
use Rattle.style_types.specs.Table.{auto_track}
use Rattle.style_types.specs.declared.track.Breadth.{Breadth}
use Rattle.style_types.specs.declared.track.Breadth.TheVariants as breadth
use Rattle.style_types.specs.declared.track.Repeat.{Repeat}
use Rattle.style_types.specs.declared.track.Template.{Template}
use Rattle.style_types.specs.declared.track.Template.TheVariants as template
use Rattle.style_types.specs.declared.track.TrackFn.{TrackFn}
use Rattle.style_types.specs.declared.track.TrackList.{TrackList}
use Rattle.style_types.specs.declared.value.Size.{Size}
use Rattle.style_types.specs.declared.value.Size.TheVariants as size
use Rattle.tree_rules.specs.Labels.{GridAxis}
use Rattle.tree_rules.specs.Repetitions.{gap_by}
use Rattle.tree_rules.specs.Templates.{Written, repeated_sizes, written, written_repeat}
use Rattle.tree_rules.specs.TrackRules.{axis_rules, coordinates, is_collapsed, least_of, rule_of, tracks_of}
use Rattle.placing.specs.Covered.{IsNear}
use Rattle.placing.specs.Ranges.{IsGridAxis, IsRepeated, IsSize, IsTemplate, are_tracks, is_breadth, is_track}
use Rattle.track_sizing.specs.Fits.{HaveFixed, IsFixed}
use Rattle.track_sizing.specs.Rows.{IsLimit}
use Rattle.inline_sizes.specs.TrackAxes.{IsBase, track_count}

-- ---- tests

first_of : (a b : Bool) → (a && b) ≡ true → a ≡ true
first_of true b h = refl
first_of false b h = h

second_of : (a b : Bool) → (a && b) ≡ true → b ≡ true
second_of true b h = h
second_of false b h = absurd (cc)

both : (a b : Bool) → a ≡ true → b ≡ true → (a && b) ≡ true
both true b h k = k
both false b h k = h

-- ---- lists of which each item passes a test

all_kept : {A : Type 0} → (p : A → Bool) (n : ℕ) (xs : List A) → list_all p xs ≡ true → list_all p (take n xs) ≡ true
all_kept p zero xs h = refl
all_kept p (suc n) [] h = refl
all_kept p (suc n) (x ∷ xs) h = both (p x) (list_all p (take n xs)) (first_of (p x) (list_all p xs) h) (all_kept p n xs (second_of (p x) (list_all p xs) h))

all_left : {A : Type 0} → (p : A → Bool) (n : ℕ) (xs : List A) → list_all p xs ≡ true → list_all p (drop n xs) ≡ true
all_left p zero xs h = h
all_left p (suc n) [] h = refl
all_left p (suc n) (x ∷ xs) h = all_left p n xs (second_of (p x) (list_all p xs) h)

all_in_both : {A : Type 0} → (p : A → Bool) (xs ys : List A) → list_all p xs ≡ true → list_all p ys ≡ true → list_all p (xs ++ ys) ≡ true
all_in_both p [] ys h k = k
all_in_both p (x ∷ xs) ys h k = both (p x) (list_all p (xs ++ ys)) (first_of (p x) (list_all p xs) h) (all_in_both p xs ys (second_of (p x) (list_all p xs) h) k)

all_read : {A : Type 0} → (p : A → Bool) (xs : List A) (i : ℕ) (d : A) → list_all p xs ≡ true → p d ≡ true → p (unwrap_or (slice_get xs i) d) ≡ true
all_read p [] i d h e = e
all_read p (x ∷ xs) zero d h e = first_of (p x) (list_all p xs) h
all_read p (x ∷ xs) (suc i) d h e = all_read p xs i d (second_of (p x) (list_all p xs) h) e

-- ---- the sizes of tracks

all_repeated : (count : ℕ) (sizes : List TrackFn) → are_tracks sizes ≡ true → are_tracks (repeated_sizes count sizes) ≡ true
all_repeated zero sizes h = refl
all_repeated (suc n) sizes h = all_in_both is_track sizes (repeated_sizes n sizes) h (all_repeated n sizes h)

written_all : (l : TrackList) (o : Option Repeat) (count : ℕ) → are_tracks l.sizes ≡ true → IsRepeated o → are_tracks (written_repeat l o count).sizes ≡ true
written_all l None count h r = h
written_all l (Some r) count h k =
    all_in_both is_track (take r.before l.sizes ++ repeated_sizes count r.sizes) (drop r.before l.sizes) (all_in_both is_track (take r.before l.sizes) (repeated_sizes count r.sizes) (all_kept is_track r.before l.sizes h) (all_repeated count r.sizes k.tracks)) (all_left is_track r.before l.sizes h)

written_tracks : (t : Template) (count : ℕ) → IsTemplate t → are_tracks (written t count).sizes ≡ true
written_tracks template.Absent count h = refl
written_tracks (template.Subgrid sets) count h = refl
written_tracks (template.Tracks l) count h = all_kept is_track 10000 (written_repeat l l.repeat count).sizes (written_all l l.repeat count h.tracks h.repeated)

cycled_track : (autos : List TrackFn) (n : ℕ) → are_tracks autos ≡ true → is_track (unwrap_or (cycled autos n) auto_track) ≡ true
cycled_track [] n h = refl
cycled_track (x ∷ xs) n h = all_read is_track (x ∷ xs) (n % length (x ∷ xs)) auto_track h refl

cycled_back_track : (autos : List TrackFn) (n : ℕ) → are_tracks autos ≡ true → is_track (unwrap_or (cycled_back autos n) auto_track) ≡ true
cycled_back_track [] n h = refl
cycled_back_track (x ∷ xs) n h = all_read is_track (x ∷ xs) (length xs - n % length (x ∷ xs)) auto_track h refl

track_at : (sizes autos : List TrackFn) (at : ℤ) → are_tracks sizes ≡ true → are_tracks autos ≡ true → is_track (unwrap_or (size_at sizes autos at) auto_track) ≡ true
track_at sizes autos (negsuc back) h k = cycled_back_track autos back k
track_at sizes autos (pos at) h k = go (nat_lt at (length sizes))
  where
    go : (b : Bool) → is_track (unwrap_or (if b then slice_get sizes at else cycled autos (at - length sizes)) auto_track) ≡ true
    go true = all_read is_track sizes at auto_track h refl
    go false = cycled_track autos (at - length sizes) k

-- ---- numbers of at least 0

le_of : (a b : ℤ) → int_le a b ≡ true → a ≤ℤ b
le_of a b h = search rules

some_clamped : (z : ℤ) → pos 0 ≤ℤ z → pos 0 ≤ℤ clamp z
unfolding clamp
some_clamped z h = omega (arith, ints, h, int_max_is bottom (int_min top z), int_min_is top z)

rounded_some : (r d : ℕ) → floor_div (pos r) d ≡ pos (r / d)
unfolding floor_div
rounded_some r d = refl

product : (n t : ℕ) → pos n *ℤ pos t ≡ pos (n * t)
product n t = omega (arith, ints)

percent_some : (x : ℤ) (t : ℕ) → pos 0 ≤ℤ x → pos 0 ≤ℤ percent x t
percent_some (pos n) t h =
    let exact : floor_div (pos n *ℤ pos t) 100000 ≡ pos (n * t / 100000) = ap (λ (z : ℤ). floor_div z 100000) (product n t) ∙ rounded_some (n * t) 100000 in
    some_clamped (floor_div (pos n *ℤ pos t) 100000) (subst (λ (z : ℤ). pos 0 ≤ℤ z) (sym exact) (omega (arith, ints)))
percent_some (negsuc n) t h = absurd (omega (arith, ints, h))

-- ---- the rules

breadth_fixed : (base : Option ℤ) (b : Breadth) → IsBase base → is_breadth b ≡ true → IsLimit (fixed_least (least_of base b))
breadth_fixed base (breadth.Length x) h k = le_of (pos 0) x k
breadth_fixed None (breadth.Percent t) h k = tt
breadth_fixed (Some x) (breadth.Percent t) h k = percent_some x t h
breadth_fixed base breadth.Auto h k = tt
breadth_fixed base breadth.MinContent h k = tt
breadth_fixed base breadth.MaxContent h k = tt
breadth_fixed base (breadth.Flex w) h k = tt

rule_fixed : (base : Option ℤ) (f : TrackFn) (collapsed : Bool) → IsBase base → is_track f ≡ true → IsFixed (rule_of base f collapsed)
rule_fixed base f collapsed h k = breadth_fixed base f.least h (first_of (is_breadth f.least) (is_breadth f.most) k)

rules_fixed : (base : Option ℤ) (sizes autos : List TrackFn) (flag : ℤ → Bool) (ats : List ℤ) → IsBase base → are_tracks sizes ≡ true → are_tracks autos ≡ true → HaveFixed (map (λ at. rule_of base (unwrap_or (size_at sizes autos at) auto_track) (flag at)) ats)
rules_fixed base sizes autos flag [] h k l = tt
rules_fixed base sizes autos flag (at ∷ rest) h k l = (rule_fixed base (unwrap_or (size_at sizes autos at) auto_track) (flag at) h (track_at sizes autos at k l), rules_fixed base sizes autos flag rest h k l)

-- no min function below 0
pub fixed_rules : (base : Option ℤ) (g : GridAxis) (count : ℕ) (spans : List Span) (tracks : Span) → IsGridAxis g → IsBase base → HaveFixed (axis_rules base g (written g.template count) spans (tracks_of tracks))
fixed_rules base g count spans tracks h k = rules_fixed base (written g.template count).sizes g.autos (is_collapsed (written g.template count).fit spans) (tracks_of tracks) k (written_tracks g.template count h.template) h.autos

length_mapped : {A B : Type 0} → (f : A → B) (xs : List A) → length (map f xs) ≡ length xs
length_mapped f [] = refl
length_mapped f (x ∷ xs) = ap suc (length_mapped f xs)

count_of : (n : ℕ) (at : ℤ) → length (coordinates n at) ≡ n
count_of zero at = refl
count_of (suc n) at = ap suc (count_of n (at +ℤ pos 1))

-- as many as there are tracks
pub rules_counted : (base : Option ℤ) (g : GridAxis) (w : Written) (spans : List Span) (tracks : Span) → length (axis_rules base g w spans (tracks_of tracks)) ≡ track_count tracks
rules_counted base g w spans tracks = length_mapped (λ at. rule_of base (unwrap_or (size_at w.sizes g.autos at) auto_track) (is_collapsed w.fit spans at)) (tracks_of tracks) ∙ count_of (track_count tracks) tracks.start

above_few : (z : ℤ) (n : ℕ) → z ≤ℤ pos n → above_zero z ≤ n
above_few (pos m) n h = omega (arith, ints)
above_few (negsuc m) n h = omega arith

-- which are not many
pub few_tracks : (tracks : Span) → IsNear tracks → track_count tracks < 2 ^ 32
few_tracks tracks h = let few : track_count tracks ≤ 1073741824 = above_few (tracks.end -ℤ tracks.start) 1073741824 (omega (arith, ints, h.low, h.high)) in omega (arith, few)

-- ---- the gap

-- no gap below 0
pub gap_some : (base : Option ℤ) (s : Size) → IsSize s → IsBase base → pos 0 ≤ℤ gap_by base (pos 0) s
gap_some base size.Auto h k = omega (arith, ints)
gap_some base size.Absent h k = omega (arith, ints)
gap_some base size.Normal h k = omega (arith, ints)
gap_some base size.Content h k = omega (arith, ints)
gap_some base (size.Length y) h k = h.low
gap_some None (size.Percent t) h k = omega (arith, ints)
gap_some (Some x) (size.Percent t) h k = percent_some x t k
