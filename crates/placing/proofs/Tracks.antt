-- Tracks that areas cover.
use Rattle.std.proofs.Common.{arith, rules, refl, sym, ap, subst, ◌∙◌, ◌≡◌, ◌⊎◌, inl, inr, ℕ, zero, suc, ◌+◌, ◌-◌, ◌%◌, ◌<◌, ◌≤◌, max, ℤ, pos, negsuc, ◌+ℤ◌, ◌-ℤ◌, ◌≤ℤ◌, ◌<ℤ◌, Bool, true, false, not, ◌&&◌, ◌||◌, List, [], ◌∷◌, ◌++◌, length, take, drop, map, replicate, get_or, Option, Some, None, length-append, append-nil, ◌≢◌}
use Rattle.std.specs.Prelude.{nat_le, nat_lt, int_le, int_lt, slice_get, slice_set, unsigned_abs, if◌then◌else◌}
use Rattle.std.specs.List.{list_any}
use Rattle.std.specs.Option.{unwrap_or}
use Rattle.std.proofs.Math.Nat.{mod-one}
use Rattle.std.proofs.lemmas.Bool.{cases_eq}
use Rattle.std.proofs.lemmas.Bool.Decides.{nat_tests}
use Rattle.std.proofs.lemmas.Int.{ints}
use Rattle.std.proofs.lemmas.List.{drop_all, get_or_append_left}
use Rattle.std.proofs.lemmas.List.Folds.{list_any_more}
use Rattle.lunit.specs.declared.geometry.Span.{Span}
use Rattle.part_rules.specs.declared.track.Rule.{Rule}
use Rattle.part_rules.specs.Lists.{above_zero}
use Rattle.part_rules.specs.Repetition.{covers, cycled, cycled_back, size_at}
use Rattle.style_types.specs.Table.{auto_track}
use Rattle.style_types.specs.declared.track.TrackFn.{TrackFn}
use Rattle.tree_rules.specs.Labels.{GridAxis}
use Rattle.tree_rules.specs.Templates.{Written}
use Rattle.tree_rules.specs.TrackRules.{axis_rules, coordinates, is_collapsed, rule_of, tracks_of}
use Rattle.placing.specs.Covered.{AreFlags, AreMarked, IsNear, IsSwept, is_covered, is_left, is_on, is_reached, rules_by}

-- ---- tests of coordinates

same_truth : (p q : Bool) → (p ≡ true → q ≡ true) → (q ≡ true → p ≡ true) → p ≡ q
same_truth true q f g = sym (f refl)
same_truth false true f g = g refl
same_truth false false f g = refl

from_le : (a b : ℤ) → int_le a b ≡ true → a ≤ℤ b
from_le a b h = search rules

to_le : (a b : ℤ) → a ≤ℤ b → int_le a b ≡ true
to_le a b h = search rules

from_lt : (a b : ℤ) → int_lt a b ≡ true → a <ℤ b
from_lt a b h = search rules

to_lt : (a b : ℤ) → a <ℤ b → int_lt a b ≡ true
to_lt a b h = search rules

nat_from_le : (m n : ℕ) → nat_le m n ≡ true → m ≤ n
nat_from_le m n h = grind (arith, nat_tests)

nat_to_le : (m n : ℕ) → m ≤ n → nat_le m n ≡ true
nat_to_le m n h = grind (arith, nat_tests)

nat_from_lt : (m n : ℕ) → nat_lt m n ≡ true → m < n
nat_from_lt m n h = grind (arith, nat_tests)

nat_to_lt : (m n : ℕ) → m < n → nat_lt m n ≡ true
nat_to_lt m n h = grind (arith, nat_tests)

above_le : (z : ℤ) (j : ℕ) → z ≤ℤ pos j → above_zero z ≤ j
above_le (pos n) j h = omega (arith, ints)
above_le (negsuc n) j h = omega arith

le_above : (z : ℤ) (j : ℕ) → above_zero z ≤ j → z ≤ℤ pos j
le_above (pos n) j h = omega (arith, ints)
le_above (negsuc n) j h = omega (arith, ints)

above_lt : (z : ℤ) (j : ℕ) → pos j <ℤ z → j < above_zero z
above_lt (pos n) j h = omega (arith, ints)
above_lt (negsuc n) j h = absurd (omega (arith, ints))

lt_above : (z : ℤ) (j : ℕ) → j < above_zero z → pos j <ℤ z
lt_above (pos n) j h = omega (arith, ints)
lt_above (negsuc n) j h = absurd (omega arith)

starts_by : (a f : ℤ) (j : ℕ) → nat_le (above_zero (a -ℤ f)) j ≡ int_le a (f +ℤ pos j)
starts_by a f j =
    same_truth (nat_le (above_zero (a -ℤ f)) j) (int_le a (f +ℤ pos j))
    (λ h. let low : (a -ℤ f) ≤ℤ pos j = le_above (a -ℤ f) j (nat_from_le (above_zero (a -ℤ f)) j h) in to_le a (f +ℤ pos j) (omega (arith, ints, low)))
    (λ h. let low : a ≤ℤ (f +ℤ pos j) = from_le a (f +ℤ pos j) h in nat_to_le (above_zero (a -ℤ f)) j (above_le (a -ℤ f) j (omega (arith, ints, low))))

ends_after : (b f : ℤ) (j : ℕ) → nat_lt j (above_zero (b -ℤ f)) ≡ int_lt (f +ℤ pos j) b
ends_after b f j =
    same_truth (nat_lt j (above_zero (b -ℤ f))) (int_lt (f +ℤ pos j) b)
    (λ h. let low : pos j <ℤ (b -ℤ f) = lt_above (b -ℤ f) j (nat_from_lt j (above_zero (b -ℤ f)) h) in to_lt (f +ℤ pos j) b (omega (arith, ints, low)))
    (λ h. let low : (f +ℤ pos j) <ℤ b = from_lt (f +ℤ pos j) b h in nat_to_lt j (above_zero (b -ℤ f)) (above_lt (b -ℤ f) j (omega (arith, ints, low))))

-- an area covers a track as the numbers say that are told from the first one
on_covers : (s : Span) (f : ℤ) (j : ℕ) → is_on j (above_zero (s.start -ℤ f)) (above_zero (s.end -ℤ f)) ≡ covers (f +ℤ pos j) s
on_covers s f j =
    ap (λ b. b && nat_lt j (above_zero (s.end -ℤ f))) (starts_by s.start f j)
    ∙ ap (λ b. int_le s.start (f +ℤ pos j) && b) (ends_after s.end f j)

-- ---- marks

lt_max : (j a b : ℕ) → nat_lt j (max a b) ≡ (nat_lt j a || nat_lt j b)
lt_max j a b = grind (arith, nat_tests)

first_below : (n : ℕ) → nat_lt 0 (suc n) ≡ true
first_below n = grind (arith, nat_tests)

lt_suc : (i n : ℕ) → nat_lt (suc i) (suc n) ≡ nat_lt i n
lt_suc i n = grind (arith, nat_tests)

none_below : (i : ℕ) → nat_lt i 0 ≡ false
none_below i = grind (arith, nat_tests)

or_last : (a b c : Bool) → ((a || c) || b) ≡ ((a || b) || c)
or_last true b c = refl
or_last false true true = refl
or_last false true false = refl
or_last false false true = refl
or_last false false false = refl

or_assoc : (a b c : Bool) → (a || (b || c)) ≡ ((a || b) || c)
or_assoc true b c = refl
or_assoc false b c = refl

or_none : (a : Bool) → a ≡ (a || false)
or_none true = refl
or_none false = refl

-- a mark that is raised
any_set : (p : ℕ → Bool) (n : ℕ) (xs : List ℕ) (i v : ℕ) (q : Bool) → i < length xs → p v ≡ (p (get_or xs i 0) || q) → list_any p (take n (slice_set xs i v)) ≡ (list_any p (take n xs) || (nat_lt i n && q))
any_set p n [] i v q h e = absurd (omega arith)
any_set p zero (x ∷ xs) zero v q h e = refl
any_set p zero (x ∷ xs) (suc i) v q h e = sym (ap (λ b. b && q) (none_below (suc i)))
any_set p (suc n) (x ∷ xs) zero v q h e = ap (λ b. b || list_any p (take n xs)) e ∙ or_last (p x) (list_any p (take n xs)) q ∙ ap (λ b. (p x || list_any p (take n xs)) || (b && q)) (sym (first_below n))
any_set p (suc n) (x ∷ xs) (suc i) v q h e =
    ap (λ b. p x || b) (any_set p n xs i v q (omega arith) e)
    ∙ or_assoc (p x) (list_any p (take n xs)) (nat_lt i n && q)
    ∙ ap (λ b. (p x || list_any p (take n xs)) || (b && q)) (sym (lt_suc i n))

lt_or_le : (start j : ℕ) → nat_lt start (j + 1) ≡ nat_le start j
lt_or_le start j = grind (arith, nat_tests)

pub mark_raised : (marks next slice : List ℕ) (start end reach : ℕ) → start < length marks → next ≡ slice_set marks start reach → reach ≡ max (get_or slice start 0) end → slice ≡ marks → (j : ℕ) →
    list_any (nat_lt j) (take (j + 1) next) ≡ (list_any (nat_lt j) (take (j + 1) marks) || is_on j start end)
mark_raised marks next slice start end reach h e f g j =
    let zero_is : reach ≡ max (get_or marks start 0) end = f ∙ ap (λ (xs : List ℕ). max (get_or xs start 0) end) g in
    ap (λ (xs : List ℕ). list_any (nat_lt j) (take (j + 1) xs)) e
    ∙ any_set (nat_lt j) (j + 1) marks start reach (nat_lt j end) h (ap (nat_lt j) zero_is ∙ lt_max j (get_or marks start 0) end)
    ∙ ap (λ b. list_any (nat_lt j) (take (j + 1) marks) || (b && nat_lt j end)) (lt_or_le start j)

any_zeros : (n count j : ℕ) → list_any (nat_lt j) (take n (replicate count 0)) ≡ false
any_zeros zero count j = any_nothing (replicate count 0) j
  where
    any_nothing : (xs : List ℕ) (j : ℕ) → list_any (nat_lt j) (take 0 xs) ≡ false
    any_nothing [] j = refl
    any_nothing (x ∷ xs) j = refl
any_zeros (suc n) zero j = refl
any_zeros (suc n) (suc count) j = ap (λ b. b || list_any (nat_lt j) (take n (replicate count 0))) (none_below j) ∙ any_zeros n count j

zeros : ℕ → List ℕ
zeros n = replicate n 0

length_zeros : (count : ℕ) → length (zeros count) ≡ count
unfolding zeros
length_zeros zero = refl
length_zeros (suc n) = ap suc (length_zeros n)

zeros_back : (n : ℕ) → 0 ∷ zeros n ≡ zeros n ++ 0 ∷ []
unfolding zeros
zeros_back zero = refl
zeros_back (suc n) = ap (λ (xs : List ℕ). 0 ∷ xs) (zeros_back n)

pub zeros_more : (n : ℕ) (made more : List ℕ) → made ≡ replicate n 0 → more ≡ made ++ 0 ∷ [] → more ≡ replicate (n + 1) 0
unfolding zeros
zeros_more n made more e f =
    let one_more : n + 1 ≡ suc n = omega arith in
    f ∙ ap (λ (xs : List ℕ). xs ++ 0 ∷ []) e ∙ sym (zeros_back n) ∙ ap zeros (sym one_more)

pub none_marked : (first : ℤ) (count : ℕ) (marks : List ℕ) → marks ≡ replicate count 0 → AreMarked first [] count marks
unfolding zeros
none_marked first count marks e = record {
  counted = ap length e ∙ length_zeros count;
  told = λ at h. ap (λ (xs : List ℕ). list_any (nat_lt at) (take (at + 1) xs)) e ∙ any_zeros (at + 1) count at;
}

pub on_area : (s : Span) (f : ℤ) (j start end : ℕ) → start ≡ above_zero (s.start -ℤ f) → end ≡ above_zero (s.end -ℤ f) → is_on j start end ≡ covers (f +ℤ pos j) s
on_area s f j start end a e =
    ap (λ (n : ℕ). is_on j n end) a
    ∙ ap (λ (n : ℕ). is_on j (above_zero (s.start -ℤ f)) n) e
    ∙ on_covers s f j

pub more_marked : (first : ℤ) (areas : List Span) (i count : ℕ) (d : Span) (marks next : List ℕ) → i < length areas → length next ≡ length marks →
    ((j : ℕ) → j < length marks → list_any (nat_lt j) (take (j + 1) next) ≡ (list_any (nat_lt j) (take (j + 1) marks) || covers (first +ℤ pos j) (get_or areas i d))) → AreMarked first (take i areas) count marks → AreMarked first (take (i + 1) areas) count next
more_marked first areas i count d marks next h len more m = record {
  counted = len ∙ m.counted;
  told = λ at k.
      more at (omega (arith, k, m.counted))
      ∙ ap (λ b. b || covers (first +ℤ pos at) (get_or areas i d)) (m.told at k)
      ∙ sym (list_any_more (covers (first +ℤ pos at)) areas i d h);
}

-- ---- the sweep

get_last : (flags : List Bool) (b : Bool) (n : ℕ) → length flags ≡ n → get_or (flags ++ b ∷ []) n false ≡ b
get_last [] b zero h = refl
get_last [] b (suc n) h = absurd (omega arith)
get_last (f ∷ flags) b zero h = absurd (omega arith)
get_last (f ∷ flags) b (suc n) h = get_last flags b n (omega arith)

-- the flags of one rule are those of another that says the same
same_flags : (flag other : ℕ → Bool) (count : ℕ) (flags : List Bool) → ((at : ℕ) → at < count → flag at ≡ other at) → AreFlags flag count flags → AreFlags other count flags
same_flags flag other count flags same f = record { counted = f.counted; told = λ at h. f.told at h ∙ same at h }

-- ---- flags of tracks

pub reached_covered : (first : ℤ) (areas : List Span) (count n : ℕ) (marks : List ℕ) (flags : List Bool) → AreMarked first areas count marks → n ≡ length marks → AreFlags (is_reached marks) n flags → AreFlags (is_covered first areas) count flags
reached_covered first areas count n marks flags m e f =
    let same : n ≡ count = e ∙ m.counted in
    same_flags (is_reached marks) (is_covered first areas) count flags m.told (subst (λ (k : ℕ). AreFlags (is_reached marks) k flags) same f)

pub left_collapsed : (first : ℤ) (areas : List Span) (from to count n : ℕ) (covered flags : List Bool) → AreFlags (is_covered first areas) count covered → n ≡ length covered → AreFlags (is_left from to first covered) n flags →
    AreFlags (λ at. is_collapsed (Some (from, to)) areas (first +ℤ pos at)) count flags
left_collapsed first areas from to count n covered flags c e f =
    let same : n ≡ count = e ∙ c.counted in
    same_flags (is_left from to first covered) (λ at. is_collapsed (Some (from, to)) areas (first +ℤ pos at)) count flags
    (λ at h. ap (λ b. (int_le (pos from) (first +ℤ pos at) && int_lt (first +ℤ pos at) (pos to)) && not b) (c.told at h))
    (subst (λ (k : ℕ). AreFlags (is_left from to first covered) k flags) same f)

-- ---- sizes by coordinate

pub read_own : (t a : List TrackFn) (z : ℤ) → pos 0 ≤ℤ z → unsigned_abs z < length t → unwrap_or (size_at t a z) auto_track ≡ unwrap_or (slice_get t (unsigned_abs z)) auto_track
read_own t a (pos n) h k = let yes : nat_lt n (length t) ≡ true = nat_to_lt n (length t) k in ap (λ b. unwrap_or (if b then slice_get t n else cycled a (n - length t)) auto_track) yes
read_own t a (negsuc n) h k = absurd (omega (arith, ints))

pub read_after : (t a : List TrackFn) (z : ℤ) → pos 0 ≤ℤ z → length t ≤ unsigned_abs z → unwrap_or (size_at t a z) auto_track ≡ unwrap_or (cycled a (unsigned_abs z - length t)) auto_track
read_after t a (pos n) h k = let no : nat_lt n (length t) ≡ false = grind (arith, nat_tests) in ap (λ b. unwrap_or (if b then slice_get t n else cycled a (n - length t)) auto_track) no
read_after t a (negsuc n) h k = absurd (omega (arith, ints))

pub read_before : (t a : List TrackFn) (z : ℤ) → z <ℤ pos 0 → unwrap_or (size_at t a z) auto_track ≡ unwrap_or (cycled_back a (unsigned_abs z - 1)) auto_track
read_before t a (pos n) h = absurd (omega (arith, ints))
read_before t a (negsuc n) h = let e : n ≡ unsigned_abs (negsuc n) - 1 = omega arith in ap (λ (k : ℕ). unwrap_or (cycled_back a k) auto_track) e

pub cycled_some : (a : List TrackFn) (n : ℕ) → 0 < length a → cycled a n ≡ slice_get a (n % length a)
cycled_some [] n h = absurd (omega arith)
cycled_some (x ∷ a) n h = refl

pub cycled_none : (a : List TrackFn) (n : ℕ) → a ≡ [] → unwrap_or (cycled a n) auto_track ≡ auto_track
cycled_none a n e = ap (λ (xs : List TrackFn). unwrap_or (cycled xs n) auto_track) e

pub back_some : (a : List TrackFn) (n : ℕ) → 0 < length a → cycled_back a n ≡ slice_get a (length a - 1 - n % length a)
back_some [] n h = absurd (omega arith)
back_some (x ∷ a) n h = let e : length a - n % length (x ∷ a) ≡ length (x ∷ a) - 1 - n % length (x ∷ a) = omega arith in ap (slice_get (x ∷ a)) e

pub back_none : (a : List TrackFn) (n : ℕ) → a ≡ [] → unwrap_or (cycled_back a n) auto_track ≡ auto_track
back_none a n e = ap (λ (xs : List TrackFn). unwrap_or (cycled_back xs n) auto_track) e

-- no automatic sizes are the one size `auto`
pub one_auto : (t : List TrackFn) (z : ℤ) → unwrap_or (size_at t [] z) auto_track ≡ unwrap_or (size_at t (auto_track ∷ []) z) auto_track
one_auto t (pos n) = either (nat_lt n (length t))
  where
    after : (k : ℕ) → auto_track ≡ unwrap_or (slice_get (auto_track ∷ []) (k % 1)) auto_track
    after k = ap (λ (i : ℕ). unwrap_or (slice_get (auto_track ∷ []) i) auto_track) (sym (mod-one k))

    either : (b : Bool) → unwrap_or (if b then slice_get t n else None) auto_track ≡ unwrap_or (if b then slice_get t n else slice_get (auto_track ∷ []) ((n - length t) % 1)) auto_track
    either true = refl
    either false = after (n - length t)
one_auto t (negsuc n) = let e : 0 ≡ 0 - n % 1 = omega arith in ap (λ (i : ℕ). unwrap_or (slice_get (auto_track ∷ []) i) auto_track) e

-- ---- rules

get_or_next : (xs : List Bool) (i : ℕ) → i < length xs → drop i xs ≡ get_or xs i false ∷ drop (i + 1) xs
get_or_next [] i h = absurd (omega arith)
get_or_next (x ∷ xs) zero h = refl
get_or_next (x ∷ xs) (suc i) h = let more : suc i + 1 ≡ suc (i + 1) = omega arith in get_or_next xs i (omega arith) ∙ ap (λ (k : ℕ). get_or xs i false ∷ drop k (x ∷ xs)) (sym more)

append_one : (xs ys : List Rule) (r : Rule) → (xs ++ r ∷ []) ++ ys ≡ xs ++ r ∷ ys
append_one [] ys r = refl
append_one (x ∷ xs) ys r = ap (λ (zs : List Rule). x ∷ zs) (append_one xs ys r)

pub rules_next : (base : Option ℤ) (sizes autos : List TrackFn) (first : ℤ) (i : ℕ) (flags : List Bool) (rule : Rule) (made more all : List Rule) → i < length flags → rule ≡ rule_of base (unwrap_or (size_at sizes autos (first +ℤ pos i)) auto_track) (get_or flags i false) →
    more ≡ made ++ rule ∷ [] → made ++ rules_by base sizes autos (first +ℤ pos i) (drop i flags) ≡ all → more ++ rules_by base sizes autos (first +ℤ pos (i + 1)) (drop (i + 1) flags) ≡ all
rules_next base sizes autos first i flags rule made more all h r m inv =
    let next : first +ℤ pos (i + 1) ≡ first +ℤ pos i +ℤ pos 1 = omega (arith, ints) in
    let rest : List Rule = rules_by base sizes autos (first +ℤ pos i +ℤ pos 1) (drop (i + 1) flags) in
    ap (λ (z : ℤ). more ++ rules_by base sizes autos z (drop (i + 1) flags)) next
    ∙ ap (λ (xs : List Rule). xs ++ rest) m
    ∙ append_one made rest rule
    ∙ ap (λ (x : Rule). made ++ x ∷ rest) r
    ∙ ap (λ (bs : List Bool). made ++ rules_by base sizes autos (first +ℤ pos i) bs) (sym (get_or_next flags i h))
    ∙ inv

-- the rules by flags are those by coordinates
pub rules_are : (base : Option ℤ) (sizes autos all : List TrackFn) (flag : ℤ → Bool) (first : ℤ) (count : ℕ) (flags : List Bool) → AreFlags (λ at. flag (first +ℤ pos at)) count flags →
    ((z : ℤ) → unwrap_or (size_at sizes autos z) auto_track ≡ unwrap_or (size_at sizes all z) auto_track) → rules_by base sizes autos first flags ≡ map (λ at. rule_of base (unwrap_or (size_at sizes all at) auto_track) (flag at)) (coordinates count first)
rules_are base sizes autos all flag first zero [] f same = refl
rules_are base sizes autos all flag first zero (b ∷ flags) f same = absurd (omega (arith, f.counted))
rules_are base sizes autos all flag first (suc n) [] f same = absurd (omega (arith, f.counted))
rules_are base sizes autos all flag first (suc n) (b ∷ flags) f same =
    let here : first +ℤ pos 0 ≡ first = omega (arith, ints) in
    let rest : AreFlags (λ at. flag (first +ℤ pos 1 +ℤ pos at)) n flags = record { counted = omega (arith, f.counted); told = λ at h. let there : first +ℤ pos (suc at) ≡ first +ℤ pos 1 +ℤ pos at = omega (arith, ints) in f.told (suc at) (omega arith) ∙ ap flag there } in
    ap (λ (x : Rule). x ∷ rules_by base sizes autos (first +ℤ pos 1) flags) (ap (λ (s : TrackFn). rule_of base s b) (same first) ∙ ap (λ c. rule_of base (unwrap_or (size_at sizes all first) auto_track) c) (f.told 0 (omega arith) ∙ ap flag here))
    ∙ ap (λ (xs : List Rule). rule_of base (unwrap_or (size_at sizes all first) auto_track) (flag first) ∷ xs) (rules_are base sizes autos all flag (first +ℤ pos 1) n flags rest same)

pub few_tracks : (n : ℕ) (s : Span) → n ≡ above_zero (s.end -ℤ s.start) → IsNear s → n ≤ 1073741824
few_tracks n s e h = let few : above_zero (s.end -ℤ s.start) ≤ 1073741824 = above_le (s.end -ℤ s.start) 1073741824 (omega (arith, ints, h.low, h.high)) in omega (arith, e, few)

-- the rules that are made are those of the tracks
pub rules_made : (base : Option ℤ) (g : GridAxis) (w : Written) (areas : List Span) (tracks : Span) (sizes autos : List TrackFn) (fit : Option (ℕ × ℕ)) (count : ℕ) (flags : List Bool) → sizes ≡ w.sizes → fit ≡ w.fit → count ≡ above_zero (tracks.end -ℤ tracks.start) →
    AreFlags (λ at. is_collapsed fit areas (tracks.start +ℤ pos at)) count flags → ((ss : List TrackFn) (z : ℤ) → unwrap_or (size_at ss autos z) auto_track ≡ unwrap_or (size_at ss g.autos z) auto_track) →
    rules_by base sizes autos tracks.start flags ≡ axis_rules base g w areas (tracks_of tracks)
rules_made base g w areas tracks sizes autos fit count flags s f c flagged same =
    rules_are base sizes autos g.autos (is_collapsed fit areas) tracks.start count flags flagged (same sizes)
    ∙ ap (λ (xs : List TrackFn). map (λ at. rule_of base (unwrap_or (size_at xs g.autos at) auto_track) (is_collapsed fit areas at)) (coordinates count tracks.start)) s
    ∙ ap (λ (o : Option (ℕ × ℕ)). map (λ at. rule_of base (unwrap_or (size_at w.sizes g.autos at) auto_track) (is_collapsed o areas at)) (coordinates count tracks.start)) f
    ∙ ap (λ (n : ℕ). map (λ at. rule_of base (unwrap_or (size_at w.sizes g.autos at) auto_track) (is_collapsed w.fit areas at)) (coordinates n tracks.start)) c

pub ruleset cycling = (cycled_some, cycled_none, back_some, back_none)

pub ruleset reading = (read_own, read_after, read_before)
