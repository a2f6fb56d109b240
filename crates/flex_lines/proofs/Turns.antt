-- A round over what is kept of a line is a turn of the line.
use Rattle.std.proofs.Common.{arith, ap, subst, ◌≡◌, ◌∙◌, sym, refl, ℕ, zero, suc, ◌+◌, ◌-◌, ◌<◌, ◌≤◌, ℤ, pos, ◌+ℤ◌, ◌-ℤ◌, Bool, List, [], ◌∷◌, length, map, Option, Some, None, if◌then◌else◌}
use Rattle.std.specs.List.{All}
use Rattle.std.specs.Int.{int_max}
use Rattle.std.proofs.lemmas.Int.{ints}
use Rattle.lunit.specs.Units.{clamp}
use Rattle.part_rules.specs.declared.flex.FlexItem.{FlexItem}
use Rattle.part_rules.specs.Lists.{sum_of, total_of, zipped}
use Rattle.part_rules.specs.FlexLines.{Piece, begin, free_factor, free_space, frozen_by, gaps, given_space, grows, line_sizes, outer_now, resolved, size_of, turn, violation, weight_of}
use Rattle.flex_lines.specs.declared.flexible.Flexible.{Flexible}
use Rattle.flex_lines.specs.Ranges.{ArePlaced}
use Rattle.flex_lines.specs.Rounds.{change_of, flexible_from, held_by, left, newly_held, pieces, round_sizes, round_space, settled, space_given, space_left, tries, IsKeptOf, IsRoundOf}
use Rattle.flex_lines.proofs.Kept.{changes_are, factors_are, held_is, left_is, next-length, outer_is, sizes_are, still, turn_is, weights_are}

-- the space that is left, from what is kept
pub space_is : (grow : Bool) (main gap : ℤ) (line : List Piece) (fs : List Flexible) (taken : ℤ) (all : List ℤ) → IsKeptOf gap line fs taken all
    → space_left grow main taken (sum_of (map outer_now (pieces fs))) ≡ free_space grow main gap line
space_is grow main gap line fs taken all k =
    let outer : sum_of (map outer_now (pieces fs)) ≡ sum_of (map outer_now (pieces (flexible_from 0 line))) = ap (λ (xs : List Flexible). sum_of (map outer_now (pieces xs))) k.flexible in
    let rest : main -ℤ taken -ℤ sum_of (map outer_now (pieces fs)) ≡ main -ℤ gaps gap (length line) -ℤ sum_of (map outer_now line) = omega (arith, ints, outer, k.held, outer_is 0 line) in
    ap (λ (z : ℤ). clamp (int_max (pos 0) (if grow then z else pos 0 -ℤ z))) rest

given_is : (grow : Bool) (main gap initial : ℤ) (line : List Piece) (fs : List Flexible) (taken : ℤ) (all : List ℤ) → IsKeptOf gap line fs taken all
    → round_space grow main initial taken fs ≡ given_space grow main gap initial line
unfolding round_space
given_is grow main gap initial line fs taken all k =
    ap (λ (z : ℤ). space_given initial z (total_of (map (free_factor grow) (pieces fs)))) (space_is grow main gap line fs taken all k)
    ∙ ap (space_given initial (free_space grow main gap line)) (ap (λ (xs : List Flexible). total_of (map (free_factor grow) (pieces xs))) k.flexible ∙ factors_are grow 0 line)

sizes_tried : (grow : Bool) (main gap initial : ℤ) (line : List Piece) (fs : List Flexible) (taken : ℤ) (all : List ℤ) → IsKeptOf gap line fs taken all
    → round_sizes grow main initial taken fs ≡ tries grow (given_space grow main gap initial line) (total_of (map (weight_of grow) line)) 0 (pieces (flexible_from 0 line))
unfolding round_sizes
sizes_tried grow main gap initial line fs taken all k =
    ap (λ (z : ℤ). tries grow z (total_of (map (weight_of grow) (pieces fs))) 0 (pieces fs)) (given_is grow main gap initial line fs taken all k)
    ∙ ap (λ (n : ℕ). tries grow (given_space grow main gap initial line) n 0 (pieces fs)) (ap (λ (xs : List Flexible). total_of (map (weight_of grow) (pieces xs))) k.flexible ∙ weights_are grow 0 line)
    ∙ ap (λ (xs : List Flexible). tries grow (given_space grow main gap initial line) (total_of (map (weight_of grow) line)) 0 (pieces xs)) k.flexible

-- What is kept after a round is kept of the line after a turn.
pub kept_next : (grow : Bool) (main gap initial : ℤ) (line : List Piece) (fs : List Flexible) (taken : ℤ) (all : List ℤ) (rest : List Flexible) (held : ℤ) (sizes : List ℤ)
    → IsKeptOf gap line fs taken all → IsRoundOf grow main initial fs taken all rest held sizes → IsKeptOf gap (turn grow main gap initial line) rest held sizes
kept_next grow main gap initial line fs taken all rest held sizes k r =
    let space : ℤ = given_space grow main gap initial line in
    let whole : ℕ = total_of (map (weight_of grow) line) in
    let free : List Flexible = flexible_from 0 line in
    let tried : List ℤ = tries grow space whole 0 (pieces free) in
    let on_line : List ℤ = tries grow space whole 0 line in
    let sum : ℤ = sum_of (zipped violation line on_line) in
    let next : List Piece = zipped (frozen_by sum) line on_line in
    let found : round_sizes grow main initial taken fs ≡ tried = sizes_tried grow main gap initial line fs taken all k in
    let change : change_of fs (round_sizes grow main initial taken fs) ≡ sum = ap (λ (xs : List Flexible). change_of xs (round_sizes grow main initial taken fs)) k.flexible ∙ ap (change_of free) found ∙ changes_are grow space whole 0 0 line in
    let turned : turn grow main gap initial line ≡ next = turn_is grow main gap initial line in
    let flexible : rest ≡ flexible_from 0 next =
    r.flexible ∙ ap (λ (z : ℤ). left z fs (round_sizes grow main initial taken fs)) change ∙ ap (λ (xs : List Flexible). left sum xs (round_sizes grow main initial taken fs)) k.flexible ∙ ap (left sum free) found ∙ left_is grow space whole sum 0 0 line in
    let new : newly_held (change_of fs (round_sizes grow main initial taken fs)) fs (round_sizes grow main initial taken fs) ≡ newly_held sum free tried =
    ap (λ (z : ℤ). newly_held z fs (round_sizes grow main initial taken fs)) change ∙ ap (λ (xs : List Flexible). newly_held sum xs (round_sizes grow main initial taken fs)) k.flexible ∙ ap (newly_held sum free) found in
    let many : gaps gap (length next) ≡ gaps gap (length line) = ap (gaps gap) (next-length grow space whole sum 0 line) in
    let taken_now : held ≡ gaps gap (length next) +ℤ held_by next = omega (arith, ints, r.taken_is, new, k.held, many, held_is grow space whole sum 0 0 line) in
    let sizes_now : sizes ≡ map size_of next =
    r.sizes_are ∙ ap (λ (z : ℤ). settled z fs (round_sizes grow main initial taken fs) all) change ∙ ap (λ (xs : List Flexible). settled sum xs (round_sizes grow main initial taken fs) all) k.flexible ∙ ap (λ (ts : List ℤ). settled sum free ts all) found
    ∙ ap (settled sum free tried) k.sizes ∙ sizes_are grow space whole sum 0 0 line [] refl in
    subst (λ (ps : List Piece). IsKeptOf gap ps rest held sizes) (sym turned) (record { flexible = flexible; held = taken_now; sizes = sizes_now })

pub turn-length : (grow : Bool) (main gap initial : ℤ) (line : List Piece) → length (turn grow main gap initial line) ≡ length line
turn-length grow main gap initial line =
    let ts : List ℤ = tries grow (given_space grow main gap initial line) (total_of (map (weight_of grow) line)) 0 line in
    ap length (turn_is grow main gap initial line) ∙ next-length grow (given_space grow main gap initial line) (total_of (map (weight_of grow) line)) (sum_of (zipped violation line ts)) 0 line

-- a line whose items are all frozen stays as it is
pub turn_still : (grow : Bool) (main gap initial : ℤ) (line : List Piece) → flexible_from 0 line ≡ [] → turn grow main gap initial line ≡ line
turn_still grow main gap initial line h =
    let ts : List ℤ = tries grow (given_space grow main gap initial line) (total_of (map (weight_of grow) line)) 0 line in
    turn_is grow main gap initial line ∙ still grow (given_space grow main gap initial line) (total_of (map (weight_of grow) line)) (sum_of (zipped violation line ts)) 0 0 line h

-- ---- the places of items

all_first : (P : Flexible → Type 0) (f : Flexible) (fs : List Flexible) → P f → All P fs → All P (f ∷ fs)
all_first P f fs p h zero d lt = p
all_first P f fs p h (suc k) d lt = h k d (omega (arith, lt))

placed_from : (place items : ℕ) (line : List Piece) → place + length line ≤ items → ArePlaced items (flexible_from place line)
placed_from place items [] h = λ k d lt. absurd (omega (arith, lt))
placed_from place items (p ∷ rest) h = go p.item p.frozen (placed_from (suc place) items rest (omega (arith, h)))
  where
    go : (i : FlexItem) (o : Option ℤ) → ArePlaced items (flexible_from (suc place) rest) → ArePlaced items (flexible_from place (record { item = i; frozen = o } ∷ rest))
    go i None ih = all_first (λ f. f.place < items) (record { place = place; item = i }) (flexible_from (suc place) rest) (omega (arith, h)) ih
    go i (Some s) ih = ih

few_from : (place : ℕ) (line : List Piece) → length (flexible_from place line) ≤ length line
few_from place [] = omega arith
few_from place (p ∷ rest) = go p.item p.frozen (few_from (suc place) rest)
  where
    go : (i : FlexItem) (o : Option ℤ) → length (flexible_from (suc place) rest) ≤ length rest → length (flexible_from place (record { item = i; frozen = o } ∷ rest)) ≤ suc (length rest)
    go i None ih = omega (arith, ih)
    go i (Some s) ih = omega (arith, ih)

pub mapped-length : {A B : Type 0} (f : A → B) (xs : List A) → length (map f xs) ≡ length xs
mapped-length f [] = refl
mapped-length f (x ∷ xs) = ap suc (mapped-length f xs)

-- what is kept fits the line
pub kept_placed : (gap : ℤ) (line : List Piece) (fs : List Flexible) (taken : ℤ) (all : List ℤ) → IsKeptOf gap line fs taken all → ArePlaced (length all) fs
kept_placed gap line fs taken all k =
    let items : length line ≡ length all = sym (ap length k.sizes ∙ mapped-length size_of line) in
    subst (λ (n : ℕ). ArePlaced n fs) items (subst (ArePlaced (length line)) (sym k.flexible) (placed_from 0 (length line) line (omega arith)))

pub kept_few : (gap : ℤ) (line : List Piece) (fs : List Flexible) (taken : ℤ) (all : List ℤ) → IsKeptOf gap line fs taken all → length fs ≤ length line
kept_few gap line fs taken all k = subst (λ (xs : List Flexible). length xs ≤ length line) (sym k.flexible) (few_from 0 line)

-- ---- all rounds

pub resolved_next : (grow : Bool) (main gap initial : ℤ) (line : List Piece) (i n : ℕ) → i < n → resolved (n - (i + 1)) grow main gap initial (turn grow main gap initial line) ≡ resolved (n - i) grow main gap initial line
unfolding resolved
resolved_next grow main gap initial line i n h = ap (λ (m : ℕ). resolved m grow main gap initial line) (let e : suc (n - (i + 1)) ≡ n - i = omega (arith, h) in e)

pub resolved_end : (grow : Bool) (main gap initial : ℤ) (line : List Piece) (i n : ℕ) → n ≤ i → resolved (n - i) grow main gap initial line ≡ line
unfolding resolved
resolved_end grow main gap initial line i n h = ap (λ (m : ℕ). resolved m grow main gap initial line) (let e : n - i ≡ 0 = omega (arith, h) in e)

pub resolved_still : (turns : ℕ) (grow : Bool) (main gap initial : ℤ) (line : List Piece) → flexible_from 0 line ≡ [] → resolved turns grow main gap initial line ≡ line
unfolding resolved
resolved_still zero grow main gap initial line h = refl
resolved_still (suc turns) grow main gap initial line h = ap (resolved turns grow main gap initial) (turn_still grow main gap initial line h) ∙ resolved_still turns grow main gap initial line h

-- the sizes at the end
pub line_is : (main gap initial : ℤ) (grow : Bool) (items : List FlexItem) → grow ≡ grows main gap items → initial ≡ free_space grow main gap (map (begin grow) items)
    → map size_of (resolved (length items) grow main gap initial (map (begin grow) items)) ≡ line_sizes main gap items
line_is main gap initial grow items e f =
    ap (λ (z : ℤ). map size_of (resolved (length items) grow main gap z (map (begin grow) items))) f
    ∙ ap (λ (g : Bool). map size_of (resolved (length items) g main gap (free_space g main gap (map (begin g) items)) (map (begin g) items))) e
