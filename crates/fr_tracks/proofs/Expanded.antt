-- Tracks that are expanded one after another.
use Rattle.std.proofs.Common.{arith, ap, ◌≡◌, ◌∙◌, sym, refl, ℕ, suc, ◌+◌, ◌*◌, ◌^◌, ◌<◌, ◌≤◌, ◌⊎◌, inl, inr, ℤ, pos, negsuc, ◌+ℤ◌, ◌-ℤ◌, ◌*ℤ◌, ◌≤ℤ◌, ◌<ℤ◌, List, [], ◌∷◌, ◌++◌, map, take, drop, set, length, get_or}
use Rattle.std.proofs.Common.{append_assoc}
use Rattle.std.proofs.Math.Seq.{drop-cons}
use Rattle.std.proofs.Math.ListN.{drop_of_length-le}
use Rattle.std.proofs.lemmas.List.{take_more_set, drop-drop, drop-set-lt, take_all, append-nil}
use Rattle.std.proofs.Math.Nat.{mul-le-mul_left}
use Rattle.std.proofs.lemmas.Int.{ints}
use Rattle.lunit.specs.Units.{floor_div, IsUnits, IsWide}
use Rattle.part_rules.specs.declared.fraction.FrRow.{FrRow}
use Rattle.part_rules.specs.declared.fraction.Fraction.{Fraction}
use Rattle.part_rules.specs.Lists.{zipped}
use Rattle.part_rules.specs.Sharing.{part, apportioned_after}
use Rattle.part_rules.proofs.Floor.{add-times, times-add, floor_div-none, floor_div_low, floor_div_high, cancel}
use Rattle.part_rules.specs.Fractions.{weight_in, with_part, expanded}

-- ---- the parts of a space lie on its side of 0

abbrev IsSide : ℤ → ℤ → Type 0
IsSide space x = ((pos 0 ≤ℤ space) × ((pos 0 ≤ℤ x) × (x ≤ℤ pos (2 ^ 126)))) ⊎ ((space <ℤ pos 0) × ((x ≤ℤ pos 0) × ((pos 0 -ℤ pos (2 ^ 126)) ≤ℤ x)))

below_zero : (m whole : ℕ) (z : ℤ) → 0 < whole → z +ℤ pos m ≡ pos 0 → (z *ℤ pos whole) ≤ℤ z
below_zero m whole z some e = omega (arith, ints, mul-le-mul_left m some, ap (λ (y : ℤ). y *ℤ pos whole) e, add-times z (pos m) whole)

part_side : (space : ℤ) (whole n : ℕ) → IsUnits space → 0 < whole → n ≤ 2 ^ 96 → IsSide space (part space whole n)
part_side (pos a) whole n u some h =
    let q : ℤ = part (pos a) whole n in
    let few : a ≤ 1073741824 = omega (arith, ints) in
    let low : pos 0 ≤ℤ q = cancel (pos 0) q whole (omega (arith, ints, floor_div_high (pos a *ℤ pos n) whole some)) in
    let high : q ≤ℤ pos (a * n) = cancel q (pos (a * n)) whole (omega (arith, ints, floor_div_low (pos a *ℤ pos n) whole some, mul-le-mul_left (a * n) some)) in
    inl (omega (arith, ints), (low, omega (arith, ints, high, mul-le-mul_left n few)))
part_side (negsuc a) whole n u some h =
    let q : ℤ = part (negsuc a) whole n in
    let few : suc a ≤ 1073741824 = omega (arith, ints) in
    let high : q ≤ℤ pos 0 = cancel q (pos 0) whole (omega (arith, ints, floor_div_low (negsuc a *ℤ pos n) whole some)) in
    let least : ((negsuc a *ℤ pos n) *ℤ pos whole) ≤ℤ (negsuc a *ℤ pos n) = below_zero (suc a * n) whole (negsuc a *ℤ pos n) some (omega (arith, ints)) in
    let low : (negsuc a *ℤ pos n) ≤ℤ q = cancel (negsuc a *ℤ pos n) q whole (omega (arith, ints, floor_div_high (negsuc a *ℤ pos n) whole some, least)) in
    inr (omega (arith, ints), (high, omega (arith, ints, low, mul-le-mul_left n few)))

pub difference_fits : (space lower upper : ℤ) (whole m n : ℕ) → IsUnits space → 0 < whole → m ≤ 2 ^ 96 → n ≤ 2 ^ 96 → upper ≡ part space whole n → lower ≡ part space whole m → IsWide (upper -ℤ lower)
difference_fits space lower upper whole m n u some a b e d = go (part_side space whole m u some a) (part_side space whole n u some b)
  where
    go : IsSide space (part space whole m) → IsSide space (part space whole n) → IsWide (upper -ℤ lower)
    go (inl p) (inl q) = (omega (arith, ints), omega (arith, ints))
    go (inl p) (inr q) = absurd (omega (arith, ints))
    go (inr p) (inl q) = absurd (omega (arith, ints))
    go (inr p) (inr q) = (omega (arith, ints), omega (arith, ints))

pub product_fits : (space product : ℤ) (n : ℕ) → IsUnits space → n ≤ 2 ^ 96 → product ≡ space *ℤ pos n → IsWide product
product_fits (pos a) product n u h e =
    let few : a ≤ 1073741824 = omega (arith, ints) in
    (omega (arith, ints, mul-le-mul_left n few), omega (arith, ints, mul-le-mul_left n few))
product_fits (negsuc a) product n u h e =
    let few : suc a ≤ 1073741824 = omega (arith, ints) in
    (omega (arith, ints, mul-le-mul_left n few), omega (arith, ints, mul-le-mul_left n few))

-- ---- one after another

pub drop_item : {X : Type 0} (xs : List X) (i : ℕ) (x : X) → i < length xs → x ≡ get_or xs i x → drop i xs ≡ x ∷ drop (i + 1) xs
drop_item xs i x h e =
    let next : suc i ≡ i + 1 = omega arith in
    drop-cons xs i x h ∙ ap (λ y. y ∷ drop (suc i) xs) (sym e) ∙ ap (λ (n : ℕ). x ∷ drop n xs) next

next_rest : (old now : List FrRow) (i : ℕ) (x : FrRow) → drop i old ≡ x ∷ drop (i + 1) now → drop (i + 1) old ≡ drop (i + 1) now
next_rest old now i x e = sym (drop-drop 1 i old) ∙ ap (drop 1) e

abbrev rest_expanded : Fraction → ℕ → List FrRow → List FrRow
rest_expanded f before rows = zipped (with_part f) rows (apportioned_after before f.space f.weight (map (weight_in f) rows))

-- The first tracks have their parts, and the others are as they were; `before` is the weight of the first.
pub record AreExpanded (f : Fraction) (old now : List FrRow) (i : ℕ) (product lower : ℤ) : Type 0 where
  pub before : ℕ
  pub few : before ≤ i * 4294967296
  pub product_is : product ≡ f.space *ℤ pos before
  pub lower_is : lower ≡ part f.space f.weight before
  pub rows : take i now ++ zipped (with_part f) (drop i old) (apportioned_after before f.space f.weight (map (weight_in f) (drop i old))) ≡ expanded f old
  pub rest : drop i now ≡ drop i old

pub none_expanded : (f : Fraction) (old : List FrRow) (product lower : ℤ) → 0 < f.weight → product ≡ pos 0 → lower ≡ pos 0 → AreExpanded f old old 0 product lower
none_expanded f old product lower some e d =
    record {
      before = 0;
      few = omega arith;
      product_is = omega (arith, ints);
      lower_is = d ∙ sym (floor_div-none f.space f.weight some);
      rows = refl;
      rest = refl;
    }

pub more_expanded : (f : Fraction) (old now : List FrRow) (i : ℕ) (product lower next upper : ℤ) (x : FrRow) (w : ℕ) → AreExpanded f old now i product lower → i < length now → x ≡ get_or now i x → w ≡ weight_in f x → w < 2 ^ 32
    → next ≡ product +ℤ f.space *ℤ pos w → upper ≡ floor_div next f.weight → AreExpanded f old (set now i (with_part f x (upper -ℤ lower))) (i + 1) next upper
more_expanded f old now i product lower next upper x w so h e weight small n u =
    let y : FrRow = with_part f x (upper -ℤ lower) in
    let front : drop i now ≡ x ∷ drop (i + 1) now = drop_item now i x h e in
    let back : drop i old ≡ x ∷ drop (i + 1) now = sym so.rest ∙ front in
    let same : drop (i + 1) old ≡ drop (i + 1) now = next_rest old now i x back in
    let sum : f.space *ℤ pos (so.before + w) ≡ next = times-add f.space so.before w ∙ ap (λ (z : ℤ). z +ℤ f.space *ℤ pos w) (sym so.product_is) ∙ sym n in
    let above : upper ≡ part f.space f.weight (so.before + w) = u ∙ ap (λ (z : ℤ). floor_div z f.weight) (sym sum) in
    record {
      before = so.before + w;
      few = omega (arith, so.few);
      product_is = sym sum;
      lower_is = above;
      rows =
          ap (λ (xs : List FrRow). xs ++ rest_expanded f (so.before + w) (drop (i + 1) old)) (take_more_set now i y h)
          ∙ append_assoc (take i now) (y ∷ []) (rest_expanded f (so.before + w) (drop (i + 1) old))
          ∙ ap (λ (xs : List FrRow). take i now ++ y ∷ rest_expanded f (so.before + w) xs) same
          ∙ ap (λ (z : ℤ). take i now ++ with_part f x (z -ℤ lower) ∷ rest_expanded f (so.before + w) (drop (i + 1) now)) above
          ∙ ap (λ (z : ℤ). take i now ++ with_part f x (part f.space f.weight (so.before + w) -ℤ z) ∷ rest_expanded f (so.before + w) (drop (i + 1) now)) so.lower_is
          ∙ ap (λ (k : ℕ). take i now ++ with_part f x (part f.space f.weight (so.before + k) -ℤ part f.space f.weight so.before) ∷ rest_expanded f (so.before + k) (drop (i + 1) now)) weight
          ∙ ap (λ (xs : List FrRow). take i now ++ rest_expanded f so.before xs) (sym back)
          ∙ so.rows;
      rest = drop-set-lt (i + 1) now i y (omega arith) ∙ sym same;
    }

pub all_expanded : (f : Fraction) (old now : List FrRow) (i : ℕ) (product lower : ℤ) → AreExpanded f old now i product lower → length now ≡ length old → length now ≤ i → now ≡ expanded f old
all_expanded f old now i product lower so same end =
    let over : length old ≤ i = omega arith in
    sym (ap (λ (xs : List FrRow). take i now ++ rest_expanded f so.before xs) (drop_of_length-le old over) ∙ append-nil (take i now) ∙ take_all i now end) ∙ so.rows

pub ruleset parts = (none_expanded, more_expanded, all_expanded)
