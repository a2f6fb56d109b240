-- Parts of a space by the factors of tracks.
use Rattle.std.proofs.Common.{arith, ap, subst, ◌≡◌, ◌∙◌, sym, refl, ℕ, ◌+◌, ◌^◌, ◌<◌, ◌≤◌, ℤ, pos, negsuc, ◌+ℤ◌, ◌-ℤ◌, ◌*ℤ◌, ◌≤ℤ◌, List, [], ◌∷◌, ◌++◌, map, take, drop, set, length, get_or, append_assoc}
use Rattle.std.proofs.Math.Nat.{mul-le-mul_left}
use Rattle.std.proofs.Math.ListN.{drop_of_length-le}
use Rattle.std.proofs.lemmas.List.{take_more_set, take_all, append-nil, drop-drop, drop-set-lt}
use Rattle.std.proofs.lemmas.Int.{ints, clamps}
use Rattle.lunit.specs.Units.{clamp, top, IsUnits, IsWide}
use Rattle.part_rules.specs.Lists.{total_of, zipped}
use Rattle.part_rules.specs.Sharing.{part, apportioned_after, apportioned_whole}
use Rattle.part_rules.proofs.Floor.{floor_div_low, floor_div_high, floor_div-none, cancel}
use Rattle.part_rules.specs.Tracks.{Track, incur}
use Rattle.track_sizing.specs.declared.kinds.Affected.{Affected}
use Rattle.track_sizing.specs.Here.{AreQuiet, weight_of}
use Rattle.track_sizing.proofs.Sums.{drop_item}

part_most : (space : ℤ) (whole n : ℕ) → 0 < whole → pos 0 ≤ℤ space → n ≤ whole → part space whole n ≤ℤ space
part_most (negsuc a) whole n some p h = absurd (omega (arith, ints))
part_most (pos a) whole n some p h = cancel (part (pos a) whole n) (pos a) whole (omega (arith, ints, floor_div_low (pos a *ℤ pos n) whole some, mul-le-mul_left a h))

pub part_rises : (space : ℤ) (whole m n : ℕ) → 0 < whole → pos 0 ≤ℤ space → m ≤ n → part space whole m ≤ℤ part space whole n
part_rises (negsuc a) whole m n some p h = absurd (omega (arith, ints))
part_rises (pos a) whole m n some p h = cancel (part (pos a) whole m) (part (pos a) whole n) whole (omega (arith, ints, floor_div_low (pos a *ℤ pos m) whole some, floor_div_high (pos a *ℤ pos n) whole some, mul-le-mul_left a h))

part_least : (space : ℤ) (whole n : ℕ) → 0 < whole → pos 0 ≤ℤ space → pos 0 ≤ℤ part space whole n
part_least space whole n some p = omega (arith, ints, part_rises space whole 0 n some p (omega arith), floor_div-none space whole some)

abbrev rest_given : Affected → ℤ → ℕ → ℕ → List Track → List Track
rest_given a space whole before ts = zipped incur ts (apportioned_after before space whole (map (weight_of a) ts))

-- The first tracks have their parts, and the others are as they were; `before` is the weight of the first.
pub record AreParts (a : Affected) (space : ℤ) (whole : ℕ) (old now : List Track) (i before : ℕ) (lower : ℤ) : Type 0 where
  pub weight : before + total_of (map (weight_of a) (drop i old)) ≡ whole
  pub lower_is : lower ≡ part space whole before
  pub least : pos 0 ≤ℤ lower
  pub most : lower ≤ℤ space
  pub rows : take i now ++ rest_given a space whole before (drop i old) ≡ rest_given a space whole 0 old
  pub rest : drop i now ≡ drop i old
  pub quiet : AreQuiet (drop i old)

pub no_parts : (a : Affected) (space : ℤ) (whole : ℕ) (old : List Track) (lower : ℤ) → 0 < whole → pos 0 ≤ℤ space → AreQuiet old → whole ≡ total_of (map (weight_of a) old) → lower ≡ pos 0 → AreParts a space whole old old 0 0 lower
no_parts a space whole old lower some p q w e =
    record {
      weight = omega arith;
      lower_is = e ∙ sym (floor_div-none space whole some);
      least = omega (arith, ints);
      most = omega (arith, ints);
      rows = refl;
      rest = refl;
      quiet = q;
    }

-- what the next track gets
pub record IsNextPart (space lower upper : ℤ) (t : Track) : Type 0 where
  pub wide : IsWide (upper -ℤ lower)
  pub kept : clamp (upper -ℤ lower) ≡ upper -ℤ lower
  pub some : pos 0 ≤ℤ clamp (upper -ℤ lower)
  pub fits : IsUnits (t.incurred +ℤ clamp (upper -ℤ lower))

pub next_part : (a : Affected) (space : ℤ) (whole : ℕ) (old now : List Track) (i before next : ℕ) (lower upper : ℤ) (t : Track) → AreParts a space whole old now i before lower → 0 < whole → pos 0 ≤ℤ space → space ≤ℤ top → i < length now → t ≡ get_or now i t
    → next ≡ before + weight_of a t → upper ≡ part space whole next → IsNextPart space lower upper t
unfolding clamp
next_part a space whole old now i before next lower upper t so some p most h e n u =
    let front : drop i old ≡ t ∷ drop (i + 1) now = sym so.rest ∙ drop_item now i t h e in
    let quiet = subst AreQuiet front so.quiet in
    let weights : total_of (map (weight_of a) (drop i old)) ≡ weight_of a t + total_of (map (weight_of a) (drop (i + 1) now)) = ap (λ (ts : List Track). total_of (map (weight_of a) ts)) front in
    let few : next ≤ whole = omega (arith, so.weight) in
    let rises : part space whole before ≤ℤ part space whole next = part_rises space whole before next some p (omega arith) in
    let tops : part space whole next ≤ℤ space = part_most space whole next some p few in
    let kept : clamp (upper -ℤ lower) ≡ upper -ℤ lower = omega (arith, ints, clamps, so.lower_is, so.least, so.most) in
    record {
      wide = (omega (arith, ints, so.lower_is, so.least, so.most), omega (arith, ints, so.lower_is, so.least, so.most));
      kept = kept;
      some = omega (arith, ints, clamps, so.lower_is, so.least, so.most);
      fits = (omega (arith, ints, clamps, so.lower_is, so.least, so.most, quiet.0), omega (arith, ints, clamps, so.lower_is, so.least, so.most, quiet.0));
    }

pub more_parts : (a : Affected) (space : ℤ) (whole : ℕ) (old now : List Track) (i before next : ℕ) (lower upper : ℤ) (t : Track) (y : Track) → AreParts a space whole old now i before lower → 0 < whole → pos 0 ≤ℤ space → space ≤ℤ top → i < length now → t ≡ get_or now i t
    → next ≡ before + weight_of a t → upper ≡ part space whole next → y ≡ incur t (clamp (upper -ℤ lower)) → AreParts a space whole old (set now i y) (i + 1) next upper
more_parts a space whole old now i before next lower upper t y so some p most h e n u v =
    let front : drop i old ≡ t ∷ drop (i + 1) now = sym so.rest ∙ drop_item now i t h e in
    let same : drop (i + 1) old ≡ drop (i + 1) now = sym (drop-drop 1 i old) ∙ ap (drop 1) front in
    let weights : total_of (map (weight_of a) (drop i old)) ≡ weight_of a t + total_of (map (weight_of a) (drop (i + 1) now)) = ap (λ (ts : List Track). total_of (map (weight_of a) ts)) front in
    let one = next_part a space whole old now i before next lower upper t so some p most h e n u in
    record {
      weight = omega (arith, so.weight, ap (λ (ts : List Track). total_of (map (weight_of a) ts)) same);
      lower_is = u;
      least = omega (arith, ints, part_least space whole next some p);
      most = omega (arith, ints, part_most space whole next some p (omega (arith, so.weight)));
      rows =
          ap (λ (xs : List Track). xs ++ rest_given a space whole next (drop (i + 1) old)) (take_more_set now i y h)
          ∙ append_assoc (take i now) (y ∷ []) (rest_given a space whole next (drop (i + 1) old))
          ∙ ap (λ (xs : List Track). take i now ++ y ∷ rest_given a space whole next xs) same
          ∙ ap (λ (x : Track). take i now ++ x ∷ rest_given a space whole next (drop (i + 1) now)) (v ∙ ap (incur t) one.kept)
          ∙ ap (λ (z : ℤ). take i now ++ incur t (z -ℤ lower) ∷ rest_given a space whole next (drop (i + 1) now)) u
          ∙ ap (λ (z : ℤ). take i now ++ incur t (part space whole next -ℤ z) ∷ rest_given a space whole next (drop (i + 1) now)) so.lower_is
          ∙ ap (λ (k : ℕ). take i now ++ incur t (part space whole k -ℤ part space whole before) ∷ rest_given a space whole k (drop (i + 1) now)) n
          ∙ ap (λ (xs : List Track). take i now ++ rest_given a space whole before xs) (sym front)
          ∙ so.rows;
      rest = drop-set-lt (i + 1) now i y (omega arith) ∙ sym same;
      quiet = (subst (λ (xs : List Track). AreQuiet (t ∷ xs)) (sym same) (subst AreQuiet front so.quiet)).1;
    }

pub all_parts : (a : Affected) (space : ℤ) (whole : ℕ) (old now : List Track) (i before : ℕ) (lower : ℤ) → AreParts a space whole old now i before lower → length now ≤ i → length old ≤ i → whole ≡ total_of (map (weight_of a) old)
    → now ≡ zipped incur old (apportioned_whole space (map (weight_of a) old))
all_parts a space whole old now i before lower so h g w =
    sym (ap (λ (xs : List Track). take i now ++ rest_given a space whole before xs) (drop_of_length-le old g) ∙ append-nil (take i now) ∙ take_all i now h) ∙ so.rows ∙ ap (λ (n : ℕ). rest_given a space n 0 old) w

pub ruleset parts = (no_parts, all_parts)

pub part_fits : (space : ℤ) (n : ℕ) → pos 0 ≤ℤ space → space ≤ℤ top → n < 2 ^ 65 → IsWide (space *ℤ pos n)
part_fits (negsuc a) n p h g = absurd (omega (arith, ints))
part_fits (pos a) n p h g =
    let few : a ≤ 1073741824 = omega (arith, ints) in
    (omega (arith, ints), omega (arith, ints, mul-le-mul_left n few))
