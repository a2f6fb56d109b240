-- Sums over tracks, one after another.
use Rattle.std.proofs.Common.{arith, ap, ◌≡◌, ◌∙◌, sym, refl, ℕ, ◌+◌, ◌*◌, ◌<◌, ◌≤◌, ℤ, pos, negsuc, ◌*ℤ◌, ◌+ℤ◌, ◌-ℤ◌, ◌≤ℤ◌, List, ◌∷◌, map, drop, suc, length, get_or, Option, Some, None}
use Rattle.std.specs.Prelude.{option_map}
use Rattle.std.proofs.Math.Seq.{drop-cons}
use Rattle.std.proofs.Math.ListN.{drop_of_length-le}
use Rattle.std.proofs.lemmas.Int.{ints}
use Rattle.lunit.specs.Units.{IsUnits}
use Rattle.part_rules.specs.Lists.{sum_of, sum_of_known}
use Rattle.part_rules.specs.Tracks.{Track}

pub drop_item : {X : Type 0} (xs : List X) (i : ℕ) (x : X) → i < length xs → x ≡ get_or xs i x → drop i xs ≡ x ∷ drop (i + 1) xs
drop_item xs i x h e =
    let next : suc i ≡ i + 1 = omega arith in
    drop-cons xs i x h ∙ ap (λ y. y ∷ drop (suc i) xs) (sym e) ∙ ap (λ (n : ℕ). x ∷ drop n xs) next

pub times_some : (gap : ℤ) (n : ℕ) → pos 0 ≤ℤ gap → pos 0 ≤ℤ (gap *ℤ pos n)
times_some (pos a) n h = omega (arith, ints)
times_some (negsuc a) n h = absurd (omega (arith, ints))

-- The sum of the first lengths; `all` is the sum of all.
pub record IsSumOf (f : Track → ℤ) (ts : List Track) (i : ℕ) (sum : ℤ) : Type 0 where
  pub all : sum +ℤ sum_of (map f (drop i ts)) ≡ sum_of (map f ts)
  pub least : (pos 0 -ℤ pos (i * 1073741824)) ≤ℤ sum
  pub most : sum ≤ℤ pos (i * 1073741824)

pub no_sum : (f : Track → ℤ) (ts : List Track) (sum : ℤ) → sum ≡ pos 0 → IsSumOf f ts 0 sum
no_sum f ts sum e = record { all = omega (arith, ints); least = omega (arith, ints); most = omega (arith, ints) }

pub more_sum : (f : Track → ℤ) (ts : List Track) (i : ℕ) (sum x next : ℤ) (t : Track) → IsSumOf f ts i sum → i < length ts → t ≡ get_or ts i t → x ≡ f t → IsUnits x → next ≡ sum +ℤ x → IsSumOf f ts (i + 1) next
more_sum f ts i sum x next t so h e v u n =
    record {
      all = omega (arith, ints, so.all, ap (λ (xs : List Track). sum_of (map f xs)) (drop_item ts i t h e));
      least = omega (arith, ints, so.least);
      most = omega (arith, ints, so.most);
    }

pub whole_sum : (f : Track → ℤ) (ts : List Track) (i : ℕ) (sum : ℤ) → IsSumOf f ts i sum → length ts ≤ i → sum ≡ sum_of (map f ts)
whole_sum f ts i sum so h = let none : sum_of (map f (drop i ts)) ≡ pos 0 = ap (λ (xs : List Track). sum_of (map f xs)) (drop_of_length-le ts h) in omega (arith, ints, so.all)

pub ruleset sums = (no_sum, more_sum, whole_sum)

-- The sum of the first lengths, which are known.
pub record IsKnown (f : Track → Option ℤ) (ts : List Track) (i : ℕ) (sum : ℤ) : Type 0 where
  pub all : option_map (λ s. sum +ℤ s) (sum_of_known (map f (drop i ts))) ≡ sum_of_known (map f ts)
  pub least : (pos 0 -ℤ pos (i * 1073741824)) ≤ℤ sum
  pub most : sum ≤ℤ pos (i * 1073741824)

add_none : (o : Option ℤ) (sum : ℤ) → sum ≡ pos 0 → option_map (λ s. sum +ℤ s) o ≡ o
add_none None sum e = refl
add_none (Some s) sum e = ap Some (omega (arith, ints))

add_twice : (o : Option ℤ) (a b c : ℤ) → c ≡ a +ℤ b → option_map (λ s. c +ℤ s) o ≡ option_map (λ s. a +ℤ s) (option_map (λ s. b +ℤ s) o)
add_twice None a b c e = refl
add_twice (Some s) a b c e = ap Some (omega (arith, ints))

pub none_known : (f : Track → Option ℤ) (ts : List Track) (sum : ℤ) → sum ≡ pos 0 → IsKnown f ts 0 sum
none_known f ts sum e = record { all = add_none (sum_of_known (map f ts)) sum e; least = omega (arith, ints); most = omega (arith, ints) }

pub more_known : (f : Track → Option ℤ) (ts : List Track) (i : ℕ) (sum x next : ℤ) (t : Track) → IsKnown f ts i sum → i < length ts → t ≡ get_or ts i t → f t ≡ Some x → IsUnits x → next ≡ sum +ℤ x → IsKnown f ts (i + 1) next
more_known f ts i sum x next t so h e v u n =
    let step : sum_of_known (map f (drop i ts)) ≡ option_map (λ s. x +ℤ s) (sum_of_known (map f (drop (i + 1) ts))) =
    ap (λ (xs : List Track). sum_of_known (map f xs)) (drop_item ts i t h e) ∙ ap (λ (o : Option ℤ). sum_of_known (o ∷ map f (drop (i + 1) ts))) v in
    record {
      all = add_twice (sum_of_known (map f (drop (i + 1) ts))) sum x next n ∙ ap (option_map (λ s. sum +ℤ s)) (sym step) ∙ so.all;
      least = omega (arith, ints, so.least);
      most = omega (arith, ints, so.most);
    }

pub whole_known : (f : Track → Option ℤ) (ts : List Track) (i : ℕ) (sum : ℤ) → IsKnown f ts i sum → length ts ≤ i → Some sum ≡ sum_of_known (map f ts)
whole_known f ts i sum so h = ap Some (let e : sum ≡ sum +ℤ pos 0 = omega (arith, ints) in e) ∙ sym (ap (λ (xs : List Track). option_map (λ s. sum +ℤ s) (sum_of_known (map f xs))) (drop_of_length-le ts h)) ∙ so.all

pub not_known : (f : Track → Option ℤ) (ts : List Track) (i : ℕ) (sum : ℤ) (t : Track) → IsKnown f ts i sum → i < length ts → t ≡ get_or ts i t → f t ≡ None → None ≡ sum_of_known (map f ts)
not_known f ts i sum t so h e v =
    sym (ap (λ (xs : List Track). option_map (λ s. sum +ℤ s) (sum_of_known (map f xs))) (drop_item ts i t h e) ∙ ap (λ (o : Option ℤ). option_map (λ s. sum +ℤ s) (sum_of_known (o ∷ map f (drop (i + 1) ts)))) v) ∙ so.all

pub ruleset known = (none_known, more_known, whole_known, not_known)
