-- The greatest fraction, found from the last item to the first.
use Rattle.std.proofs.Common.{arith, ap, subst, ◌≡◌, ◌∙◌, sym, refl, ℕ, zero, suc, ◌+◌, ◌<◌, ◌≤◌, ℤ, pos, ◌≤ℤ◌, Bool, true, false, List, [], ◌∷◌, ◌++◌, map, drop, take, length, get_or, cond, filter}
use Rattle.std.proofs.Math.ListN.{drop_of_length-le}
use Rattle.std.proofs.lemmas.List.{append-nil, take_all}
use Rattle.lunit.specs.declared.item.Item.{Item}
use Rattle.track_sizing.specs.Placed.{AreIn, IsIn}
use Rattle.fr_tracks.specs.Settled.{HaveBases}
use Rattle.part_rules.specs.declared.fraction.FrRow.{FrRow}
use Rattle.part_rules.specs.declared.fraction.Fraction.{Fraction}
use Rattle.part_rules.specs.Tracks.{greater, greatest_fraction}
use Rattle.track_sizing.specs.Flex.{greatest_over}
use Rattle.track_sizing.proofs.Sums.{drop_item}

pub bases_more : (xs : List FrRow) (x : FrRow) → HaveBases xs → pos 0 ≤ℤ x.base → HaveBases (xs ++ x ∷ [])
bases_more [] x h e = (e, tt)
bases_more (y ∷ ys) x h e = (h.0, bases_more ys x h.1 e)

pub bases_drop : (n : ℕ) (xs : List FrRow) → HaveBases xs → HaveBases (drop n xs)
bases_drop zero xs h = h
bases_drop (suc n) [] h = tt
bases_drop (suc n) (x ∷ xs) h = bases_drop n xs h.1

pub bases_take : (n : ℕ) (xs : List FrRow) → HaveBases xs → HaveBases (take n xs)
bases_take zero xs h = tt
bases_take (suc n) [] h = tt
bases_take (suc n) (x ∷ xs) h = (h.0, bases_take n xs h.1)

pub map_take : {A B : Type 0} (f : A → B) (n : ℕ) (xs : List A) → take n (map f xs) ≡ map f (take n xs)
map_take f zero xs = refl
map_take f (suc n) [] = refl
map_take {A = A} {B = B} f (suc n) (x ∷ xs) = ap (λ (ys : List B). f x ∷ ys) (map_take f n xs)

pub map_drop : {A B : Type 0} (f : A → B) (n : ℕ) (xs : List A) → drop n (map f xs) ≡ map f (drop n xs)
map_drop f zero xs = refl
map_drop f (suc n) [] = refl
map_drop f (suc n) (x ∷ xs) = map_drop f n xs

-- The greatest of those from this place on.
pub record IsBest {A : Type 0} (test : A → Bool) (f : A → Fraction) (start : Fraction) (xs : List A) (at : ℕ) (best : Fraction) : Type 0 where
  pub same : best ≡ greatest_over start (map f (filter test (drop at xs)))
  pub weight : 0 < best.weight
  pub space : pos 0 ≤ℤ best.space

pub no_best : {A : Type 0} (test : A → Bool) (f : A → Fraction) (start best : Fraction) (xs : List A) (at : ℕ) → 0 < best.weight → pos 0 ≤ℤ best.space → best ≡ start → length xs ≤ at → IsBest test f start xs at best
no_best {A = A} test f start best xs at w p e h = record { same = e ∙ sym (ap (λ (ys : List A). greatest_over start (map f (filter test ys))) (drop_of_length-le xs h)); weight = w; space = p }

pub more_best : {A : Type 0} (test : A → Bool) (f : A → Fraction) (start best now given : Fraction) (xs : List A) (at next : ℕ) (x : A) → IsBest test f start xs at best → at ≡ next + 1 → next < length xs → x ≡ get_or xs next x → test x ≡ true → given ≡ f x → now ≡ greater given best →
    0 < now.weight → pos 0 ≤ℤ now.space
    → IsBest test f start xs next now
more_best {A = A} test f start best now given xs at next x so d h e t v n w p =
    let rest : List A = drop (next + 1) xs in
    record {
      same =
          n ∙ ap (λ (g : Fraction). greater g best) v ∙ ap (greater (f x)) (so.same ∙ ap (λ (k : ℕ). greatest_over start (map f (filter test (drop k xs)))) d)
          ∙ sym (ap (λ (ys : List A). greatest_over start (map f (filter test ys))) (drop_item xs next x h e) ∙ ap (λ (b : Bool). greatest_over start (map f (cond b (x ∷ filter test rest) (filter test rest)))) t);
      weight = w;
      space = p;
    }

pub passed_best : {A : Type 0} (test : A → Bool) (f : A → Fraction) (start best : Fraction) (xs : List A) (at next : ℕ) (x : A) → IsBest test f start xs at best → at ≡ next + 1 → next < length xs → x ≡ get_or xs next x → test x ≡ false → IsBest test f start xs next best
passed_best {A = A} test f start best xs at next x so d h e t =
    let rest : List A = drop (next + 1) xs in
    record {
      same =
          so.same ∙ ap (λ (k : ℕ). greatest_over start (map f (filter test (drop k xs)))) d
          ∙ sym (ap (λ (ys : List A). greatest_over start (map f (filter test ys))) (drop_item xs next x h e) ∙ ap (λ (b : Bool). greatest_over start (map f (cond b (x ∷ filter test rest) (filter test rest)))) t);
      weight = so.weight;
      space = so.space;
    }

pub all_best : {A : Type 0} (test : A → Bool) (f : A → Fraction) (start best : Fraction) (xs : List A) (at : ℕ) → IsBest test f start xs at best → at ≡ 0 → best ≡ greatest_over start (map f (filter test xs))
all_best test f start best xs at so e = so.same ∙ ap (λ (k : ℕ). greatest_over start (map f (filter test (drop k xs)))) e

pub ruleset best = (no_best, more_best, passed_best, all_best)

-- two lists of fractions, one after the other
pub greatest_parts : (xs ys : List Fraction) → greatest_fraction (xs ++ ys) ≡ greatest_over (greatest_fraction ys) xs
greatest_parts [] ys = refl
greatest_parts (x ∷ xs) ys = ap (greater x) (greatest_parts xs ys)

pub greatest_all : (ys : List Fraction) → greatest_fraction ys ≡ greatest_over (greatest_fraction []) ys
greatest_all [] = refl
greatest_all (y ∷ ys) = ap (greater y) (greatest_all ys)

pub base_at : (xs : List FrRow) (i : ℕ) (x : FrRow) → HaveBases xs → i < length xs → x ≡ get_or xs i x → pos 0 ≤ℤ x.base
base_at xs i x h g e = (subst HaveBases (drop_item xs i x g e) (bases_drop i xs h)).0

pub map_more : {A B : Type 0} (f : A → B) (xs : List A) (i : ℕ) (x : A) → i < length xs → x ≡ get_or xs i x → map f (take (suc i) xs) ≡ map f (take i xs) ++ f x ∷ []
map_more f [] i x h e = absurd (omega arith)
map_more {A = A} {B = B} f (y ∷ ys) zero x h e = ap (λ (z : A). f z ∷ []) (sym e)
map_more {A = A} {B = B} f (y ∷ ys) (suc i) x h e = ap (λ (zs : List B). f y ∷ zs) (map_more f ys i x (omega arith) e)

-- the whole of a list that was changed in place
pub whole_front : {A : Type 0} (n : ℕ) (xs ys : List A) → n ≡ length ys → length xs ≡ length ys → take n (xs ++ drop (length xs) ys) ≡ xs
whole_front {A = A} n xs ys e d =
    ap (λ (zs : List A). take n (xs ++ zs)) (drop_of_length-le ys (let h : length ys ≤ length xs = omega arith in h)) ∙ ap (take n) (append-nil xs) ∙ take_all n xs (omega arith)

pub in_item : (first : ℤ) (n : ℕ) (items : List Item) (k : ℕ) (i : Item) → AreIn first n items → k < length items → i ≡ get_or items k i → IsIn first n i
in_item first n [] k i h g e = absurd (omega arith)
in_item first n (x ∷ xs) zero i h g e = subst (λ (y : Item). IsIn first n y) (sym e) h.0
in_item first n (x ∷ xs) (suc k) i h g e = in_item first n xs k i h.1 (omega arith) e
