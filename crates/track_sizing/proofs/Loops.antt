-- Loops over tracks, one after another.
use Rattle.std.proofs.Common.{arith, ap, ◌≡◌, ◌∙◌, sym, refl, ℕ, ◌+◌, ◌<◌, ◌≤◌, List, [], ◌∷◌, ◌++◌, map, take, drop, set, length, get_or, append_assoc}
use Rattle.std.proofs.Math.ListN.{drop_of_length-le}
use Rattle.std.proofs.lemmas.List.{take_more_set, take_all, append-nil, drop-drop, drop-set-lt}
use Rattle.part_rules.specs.Lists.{zipped}
use Rattle.track_sizing.proofs.Sums.{drop_item}

-- ---- each item changed

-- The first items are changed, and the others are as they were.
pub record IsMapped {A B : Type 0} (f : A → B) (from : List A) (now : List B) (i : ℕ) : Type 0 where
  pub same : take i now ++ map f (drop i from) ≡ map f from

pub nothing_mapped : {A B : Type 0} (f : A → B) (from : List A) (now : List B) → IsMapped f from now 0
nothing_mapped f from now = record { same = refl }

pub more_mapped : {A B : Type 0} (f : A → B) (from : List A) (now : List B) (i : ℕ) (x : A) (y : B) → IsMapped f from now i → i < length now → i < length from → x ≡ get_or from i x → y ≡ f x → IsMapped f from (set now i y) (i + 1)
more_mapped {A = A} {B = B} f from now i x y so h g e v =
    record {
      same =
          ap (λ (ys : List B). ys ++ map f (drop (i + 1) from)) (take_more_set now i y h)
          ∙ append_assoc (take i now) (y ∷ []) (map f (drop (i + 1) from))
          ∙ ap (λ (z : B). take i now ++ z ∷ map f (drop (i + 1) from)) v
          ∙ ap (λ (xs : List A). take i now ++ map f xs) (sym (drop_item from i x g e))
          ∙ so.same;
    }

pub all_mapped : {A B : Type 0} (f : A → B) (from : List A) (now : List B) (i : ℕ) → IsMapped f from now i → length now ≤ i → length from ≤ i → now ≡ map f from
all_mapped {A = A} {B = B} f from now i so h g = sym (ap (λ (xs : List A). take i now ++ map f xs) (drop_of_length-le from g) ∙ append-nil (take i now) ∙ take_all i now h) ∙ so.same

pub ruleset filling = (nothing_mapped, more_mapped, all_mapped)

-- ---- each item changed by one of another list

-- The first items are changed by those of the other list, and the others are as they were.
pub record IsZipped {A B : Type 0} (f : A → B → A) (from : List A) (with : List B) (now : List A) (i : ℕ) : Type 0 where
  pub same : take i now ++ zipped f (drop i from) (drop i with) ≡ zipped f from with
  pub rest : drop i now ≡ drop i from

pub nothing_zipped : {A B : Type 0} (f : A → B → A) (from : List A) (with : List B) → IsZipped f from with from 0
nothing_zipped f from with = record { same = refl; rest = refl }

next_rest : {A : Type 0} (from now : List A) (i : ℕ) → drop i now ≡ drop i from → drop (i + 1) now ≡ drop (i + 1) from
next_rest from now i e = sym (drop-drop 1 i now) ∙ ap (drop 1) e ∙ drop-drop 1 i from

pub more_zipped : {A B : Type 0} (f : A → B → A) (from : List A) (with : List B) (now : List A) (i : ℕ) (x : A) (s : B) (y : A) → IsZipped f from with now i → i < length now → i < length with → x ≡ get_or now i x → s ≡ get_or with i s → y ≡ f x s → IsZipped f from with (set now i y) (i + 1)
more_zipped {A = A} {B = B} f from with now i x s y so h g e d v =
    let next : drop (i + 1) now ≡ drop (i + 1) from = next_rest from now i so.rest in
    let front : drop i from ≡ x ∷ drop (i + 1) from = sym so.rest ∙ drop_item now i x h e ∙ ap (λ (xs : List A). x ∷ xs) next in
    record {
      same =
          ap (λ (ys : List A). ys ++ zipped f (drop (i + 1) from) (drop (i + 1) with)) (take_more_set now i y h)
          ∙ append_assoc (take i now) (y ∷ []) (zipped f (drop (i + 1) from) (drop (i + 1) with))
          ∙ ap (λ (z : A). take i now ++ z ∷ zipped f (drop (i + 1) from) (drop (i + 1) with)) v
          ∙ ap (λ (xs : List A). take i now ++ zipped f xs (s ∷ drop (i + 1) with)) (sym front)
          ∙ ap (λ (ys : List B). take i now ++ zipped f (drop i from) ys) (sym (drop_item with i s g d))
          ∙ so.same;
      rest = drop-set-lt (i + 1) now i y (omega arith) ∙ next;
    }

pub all_zipped : {A B : Type 0} (f : A → B → A) (from : List A) (with : List B) (now : List A) (i : ℕ) → IsZipped f from with now i → length now ≤ i → length from ≤ i → now ≡ zipped f from with
all_zipped {A = A} {B = B} f from with now i so h g = sym (ap (λ (xs : List A). take i now ++ zipped f xs (drop i with)) (drop_of_length-le from g) ∙ append-nil (take i now) ∙ take_all i now h) ∙ so.same

pub ruleset zipping = (nothing_zipped, more_zipped, all_zipped)

-- ---- each item changed in place

-- The first items are changed, and the others are as they were.
pub record IsChanged {A : Type 0} (f : A → A) (from now : List A) (i : ℕ) : Type 0 where
  pub same : take i now ++ map f (drop i from) ≡ map f from
  pub rest : drop i now ≡ drop i from

pub nothing_changed : {A : Type 0} (f : A → A) (from : List A) → IsChanged f from from 0
nothing_changed f from = record { same = refl; rest = refl }

pub more_changed : {A : Type 0} (f : A → A) (from now : List A) (i : ℕ) (x y : A) → IsChanged f from now i → i < length now → x ≡ get_or now i x → y ≡ f x → IsChanged f from (set now i y) (i + 1)
more_changed {A = A} f from now i x y so h e v =
    let next : drop (i + 1) now ≡ drop (i + 1) from = next_rest from now i so.rest in
    let front : drop i from ≡ x ∷ drop (i + 1) from = sym so.rest ∙ drop_item now i x h e ∙ ap (λ (xs : List A). x ∷ xs) next in
    record {
      same =
          ap (λ (ys : List A). ys ++ map f (drop (i + 1) from)) (take_more_set now i y h)
          ∙ append_assoc (take i now) (y ∷ []) (map f (drop (i + 1) from))
          ∙ ap (λ (z : A). take i now ++ z ∷ map f (drop (i + 1) from)) v
          ∙ ap (λ (xs : List A). take i now ++ map f xs) (sym front)
          ∙ so.same;
      rest = drop-set-lt (i + 1) now i y (omega arith) ∙ next;
    }

pub all_changed : {A : Type 0} (f : A → A) (from now : List A) (i : ℕ) → IsChanged f from now i → length now ≤ i → length from ≤ i → now ≡ map f from
all_changed {A = A} f from now i so h g = sym (ap (λ (xs : List A). take i now ++ map f xs) (drop_of_length-le from g) ∙ append-nil (take i now) ∙ take_all i now h) ∙ so.same

pub ruleset changing = (nothing_changed, more_changed, all_changed)
