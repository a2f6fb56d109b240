-- What children told, child by child.
use Rattle.std.proofs.Common.{◌≡◌, ℕ, zero, suc, ◌+◌, ◌<◌, ◌≤◌, Bool, true, false, List, [], ◌∷◌, ◌++◌, Some, refl, sym, ap, ◌∙◌, arith, append_assoc, append-nil, length, length-append, map, subst, inl, inr}
use Rattle.std.specs.Prelude.{◌==◌, ◌||◌, ◌⊎◌, ◌≢◌, slice_get, slice_set}
use Rattle.std.proofs.lemmas.Bool.{cases_eq, cases_lt, eqb-true}
use Rattle.std.proofs.lemmas.Option.{slice_get_within}
use Rattle.lunit.specs.declared.item.Item.{Item}
use Rattle.part_rules.specs.Lists.{joined}
use Rattle.placing.specs.Told.{AllBut, AreTold, Each, HasParts, ends_from, is_listed}

-- ---- lists by their indices
pub get_old : {X : Type 0} (xs : List X) (x : X) (k : ℕ) → k < length xs → slice_get (xs ++ x ∷ []) k ≡ slice_get xs k
get_old [] x k h = absurd (omega (arith, h))
get_old (y ∷ xs) x zero h = refl
get_old (y ∷ xs) x (suc k) h = get_old xs x k (omega (arith, h))

pub get_last : {X : Type 0} (xs : List X) (x : X) → slice_get (xs ++ x ∷ []) (length xs) ≡ Some x
get_last [] x = refl
get_last (y ∷ xs) x = get_last xs x

get_set : {X : Type 0} (xs : List X) (k : ℕ) (x : X) → k < length xs → slice_get (slice_set xs k x) k ≡ Some x
get_set [] k x h = absurd (omega (arith, h))
get_set (y ∷ xs) zero x h = refl
get_set (y ∷ xs) (suc k) x h = get_set xs k x (omega (arith, h))

get_other : {X : Type 0} (xs : List X) (k j : ℕ) (x : X) → j ≢ k → slice_get (slice_set xs k x) j ≡ slice_get xs j
get_other [] k j x h = refl
get_other (y ∷ xs) zero zero x h = absurd (h refl)
get_other (y ∷ xs) zero (suc j) x h = refl
get_other (y ∷ xs) (suc k) zero x h = refl
get_other (y ∷ xs) (suc k) (suc j) x h = get_other xs k j x (λ e. h (ap suc e))

length_set : {X : Type 0} (xs : List X) (k : ℕ) (x : X) → length (slice_set xs k x) ≡ length xs
length_set [] k x = refl
length_set (y ∷ xs) zero x = refl
length_set (y ∷ xs) (suc k) x = ap suc (length_set xs k x)

pub some_same : {X : Type 0} (x y : X) → Some x ≡ Some y → x ≡ y
some_same x y e = cc

pub length_push : {X : Type 0} (xs : List X) (x : X) → length (xs ++ x ∷ []) ≡ suc (length xs)
length_push [] x = refl
length_push (y ∷ xs) x = ap suc (length_push xs x)

-- ---- where items end
pub joined_push : {A : Type 0} (ps : List (List A)) (p : List A) → joined (ps ++ p ∷ []) ≡ joined ps ++ p
joined_push [] p = append-nil p
joined_push (q ∷ ps) p = ap (λ z. q ++ z) (joined_push ps p) ∙ sym (append_assoc q (joined ps) p)

pub ends_push : (n : ℕ) (ps : List (List Item)) (p : List Item) → ends_from n (ps ++ p ∷ []) ≡ ends_from n ps ++ (n + length (joined ps ++ p)) ∷ []
ends_push n [] p = refl
ends_push n (q ∷ ps) p =
    let count : n + length q + length (joined ps ++ p) ≡ n + length ((q ++ joined ps) ++ p) = omega (arith, length-append (joined ps) p, length-append (q ++ joined ps) p, length-append q (joined ps)) in
    ap (λ z. (n + length q) ∷ z) (ends_push (n + length q) ps p ∙ ap (λ e. ends_from (n + length q) ps ++ e ∷ []) count)

pub ends_counted : (n : ℕ) (ps : List (List Item)) → length (ends_from n ps) ≡ length ps
ends_counted n [] = refl
ends_counted n (p ∷ ps) = ap suc (ends_counted (n + length p) ps)

-- ---- none, and one more
pub told_none : {X : Type 0} (T : ℕ → X → List Item → Type 0) → AreTold Each T [] [] []
told_none {X} T = record { parts = []; joined = refl; ended = refl; counted = refl; each = none }
  where
    none : (k : ℕ) (x : X) (p : List Item) → slice_get {X = X} [] k ≡ Some x → slice_get {X = List Item} [] k ≡ Some p → Each k → T k x p
    none k x p e f c = absurd cc

pub told_push : {X : Type 0} (T : ℕ → X → List Item → Type 0) (xs : List X) (items : List Item) (ends : List ℕ) (x : X) (p : List Item) → AreTold Each T xs items ends → T (length xs) x p
    → AreTold Each T (xs ++ x ∷ []) (items ++ p) (ends ++ (length (items ++ p)) ∷ [])
told_push {X} T xs items ends x p t h =
    record {
      parts = t.parts ++ p ∷ [];
      joined = ap (λ z. z ++ p) t.joined ∙ sym (joined_push t.parts p);
      ended = (λ i. t.ended i ++ (length (t.joined i ++ p)) ∷ []) ∙ ap (λ e. ends_from 0 t.parts ++ e ∷ []) zeroed ∙ sym (ends_push 0 t.parts p);
      counted = length_push t.parts p ∙ ap suc t.counted ∙ sym (length_push xs x);
      each = λ k y q e f c. at k y q e f (cases_lt k (length xs));
    }
  where
    zeroed : length (joined t.parts ++ p) ≡ 0 + length (joined t.parts ++ p)
    zeroed = omega arith

    at : (k : ℕ) (y : X) (q : List Item) → slice_get (xs ++ x ∷ []) k ≡ Some y → slice_get (t.parts ++ p ∷ []) k ≡ Some q → (k < length xs) ⊎ (length xs ≤ k) → T k y q
    at k y q e f (inl l) = t.each k y q (sym (get_old xs x k l) ∙ e) (sym (get_old t.parts p k (omega (arith, l, t.counted))) ∙ f) tt
    at k y q e f (inr l) =
        let within : k < length (xs ++ x ∷ []) = slice_get_within (xs ++ x ∷ []) k y e in
        let last : k ≡ length xs = omega (arith, l, within, length_push xs x) in
        let own : x ≡ y = some_same x y (sym (get_last xs x) ∙ ap (slice_get (xs ++ x ∷ [])) (sym last) ∙ e) in
        let part : p ≡ q = some_same p q (sym (get_last t.parts p) ∙ ap (slice_get (t.parts ++ p ∷ [])) (t.counted ∙ sym last) ∙ f) in
        subst (λ z. T k y z) part (subst (λ z. T k z p) own (subst (λ z. T z x p) (sym last) h))

-- ---- one told again
but_later : (k j : ℕ) (rest : List ℕ) → j ≢ k → is_listed j rest ≡ false → is_listed j (k ∷ rest) ≡ false
but_later k j rest h e = at (k == j) refl
  where
    at : (b : Bool) → (k == j) ≡ b → (b || is_listed j rest) ≡ false
    at false f = e
    at true f = absurd (h (sym (eqb-true k j f)))

pub told_set : {X : Type 0} (T : ℕ → X → List Item → Type 0) (xs : List X) (items : List Item) (ends : List ℕ) (k : ℕ) (rest : List ℕ) (x : X) (p items' : List Item) (ends' : List ℕ)
    → AreTold (AllBut (k ∷ rest)) T xs items ends → k < length xs → T k x p
    → ((parts : List (List Item)) → items ≡ joined parts → ends ≡ ends_from 0 parts → items' ≡ joined (slice_set parts k p))
    → ((parts : List (List Item)) → items ≡ joined parts → ends ≡ ends_from 0 parts → ends' ≡ ends_from 0 (slice_set parts k p))
    → AreTold (AllBut rest) T (slice_set xs k x) items' ends'
told_set {X} T xs items ends k rest x p items' ends' t h own f g =
    record {
      parts = slice_set t.parts k p;
      joined = f t.parts t.joined t.ended;
      ended = g t.parts t.joined t.ended;
      counted = length_set t.parts k p ∙ t.counted ∙ sym (length_set xs k x);
      each = λ j y q e l c. at j y q e l c (cases_eq j k);
    }
  where
    at : (j : ℕ) (y : X) (q : List Item) → slice_get (slice_set xs k x) j ≡ Some y → slice_get (slice_set t.parts k p) j ≡ Some q → is_listed j rest ≡ false → (j ≡ k) ⊎ (j ≢ k) → T j y q
    at j y q e l c (inl same) =
        let here : x ≡ y = some_same x y (sym (get_set xs k x h) ∙ ap (slice_get (slice_set xs k x)) (sym same) ∙ e) in
        let part : p ≡ q = some_same p q (sym (get_set t.parts k p (omega (arith, h, t.counted))) ∙ ap (slice_get (slice_set t.parts k p)) (sym same) ∙ l) in
        subst (λ z. T j y z) part (subst (λ z. T j z p) here (subst (λ z. T z x p) (sym same) own))
    at j y q e l c (inr other) = t.each j y q (sym (get_other xs k j x other) ∙ e) (sym (get_other t.parts k j p other) ∙ l) (but_later k j rest other c)

-- ---- all of them
pub told_all : {X : Type 0} (T : ℕ → X → List Item → Type 0) (xs : List X) (items : List Item) (ends : List ℕ) → AreTold (AllBut []) T xs items ends → AreTold Each T xs items ends
told_all T xs items ends t = record { parts = t.parts; joined = t.joined; ended = t.ended; counted = t.counted; each = λ k x p e f c. t.each k x p e f refl }

pub has_parts : {X : Type 0} (C : ℕ → Type 0) (T : ℕ → X → List Item → Type 0) (xs : List X) (items : List Item) (ends : List ℕ) → AreTold C T xs items ends → HasParts items ends
has_parts C T xs items ends t = record { parts = t.parts; joined = t.joined; ended = t.ended }

pub ends_length : {X : Type 0} (C : ℕ → Type 0) (T : ℕ → X → List Item → Type 0) (xs : List X) (items : List Item) (ends : List ℕ) → AreTold C T xs items ends → length ends ≡ length xs
ends_length C T xs items ends t = ap length t.ended ∙ ends_counted 0 t.parts ∙ t.counted

pub told_as : {X : Type 0} (C : ℕ → Type 0) (T U : ℕ → X → List Item → Type 0) (xs : List X) (items : List Item) (ends : List ℕ) → AreTold C T xs items ends → ((k : ℕ) (x : X) (p : List Item) → T k x p → U k x p)
    → AreTold C U xs items ends
told_as C T U xs items ends t f = record { parts = t.parts; joined = t.joined; ended = t.ended; counted = t.counted; each = λ k x p e g c. f k x p (t.each k x p e g c) }

-- fewer count, or by another rule that leaves them the same
pub told_fewer : {X : Type 0} (C D : ℕ → Type 0) (T U : ℕ → X → List Item → Type 0) (xs : List X) (items : List Item) (ends : List ℕ) → AreTold C T xs items ends
    → ((k : ℕ) (x : X) (p : List Item) → k < length xs → D k → C k) → ((k : ℕ) (x : X) (p : List Item) → k < length xs → D k → T k x p → U k x p) → AreTold D U xs items ends
told_fewer C D T U xs items ends t f g =
    record {
      parts = t.parts;
      joined = t.joined;
      ended = t.ended;
      counted = t.counted;
      each = λ k x p e h d. g k x p (slice_get_within xs k x e) d (t.each k x p e h (f k x p (slice_get_within xs k x e) d));
    }

-- ---- the list of entries that all told
module _ {E X : Type 0} (f : E → X) (g : E → List Item) where
  lists_are : (entries : List E) (xs : List X) (ps : List (List Item)) → length xs ≡ length entries → length ps ≡ length xs
      → ((k : ℕ) (e : E) (x : X) (p : List Item) → slice_get entries k ≡ Some e → slice_get xs k ≡ Some x → slice_get ps k ≡ Some p → (x ≡ f e) × (p ≡ g e))
      → (xs ≡ map f entries) × (ps ≡ map g entries)
  lists_are [] [] [] a b h = (refl, refl)
  lists_are [] [] (p ∷ ps) a b h = absurd (omega (arith, b))
  lists_are [] (x ∷ xs) ps a b h = absurd (omega (arith, a))
  lists_are (e ∷ entries) [] ps a b h = absurd (omega (arith, a))
  lists_are (e ∷ entries) (x ∷ xs) [] a b h = absurd (omega (arith, b))
  lists_are (e ∷ entries) (x ∷ xs) (p ∷ ps) a b h =
      let first : (x ≡ f e) × (p ≡ g e) = h 0 e x p refl refl refl in
      let rest : (xs ≡ map f entries) × (ps ≡ map g entries) = lists_are entries xs ps (omega (arith, a)) (omega (arith, b)) (λ k. h (suc k)) in
      (λ i. first.0 i ∷ rest.0 i, λ i. first.1 i ∷ rest.1 i)

pub told_lists : {X E : Type 0} (T : ℕ → X → List Item → Type 0) (xs : List X) (items : List Item) (ends : List ℕ) (entries : List E) (f : E → X) (g : E → List Item) → length xs ≡ length entries
    → ((k : ℕ) (e : E) (x : X) (p : List Item) → slice_get entries k ≡ Some e → T k x p → (x ≡ f e) × (p ≡ g e))
    → AreTold Each T xs items ends → (xs ≡ map f entries) × (items ≡ joined (map g entries))
told_lists {X} {E} T xs items ends entries f g count h t =
    let both : (xs ≡ map f entries) × (t.parts ≡ map g entries) = lists_are f g entries xs t.parts count t.counted (λ k e x p there a b. h k e x p there (t.each k x p a b tt)) in
    (both.0, t.joined ∙ ap joined both.1)
