-- A list of items that all differ is no longer than one in which each of them stands.
use Rattle.std.proofs.Common.{◌≡◌, ◌≢◌, refl, sym, ap, ◌∙◌, subst, arith, suc, ◌≤◌, Bool, true, false, List, [], ◌∷◌, ◌++◌, length, inl, inr}
use Rattle.std.specs.Prelude.{◌⊎◌, Contains, if◌then◌else◌}
use Rattle.std.proofs.lemmas.Bool.{false≢true}
use Rattle.std.proofs.lemmas.List.Elements.{Contains-append_cases, Contains-append_left, Contains-append_right, Contains-push, Contains-push_cases}
use Rattle.asked_names.specs.Asked.{AllDiffer, IsNone}

-- ---- what stands in a list
module _ {A : Type 0} where
  pub none_in : (x : A) → Contains [] x → ⊥
  none_in x h = absurd (omega (arith, h.1))

  pub in_front : (x : A) (xs : List A) → Contains (x ∷ xs) x
  in_front x xs = Contains-append_left (x ∷ []) xs x (Contains-push [] x)

  pub behind : (y x : A) (xs : List A) → Contains xs x → Contains (y ∷ xs) x
  behind y x xs h = Contains-append_right (y ∷ []) xs x h

  pub in_cases : (y x : A) (xs : List A) → Contains (y ∷ xs) x → (y ≡ x) ⊎ Contains xs x
  in_cases y x xs h = at (Contains-append_cases (y ∷ []) xs x h)
    where
      one : Contains [] x ⊎ (y ≡ x) → (y ≡ x) ⊎ Contains xs x
      one (inl k) = absurd (none_in x k)
      one (inr e) = inl e

      at : Contains (y ∷ []) x ⊎ Contains xs x → (y ≡ x) ⊎ Contains xs x
      at (inl k) = one (Contains-push_cases [] y x k)
      at (inr k) = inr k

-- ---- items that differ
module _ {A : Type 0} where
  -- each item of the one list stands in the other
  abbrev pub AllStand : List A → List A → Type 0
  AllStand ys [] = Unit {0}
  AllStand ys (x ∷ rest) = Contains ys x × AllStand ys rest

  none_put : (x y : A) (xs : List A) → IsNone x xs → y ≢ x → IsNone x (xs ++ y ∷ [])
  none_put x y [] h ne = (ne, tt)
  none_put x y (z ∷ zs) h ne = (h.0, none_put x y zs h.1 ne)

  pub differ_put : (xs : List A) (y : A) → AllDiffer xs → IsNone y xs → AllDiffer (xs ++ y ∷ [])
  differ_put [] y h ne = (tt, tt)
  differ_put (x ∷ xs) y h ne = (none_put x y xs h.0 (λ e. absurd (ne.0 (sym e))), differ_put xs y h.1 ne.1)

  pub stand_put : (ys xs : List A) (y : A) → AllStand ys xs → Contains ys y → AllStand ys (xs ++ y ∷ [])
  stand_put ys [] y h k = (k, tt)
  stand_put ys (x ∷ xs) y h k = (h.0, stand_put ys xs y h.1 k)

-- ---- how many they are
module _ {A : Type 0} (same : A → A → Bool) (itself : (x : A) → same x x ≡ true) (is : (x y : A) → same x y ≡ true → x ≡ y) where
  -- the list without an item
  without : A → List A → List A
  without x [] = []
  without x (y ∷ ys) = if same y x then without x ys else y ∷ without x ys

  no_longer : (x : A) (ys : List A) → length (without x ys) ≤ length ys
  unfolding without
  no_longer x [] = omega arith
  no_longer x (y ∷ ys) = at (same y x) (no_longer x ys)
    where
      at : (t : Bool) → length (without x ys) ≤ length ys → length (if t then without x ys else y ∷ without x ys) ≤ suc (length ys)
      at true h = omega (arith, h)
      at false h = omega (arith, h)

  shorter : (x : A) (ys : List A) → Contains ys x → suc (length (without x ys)) ≤ length ys
  unfolding without
  shorter x [] h = absurd (none_in x h)
  shorter x (y ∷ ys) h = at (same y x) refl (in_cases y x ys h) (shorter x ys)
    where
      at : (t : Bool) → same y x ≡ t → (y ≡ x) ⊎ Contains ys x → (Contains ys x → suc (length (without x ys)) ≤ length ys) → suc (length (if t then without x ys else y ∷ without x ys)) ≤ suc (length ys)
      at true e k f = omega (arith, no_longer x ys)
      at false e (inl k) f = absurd (false≢true (sym e ∙ ap (λ z. same z x) k ∙ itself x))
      at false e (inr k) f = omega (arith, f k)

  stays : (x z : A) (ys : List A) → z ≢ x → Contains ys z → Contains (without x ys) z
  unfolding without
  stays x z [] ne h = absurd (none_in z h)
  stays x z (y ∷ ys) ne h = at (same y x) refl (in_cases y z ys h) (stays x z ys ne)
    where
      at : (t : Bool) → same y x ≡ t → (y ≡ z) ⊎ Contains ys z → (Contains ys z → Contains (without x ys) z) → Contains (if t then without x ys else y ∷ without x ys) z
      at true e (inl k) f = absurd (ne (sym k ∙ is y x e))
      at true e (inr k) f = f k
      at false e (inl k) f = subst (λ u. Contains (y ∷ without x ys) u) k (in_front y (without x ys))
      at false e (inr k) f = behind y z (without x ys) (f k)

  all_stay : (x : A) (ys xs : List A) → IsNone x xs → AllStand ys xs → AllStand (without x ys) xs
  all_stay x ys [] ne h = tt
  all_stay x ys (z ∷ zs) ne h = (stays x z ys ne.0 h.0, all_stay x ys zs ne.1 h.1)

  pub few_stand : (xs ys : List A) → AllDiffer xs → AllStand ys xs → length xs ≤ length ys
  few_stand [] ys d h = omega arith
  few_stand (x ∷ xs) ys d h = omega (arith, few_stand xs (without x ys) d.1 (all_stay x ys xs d.0 h.1), shorter x ys h.0)
