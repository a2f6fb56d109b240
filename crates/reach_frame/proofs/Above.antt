-- What stands above some numbers is closed upwards.
use Rattle.std.proofs.Common.{◌≡◌, ◌+◌, ◌≤◌, Bool, true, false, List, [], ◌∷◌, ◌++◌, refl, sym, ap, ◌∙◌, arith, inl, inr}
use Rattle.std.specs.Prelude.{◌||◌, ◌⊎◌}
use Rattle.std.proofs.lemmas.Bool.{or_cases, or_left, or_right}
use Rattle.plain_tree.specs.Trees.{Trees, leafless, tree}
use Rattle.node_arena.specs.declared.number.NodeId.{NodeId}
use Rattle.node_arena.specs.Numbers.{IsDistinct, is_among, same, times, way_up}
use Rattle.node_arena.proofs.Same.{After, Below, Here, by_place, one_yes, same_from, same_is, same_refl}
use Rattle.node_arena.proofs.Standing.{way_after, way_below, way_here}
use Rattle.layout_cache.specs.Reach.{is_above}
use Rattle.reach_frame.proofs.Frame.{not_both}

-- ---- lists of numbers
pub among_left : (n : NodeId) (xs ys : List NodeId) → is_among n xs ≡ true → is_among n (xs ++ ys) ≡ true
among_left n [] ys e = absurd (not_both true refl (sym e))
among_left n (x ∷ xs) ys e = at (or_cases (same x n) (is_among n xs) e) (among_left n xs ys)
  where
    at : (same x n ≡ true) ⊎ (is_among n xs ≡ true) → (is_among n xs ≡ true → is_among n (xs ++ ys) ≡ true) → is_among n (x ∷ xs ++ ys) ≡ true
    at (inl h) r = or_left (same x n) (is_among n (xs ++ ys)) h
    at (inr h) r = or_right (same x n) (is_among n (xs ++ ys)) (r h)

pub among_right : (n : NodeId) (xs ys : List NodeId) → is_among n ys ≡ true → is_among n (xs ++ ys) ≡ true
among_right n [] ys e = e
among_right n (x ∷ xs) ys e = or_right (same x n) (is_among n (xs ++ ys)) (among_right n xs ys e)

pub among_either : (n : NodeId) (xs ys : List NodeId) → is_among n (xs ++ ys) ≡ true → (is_among n xs ≡ true) ⊎ (is_among n ys ≡ true)
among_either n [] ys e = inr e
among_either n (x ∷ xs) ys e = at (or_cases (same x n) (is_among n (xs ++ ys)) e) (among_either n xs ys)
  where
    at : (same x n ≡ true) ⊎ (is_among n (xs ++ ys) ≡ true) → (is_among n (xs ++ ys) ≡ true → (is_among n xs ≡ true) ⊎ (is_among n ys ≡ true)) → (is_among n (x ∷ xs) ≡ true) ⊎ (is_among n ys ≡ true)
    at (inl h) r = inl (or_left (same x n) (is_among n xs) h)
    at (inr h) r = later (r h)
      where
        later : (is_among n xs ≡ true) ⊎ (is_among n ys ≡ true) → (is_among n (x ∷ xs) ≡ true) ⊎ (is_among n ys ≡ true)
        later (inl g) = inl (or_right (same x n) (is_among n xs) g)
        later (inr g) = inr g

pub among_out : (k x : NodeId) (xs : List NodeId) → same x k ≡ false → is_among k (xs ++ x ∷ []) ≡ is_among k xs
among_out k x [] e = ap (λ b. b || false) e
among_out k x (y ∷ ys) e = ap (λ b. same y k || b) (among_out k x ys e)

module _ {A : Type 0} where
  -- ---- closed upwards in these trees
  abbrev pub IsUpwards : (NodeId → Bool) → Trees (NodeId × A) → Type 0
  IsUpwards f leafless = Unit {0}
  IsUpwards f (tree x below after) = ((k : NodeId) → 1 ≤ times k below → f k ≡ true → f x.0 ≡ true) × (IsUpwards f below × IsUpwards f after)

  own_times : (x : NodeId × A) (below after : Trees (NodeId × A)) → 1 ≤ times x.0 (tree x below after)
  own_times x below after = omega (arith, one_yes (same x.0 x.0) (same_refl x.0))

  upwards_alike : (f g : NodeId → Bool) (t : Trees (NodeId × A)) → ((k : NodeId) → 1 ≤ times k t → g k ≡ f k) → IsUpwards f t → IsUpwards g t
  upwards_alike f g leafless e u = tt
  upwards_alike f g (tree x below after) e u = (
    λ k l h. e x.0 (own_times x below after) ∙ u.0 k l (sym (e k (omega arith)) ∙ h),
    (upwards_alike f g below (λ k l. e k (omega arith)) u.1.0, upwards_alike f g after (λ k l. e k (omega arith)) u.1.1),
  )

  upwards_none : (g : NodeId → Bool) (t : Trees (NodeId × A)) → ((k : NodeId) → 1 ≤ times k t → g k ≡ false) → IsUpwards g t
  upwards_none g leafless e = tt
  upwards_none g (tree x below after) e = (λ k l h. absurd (not_both (g k) h (e k (omega arith))), (upwards_none g below (λ k l. e k (omega arith)), upwards_none g after (λ k l. e k (omega arith))))

  upwards_or : (f g : NodeId → Bool) (t : Trees (NodeId × A)) → IsUpwards f t → IsUpwards g t → IsUpwards (λ k. f k || g k) t
  upwards_or f g leafless u v = tt
  upwards_or f g (tree x below after) u v = (λ k l h. at k l (or_cases (f k) (g k) h), (upwards_or f g below u.1.0 v.1.0, upwards_or f g after u.1.1 v.1.1))
    where
      at : (k : NodeId) → 1 ≤ times k below → (f k ≡ true) ⊎ (g k ≡ true) → (f x.0 || g x.0) ≡ true
      at k l (inl h) = or_left (f x.0) (g x.0) (u.0 k l h)
      at k l (inr h) = or_right (f x.0) (g x.0) (v.0 k l h)

  -- ---- the way up of a number
  pub way_inside : (t : Trees (NodeId × A)) (c k : NodeId) → is_among k (way_up t c) ≡ true → 1 ≤ times k t
  way_inside leafless c k e = absurd (not_both true refl (sym e))
  way_inside (tree x below after) c k e =
      by_place x below c
      (λ h. here h (sym (ap (is_among k) (way_here x below after c h)) ∙ e))
      (λ h. lower (among_either k (way_up below c) (x.0 ∷ []) (sym (ap (is_among k) (way_below x below after c h)) ∙ e)) (way_inside below c k))
      (λ h. omega (arith, way_inside after c k (sym (ap (is_among k) (way_after x below after c h)) ∙ e)))
    where
      one_of : (n : NodeId) → is_among k (n ∷ []) ≡ true → same n k ≡ true
      one_of n q = at (or_cases (same n k) false q)
        where
          at : (same n k ≡ true) ⊎ (false ≡ true) → same n k ≡ true
          at (inl h) = h
          at (inr h) = absurd (not_both false h refl)

      here : Here x c → is_among k (c ∷ []) ≡ true → 1 ≤ times k (tree x below after)
      here h q = let is : x.0 ≡ k = same_is x.0 c h.is ∙ same_is c k (one_of c q) in omega (arith, one_yes (same x.0 k) (same_from x.0 k is))

      lower : (is_among k (way_up below c) ≡ true) ⊎ (is_among k (x.0 ∷ []) ≡ true) → (is_among k (way_up below c) ≡ true → 1 ≤ times k below) → 1 ≤ times k (tree x below after)
      lower (inl q) up = omega (arith, up q)
      lower (inr q) up = omega (arith, one_yes (same x.0 k) (one_of x.0 q))

  pub not_in_way : (t : Trees (NodeId × A)) (c k : NodeId) → times k t ≡ 0 → is_among k (way_up t c) ≡ false
  not_in_way t c k z = at (is_among k (way_up t c)) refl
    where
      at : (b : Bool) → is_among k (way_up t c) ≡ b → is_among k (way_up t c) ≡ false
      at true e = absurd (omega (arith, way_inside t c k e))
      at false e = e

  way_upwards : (t : Trees (NodeId × A)) (c : NodeId) → IsDistinct t → IsUpwards (λ k. is_among k (way_up t c)) t
  way_upwards leafless c d = tt
  way_upwards (tree x below after) c d = by_place x below c here (in_below (way_upwards below c (λ k. let f = d k in omega arith))) (in_after (way_upwards after c (λ k. let f = d k in omega arith)))
    where
      not_own : (k : NodeId) → 1 ≤ times k below + times k after → same x.0 k ≡ false
      not_own k l = at (same x.0 k) refl
        where
          at : (b : Bool) → same x.0 k ≡ b → same x.0 k ≡ false
          at true e = let f = d k in absurd (omega (arith, one_yes (same x.0 k) e))
          at false e = e

      single : (k : NodeId) → Here x c → 1 ≤ times k below + times k after → is_among k (way_up (tree x below after) c) ≡ false
      single k h l = ap (is_among k) (way_here x below after c h) ∙ ap (λ n. is_among k (n ∷ [])) (sym (same_is x.0 c h.is)) ∙ ap (λ b. b || false) (not_own k l)

      here : Here x c → IsUpwards (λ k. is_among k (way_up (tree x below after) c)) (tree x below after)
      here h = (
        λ k l e. absurd (not_both (is_among k (way_up (tree x below after) c)) e (single k h (omega arith))),
        (upwards_none (λ k. is_among k (way_up (tree x below after) c)) below (λ k l. single k h (omega arith)), upwards_none (λ k. is_among k (way_up (tree x below after) c)) after (λ k l. single k h (omega arith))),
      )

      in_below : IsUpwards (λ k. is_among k (way_up below c)) below → Below x below c → IsUpwards (λ k. is_among k (way_up (tree x below after) c)) (tree x below after)
      in_below u h = (
        λ k l e. ap (is_among x.0) (way_below x below after c h) ∙ among_right x.0 (way_up below c) (x.0 ∷ []) (or_left (same x.0 x.0) false (same_refl x.0)),
        (
          upwards_alike (λ k. is_among k (way_up below c)) (λ k. is_among k (way_up (tree x below after) c)) below (λ k l. ap (is_among k) (way_below x below after c h) ∙ among_out k x.0 (way_up below c) (not_own k (omega arith))) u,
          upwards_none (λ k. is_among k (way_up (tree x below after) c)) after
              (λ k l. let f = d k in ap (is_among k) (way_below x below after c h) ∙ among_out k x.0 (way_up below c) (not_own k (omega arith)) ∙ not_in_way below c k (omega arith)),
        ),
      )

      in_after : IsUpwards (λ k. is_among k (way_up after c)) after → After x below c → IsUpwards (λ k. is_among k (way_up (tree x below after) c)) (tree x below after)
      in_after u h = (
        λ k l e. let f = d k in absurd (not_both (is_among k (way_up after c)) (sym (ap (is_among k) (way_after x below after c h)) ∙ e) (not_in_way after c k (omega arith))),
        (
          upwards_none (λ k. is_among k (way_up (tree x below after) c)) below (λ k l. let f = d k in ap (is_among k) (way_after x below after c h) ∙ not_in_way after c k (omega arith)),
          upwards_alike (λ k. is_among k (way_up after c)) (λ k. is_among k (way_up (tree x below after) c)) after (λ k l. ap (is_among k) (way_after x below after c h)) u,
        ),
      )

  pub above_upwards : (t : Trees (NodeId × A)) (ts : List NodeId) → IsDistinct t → IsUpwards (is_above t ts) t
  above_upwards t [] d = upwards_none (is_above t []) t (λ k l. refl)
  above_upwards t (c ∷ ts) d = upwards_or (λ k. is_among k (way_up t c)) (is_above t ts) t (way_upwards t c d) (above_upwards t ts d)

  pub above_from : (t : Trees (NodeId × A)) (ts : List NodeId) (n c : NodeId) → is_among c ts ≡ true → is_among n (way_up t c) ≡ true → is_above t ts n ≡ true
  above_from t [] n c e w = absurd (not_both true refl (sym e))
  above_from t (m ∷ ts) n c e w = at (or_cases (same m c) (is_among c ts) e) (λ h. above_from t ts n c h w)
    where
      at : (same m c ≡ true) ⊎ (is_among c ts ≡ true) → (is_among c ts ≡ true → is_above t ts n ≡ true) → is_above t (m ∷ ts) n ≡ true
      at (inl h) up = or_left (is_among n (way_up t m)) (is_above t ts n) (ap (λ k. is_among n (way_up t k)) (same_is m c h) ∙ w)
      at (inr h) up = or_right (is_among n (way_up t m)) (is_above t ts n) (up h)
