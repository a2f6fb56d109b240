-- The numbers that are found to be reached are those of the nodes that are.
use Rattle.std.proofs.Common.{◌≡◌, ◌+◌, ◌≤◌, Bool, true, false, ◌&&◌, List, [], ◌∷◌, ◌++◌, refl, sym, ap, ◌∙◌, arith}
use Rattle.std.specs.Prelude.{◌||◌, if◌then◌else◌}
use Rattle.std.proofs.lemmas.Bool.{or_parts, or_right}
use Rattle.plain_tree.specs.Trees.{Trees, leafless, tree}
use Rattle.node_arena.specs.declared.number.NodeId.{NodeId}
use Rattle.node_arena.specs.Numbers.{IsDistinct, is_among, same, times, way_up}
use Rattle.node_arena.proofs.Same.{After, Below, Here, by_place, one_no, one_yes, same_from, same_is, same_refl}
use Rattle.node_arena.proofs.Standing.{way_after, way_below, way_here}
use Rattle.layout_cache.specs.Reach.{is_above, reached, reached_by}
use Rattle.reach_frame.specs.Marks.{has_mark, is_reached}
use Rattle.reach_frame.proofs.Above.{among_right, among_out, not_in_way}
use Rattle.reach_frame.proofs.Frame.{not_both}

-- ---- no mark
unmarked : (i m b s g : Bool) (r : Bool → Bool) (a : Bool) → m ≡ false → b ≡ false → r false ≡ false → a ≡ false → ((i && (m || (b || (false && s)))) || (r ((g && m) || (false && s)) || a)) ≡ false
unmarked i true b s g r a e f p q = let no : true ≡ false = e in absurd cc
unmarked i false true s g r a e f p q = let no : true ≡ false = f in absurd cc
unmarked true false false s true r a e f p q = λ j. p j || q j
unmarked true false false s false r a e f p q = λ j. p j || q j
unmarked false false false s true r a e f p q = λ j. p j || q j
unmarked false false false s false r a e f p q = λ j. p j || q j

pub none_reached : {A : Type 0} (is mark sub : A → Bool) (grid : Bool) (t : Trees A) → has_mark mark t ≡ false → is_reached is mark sub grid false t ≡ false
none_reached is mark sub grid leafless e = refl
none_reached is mark sub grid (tree x below after) e =
    let first = or_parts (mark x) (has_mark mark below || has_mark mark after) e in
    let rest = or_parts (has_mark mark below) (has_mark mark after) first.1 in
    unmarked (is x) (mark x) (has_mark mark below) (sub x) grid (λ f. is_reached is mark sub grid f below) (is_reached is mark sub grid false after) first.0 rest.0 (none_reached is mark sub grid below rest.0) (none_reached is mark sub grid after rest.1)

-- ---- lists
pub among_append : (n : NodeId) (xs ys : List NodeId) → is_among n (xs ++ ys) ≡ (is_among n xs || is_among n ys)
among_append n [] ys = refl
among_append n (x ∷ xs) ys = at (same x n) (among_append n xs ys)
  where
    at : (c : Bool) → is_among n (xs ++ ys) ≡ (is_among n xs || is_among n ys) → (c || is_among n (xs ++ ys)) ≡ ((c || is_among n xs) || is_among n ys)
    at true e = refl
    at false e = e

turned : (a b : NodeId) → same a b ≡ true → same b a ≡ true
turned a b e = same_from b a (sym (same_is a b e))

or_swap : (a b p q : Bool) → ((a || b) || (p || q)) ≡ ((a || p) || (b || q))
or_swap true b p q = refl
or_swap false true true q = refl
or_swap false true false q = refl
or_swap false false true q = refl
or_swap false false false q = refl

step : (k x : NodeId) (a m b f s g : Bool) (r : Bool → Bool) (l : Bool → List NodeId) (n : List NodeId) (z : Bool) → a ≡ (m || b) → ((h : Bool) → is_among k (l h) ≡ r h) → is_among k n ≡ z → (m ≡ false → b ≡ false → r false ≡ false) →
    is_among k ((if a || (f && s) then x ∷ l ((g && m) || (f && s)) else []) ++ n) ≡ ((same x k && (m || (b || (f && s)))) || (r ((g && m) || (f && s)) || z))
step k x a m b f s g r l n z e p q none = at a m b (f && s) e none
  where
    or_assoc : (u v w : Bool) → (u || (v || w)) ≡ ((u || v) || w)
    or_assoc true v w = refl
    or_assoc false v w = refl

    and_true : (c : Bool) → c ≡ (c && true)
    and_true true = refl
    and_true false = refl

    and_false : (c : Bool) → (c && false) ≡ false
    and_false true = refl
    and_false false = refl

    listed : (h c : Bool) → c ≡ true → is_among k (x ∷ l h ++ n) ≡ ((same x k && c) || (r h || z))
    listed h c w = (λ i. same x k || (among_append k (l h) n ∙ (λ j. p h j || q j)) i) ∙ ap (λ y. y || (r h || z)) (and_true (same x k) ∙ ap (λ y. same x k && y) (sym w))

    at : (a m b t : Bool) → a ≡ (m || b) → (m ≡ false → b ≡ false → r false ≡ false) → is_among k ((if a || t then x ∷ l ((g && m) || t) else []) ++ n) ≡ ((same x k && (m || (b || t))) || (r ((g && m) || t) || z))
    at true m b t e none = listed ((g && m) || t) (m || (b || t)) (or_assoc m b t ∙ ap (λ y. y || t) (sym e))
    at false m b true e none = listed ((g && m) || true) (m || (b || true)) (or_right m (b || true) (or_right b true refl))
    at false true b false e none = let no : false ≡ true = e in absurd cc
    at false false true false e none = let no : false ≡ true = e in absurd cc
    at false false false false e none = q ∙ sym ((λ i. and_false (same x k) i || (r (and_false g i || false) || z)) ∙ ap (λ y. y || z) (none refl refl))

-- ---- what stands above marked nodes
module _ {A : Type 0} where
  -- a node counts as above where it is marked or has a marked node below it
  abbrev pub IsAbove : (NodeId → Bool) → (NodeId → Bool) → Trees (NodeId × A) → Type 0
  IsAbove mark above leafless = Unit {0}
  IsAbove mark above (tree x below after) = (above x.0 ≡ (mark x.0 || has_mark (λ (y : NodeId × A). mark y.0) below)) × (IsAbove mark above below × IsAbove mark above after)

  above_alike : (mark f g : NodeId → Bool) (t : Trees (NodeId × A)) → ((k : NodeId) → 1 ≤ times k t → g k ≡ f k) → IsAbove mark f t → IsAbove mark g t
  above_alike mark f g leafless e u = tt
  above_alike mark f g (tree x below after) e u = (
    e x.0 (omega (arith, one_yes (same x.0 x.0) (same_refl x.0))) ∙ u.0,
    (above_alike mark f g below (λ k l. e k (omega arith)) u.1.0, above_alike mark f g after (λ k l. e k (omega arith)) u.1.1),
  )

  pub no_marks : (mark : NodeId → Bool) (t : Trees (NodeId × A)) → ((k : NodeId) → 1 ≤ times k t → mark k ≡ false) → has_mark (λ (y : NodeId × A). mark y.0) t ≡ false
  no_marks mark leafless h = refl
  no_marks mark (tree x below after) h =
      λ i. h x.0 (omega (arith, one_yes (same x.0 x.0) (same_refl x.0))) i || (no_marks mark below (λ k l. h k (omega arith)) i || no_marks mark after (λ k l. h k (omega arith)) i)

  -- one number
  not_times : (c k : NodeId) (t : Trees (NodeId × A)) → times c t ≡ 0 → 1 ≤ times k t → same c k ≡ false
  not_times c k t z l = at (same c k) refl
    where
      at : (b : Bool) → same c k ≡ b → same c k ≡ false
      at true e = absurd (omega (arith, l, z, ap (λ n. times n t) (same_is c k e)))
      at false e = e

  has_none : (c : NodeId) (t : Trees (NodeId × A)) → times c t ≡ 0 → has_mark (λ (y : NodeId × A). same c y.0) t ≡ false
  has_none c t z = no_marks (same c) t (λ k l. not_times c k t z l)

  has_one : (c : NodeId) (t : Trees (NodeId × A)) → 1 ≤ times c t → has_mark (λ (y : NodeId × A). same c y.0) t ≡ true
  has_one c leafless l = absurd (omega arith)
  has_one c (tree x below after) l =
      by_place x below c
      (λ h. ap (λ b. b || (has_mark (λ (y : NodeId × A). same c y.0) below || has_mark (λ (y : NodeId × A). same c y.0) after)) (turned x.0 c h.is))
      (λ h. or_right (same c x.0) _ (ap (λ b. b || has_mark (λ (y : NodeId × A). same c y.0) after) (has_one c below h.in_below)))
      (λ h. or_right (same c x.0) _ (or_right (has_mark (λ (y : NodeId × A). same c y.0) below) _ (has_one c after (omega (arith, l, one_no (same x.0 c) h.not, h.none)))))

  way_above : (t : Trees (NodeId × A)) (c : NodeId) → IsDistinct t → IsAbove (same c) (λ k. is_among k (way_up t c)) t
  way_above leafless c d = tt
  way_above (tree x below after) c d = by_place x below c here (in_below (way_above below c (λ k. let f = d k in omega arith))) (in_after (way_above after c (λ k. let f = d k in omega arith)))
    where
      not_own : (k : NodeId) → 1 ≤ times k below + times k after → same x.0 k ≡ false
      not_own k l = at (same x.0 k) refl
        where
          at : (b : Bool) → same x.0 k ≡ b → same x.0 k ≡ false
          at true e = let f = d k in absurd (omega (arith, one_yes (same x.0 k) e))
          at false e = e

      single : (k : NodeId) → Here x c → 1 ≤ times k below + times k after → is_among k (way_up (tree x below after) c) ≡ false
      single k h l = ap (is_among k) (way_here x below after c h) ∙ ap (λ n. is_among k (n ∷ [])) (sym (same_is x.0 c h.is)) ∙ ap (λ b. b || false) (not_own k l)

      -- where the number is not among these trees nothing of them is above it
      none : (s : Trees (NodeId × A)) → times c s ≡ 0 → ((k : NodeId) → 1 ≤ times k s → is_among k (way_up (tree x below after) c) ≡ false) → IsAbove (same c) (λ k. is_among k (way_up (tree x below after) c)) s
      none leafless z h = tt
      none (tree y under later) z h = (
        h y.0 (omega (arith, one_yes (same y.0 y.0) (same_refl y.0)))
            ∙ sym (λ i. not_times c y.0 (tree y under later) z (omega (arith, one_yes (same y.0 y.0) (same_refl y.0))) i || has_none c under (omega (arith, z)) i),
        (none under (omega (arith, z)) (λ k l. h k (omega arith)), none later (omega (arith, z)) (λ k l. h k (omega arith))),
      )

      here : Here x c → IsAbove (same c) (λ k. is_among k (way_up (tree x below after) c)) (tree x below after)
      here h =
          let f = d c in
          let o = one_yes (same x.0 c) h.is in (
            ap (is_among x.0) (way_here x below after c h) ∙ ap (λ b. b || false) (turned x.0 c h.is) ∙ sym (ap (λ b. b || has_mark (λ (y : NodeId × A). same c y.0) below) (turned x.0 c h.is)),
            (none below (omega (arith, f, o)) (λ k l. single k h (omega arith)), none after (omega (arith, f, o)) (λ k l. single k h (omega arith))),
          )

      in_below : IsAbove (same c) (λ k. is_among k (way_up below c)) below → Below x below c → IsAbove (same c) (λ k. is_among k (way_up (tree x below after) c)) (tree x below after)
      in_below u h =
          let f = d c in
          let b = h.in_below in (
            ap (is_among x.0) (way_below x below after c h) ∙ among_right x.0 (way_up below c) (x.0 ∷ []) (ap (λ b. b || false) (same_refl x.0)) ∙ sym (or_right (same c x.0) _ (has_one c below b)),
            (
              above_alike (same c) (λ k. is_among k (way_up below c)) (λ k. is_among k (way_up (tree x below after) c)) below (λ k l. ap (is_among k) (way_below x below after c h) ∙ among_out k x.0 (way_up below c) (not_own k (omega arith))) u,
              none after (omega (arith, f, b))
                  (λ k l. let g = d k in ap (is_among k) (way_below x below after c h) ∙ among_out k x.0 (way_up below c) (not_own k (omega arith)) ∙ not_in_way below c k (omega arith)),
            ),
          )

      in_after : IsAbove (same c) (λ k. is_among k (way_up after c)) after → After x below c → IsAbove (same c) (λ k. is_among k (way_up (tree x below after) c)) (tree x below after)
      in_after u h = (
        (let f = d x.0 in ap (is_among x.0) (way_after x below after c h) ∙ not_in_way after c x.0 (omega (arith, one_yes (same x.0 x.0) (same_refl x.0)))
            ∙ sym (λ i. own_not h i || has_none c below h.none i)),
        (
          none below h.none (λ k l. let f = d k in ap (is_among k) (way_after x below after c h) ∙ not_in_way after c k (omega arith)),
          above_alike (same c) (λ k. is_among k (way_up after c)) (λ k. is_among k (way_up (tree x below after) c)) after (λ k l. ap (is_among k) (way_after x below after c h)) u,
        ),
      )
        where
          own_not : After x below c → same c x.0 ≡ false
          own_not h = at (same c x.0) refl
            where
              at : (b : Bool) → same c x.0 ≡ b → same c x.0 ≡ false
              at true e = absurd (not_both (same x.0 c) (turned c x.0 e) h.not)
              at false e = e

  has_either : (f g : NodeId → Bool) (t : Trees (NodeId × A)) → has_mark (λ (y : NodeId × A). f y.0 || g y.0) t ≡ (has_mark (λ (y : NodeId × A). f y.0) t || has_mark (λ (y : NodeId × A). g y.0) t)
  has_either f g leafless = refl
  has_either f g (tree x below after) =
      (λ i. (f x.0 || g x.0) || (has_either f g below i || has_either f g after i))
      ∙ ap (λ z. (f x.0 || g x.0) || z) (or_swap (has_mark (λ (y : NodeId × A). f y.0) below) (has_mark (λ (y : NodeId × A). g y.0) below) (has_mark (λ (y : NodeId × A). f y.0) after) (has_mark (λ (y : NodeId × A). g y.0) after))
      ∙ or_swap (f x.0) (g x.0) (has_mark (λ (y : NodeId × A). f y.0) below || has_mark (λ (y : NodeId × A). f y.0) after) (has_mark (λ (y : NodeId × A). g y.0) below || has_mark (λ (y : NodeId × A). g y.0) after)

  above_none : (s : Trees (NodeId × A)) → IsAbove (λ k. false) (λ k. false) s
  above_none leafless = tt
  above_none (tree x below after) = (sym (no_marks (λ k. false) below (λ k l. refl)), (above_none below, above_none after))

  above_either : (f g a b : NodeId → Bool) (s : Trees (NodeId × A)) → IsAbove f a s → IsAbove g b s → IsAbove (λ k. f k || g k) (λ k. a k || b k) s
  above_either f g a b leafless p q = tt
  above_either f g a b (tree x below after) p q = (
    (λ i. p.0 i || q.0 i) ∙ or_swap (f x.0) (has_mark (λ (y : NodeId × A). f y.0) below) (g x.0) (has_mark (λ (y : NodeId × A). g y.0) below) ∙ ap (λ z. (f x.0 || g x.0) || z) (sym (has_either f g below)),
    (above_either f g a b below p.1.0 q.1.0, above_either f g a b after p.1.1 q.1.1),
  )

  pub all_above : (t : Trees (NodeId × A)) (ts : List NodeId) → IsDistinct t → IsAbove (λ k. is_among k ts) (is_above t ts) t
  all_above t [] d = above_none t
  all_above t (c ∷ ts) d = above_either (same c) (λ k. is_among k ts) (λ k. is_among k (way_up t c)) (is_above t ts) t (way_above t c d) (all_above t ts d)

  -- ---- the list
  pub found_is : (sub : A → Bool) (mark above : NodeId → Bool) (grid felt : Bool) (t : Trees (NodeId × A)) (k : NodeId) → IsAbove mark above t →
      is_among k (reached sub mark above grid felt t) ≡ is_reached (λ (x : NodeId × A). same x.0 k) (λ (x : NodeId × A). mark x.0) (λ (x : NodeId × A). sub x.1) grid felt t
  found_is sub mark above grid felt leafless k a = refl
  found_is sub mark above grid felt (tree x below after) k a =
      step k x.0 (above x.0) (mark x.0) (has_mark (λ (y : NodeId × A). mark y.0) below) felt (sub x.1) grid (λ h. is_reached (λ (y : NodeId × A). same y.0 k) (λ (y : NodeId × A). mark y.0) (λ (y : NodeId × A). sub y.1) grid h below)
      (λ h. reached sub mark above grid h below) (reached sub mark above grid felt after) _ a.0 (λ h. found_is sub mark above grid h below k a.1.0) (found_is sub mark above grid felt after k a.1.1)
      (λ m b. none_reached (λ (y : NodeId × A). same y.0 k) (λ (y : NodeId × A). mark y.0) (λ (y : NodeId × A). sub y.1) grid below b)

  -- all that is reached
  pub all_found : (sub : A → Bool) (t : Trees (NodeId × A)) (ts : List NodeId) (grid : Bool) (k : NodeId) → IsDistinct t →
      is_among k (reached_by sub t ts grid) ≡ is_reached (λ (x : NodeId × A). same x.0 k) (λ (x : NodeId × A). is_among x.0 ts) (λ (x : NodeId × A). sub x.1) grid false t
  all_found sub t ts grid k d = found_is sub (λ n. is_among n ts) (is_above t ts) grid false t k (all_above t ts d)
