-- The way up of a number in a tree without another one.
use Rattle.std.proofs.Common.{◌≡◌, ◌≢◌, ◌+◌, ◌≤◌, true, false, List, [], ◌∷◌, ◌++◌, Some, length, refl, sym, ap, ◌∙◌, arith, inl, inr}
use Rattle.std.specs.Prelude.{◌⊎◌, ◌||◌}
use Rattle.std.proofs.lemmas.Bool.{cases_eq, cases_Bool, or_parts, or_left, or_right}
use Rattle.plain_tree.specs.Trees.{Trees, leafless, tree}
use Rattle.node_arena.specs.declared.number.NodeId.{NodeId}
use Rattle.node_arena.specs.Numbers.{same, one, Part, part_at, times, way_up, is_among}
use Rattle.node_arena.specs.Edits.{nothing, removed}
use Rattle.node_arena.proofs.Same.{Below, After, by_place, part_below, part_after, same_is, same_from, one_no}
use Rattle.node_arena.proofs.Parts.{not_here, below_within}
use Rattle.node_arena.proofs.Standing.{way_here, way_below, way_after, way_some, way_none}
use Rattle.node_arena.proofs.Edited.{edited_here, edited_not, part_trees}

among_left : (n : NodeId) (xs ys : List NodeId) → is_among n xs ≡ true → is_among n (xs ++ ys) ≡ true
among_left n [] ys e = absurd cc
among_left n (x ∷ xs) ys e = at (cases_Bool (same x n)) (among_left n xs ys)
  where
    at : (same x n ≡ true) ⊎ (same x n ≡ false) → (is_among n xs ≡ true → is_among n (xs ++ ys) ≡ true) → is_among n (x ∷ xs ++ ys) ≡ true
    at (inl h) r = or_left (same x n) (is_among n (xs ++ ys)) h
    at (inr h) r = or_right (same x n) (is_among n (xs ++ ys)) (r (sym (ap (λ b. b || is_among n xs) h) ∙ e))

among_last : (n x : NodeId) (xs : List NodeId) → same x n ≡ true → is_among n (xs ++ x ∷ []) ≡ true
among_last n x [] e = or_left (same x n) false e
among_last n x (y ∷ ys) e = or_right (same y n) (is_among n (ys ++ x ∷ [])) (among_last n x ys e)

not_among : (n x : NodeId) (xs : List NodeId) → is_among n (xs ++ x ∷ []) ≡ false → (is_among n xs ≡ false) × (same x n ≡ false)
not_among n x [] e = (refl, (or_parts (same x n) false e).0)
not_among n x (y ∷ ys) e =
    let parts = or_parts (same y n) (is_among n (ys ++ x ∷ [])) e in
    let rest = not_among n x ys parts.1 in
    (ap (λ b. b || is_among n ys) parts.0 ∙ rest.0, rest.1)

module _ {A : Type 0} where
  -- what stands in a number's tree has the number on its way up
  pub within_way : (t : Trees (NodeId × A)) (n c : NodeId) (p : Part A) → part_at t n ≡ Some p → times c t ≤ 1 → 1 ≤ one (same n c) + times c p.1 → is_among n (way_up t c) ≡ true
  within_way leafless n c p e d k = absurd cc
  within_way (tree x below after) n c p e d k =
      by_place x below n
      (λ h. let is = same_is x.0 n h.is in
      by_place x below c
      (λ g. ap (is_among n) (way_here x below after c g) ∙ or_left (same c n) false (same_from c n (sym (same_is x.0 c g.is) ∙ is)))
      (λ g. ap (is_among n) (way_below x below after c g) ∙ among_last n x.0 (way_up below c) h.is)
      (λ g. let b : times c below ≡ times c p.1 = ap (times c) (part_trees x below after n p h e) in
      let first : one (same n c) ≡ one (same x.0 c) = ap (λ m. one (same m c)) (sym is) in
      absurd (omega (arith, one_no (same x.0 c) g.not, g.none))))
      (λ h. let f = sym (part_below x below after n h) ∙ e in
      let l : 1 ≤ times c below = omega (arith, below_within below n c p f) in
      let g : Below x below c = record { not = not_here x below after c d (omega arith); in_below = l } in
      ap (is_among n) (way_below x below after c g) ∙ among_left n (way_up below c) (x.0 ∷ []) (within_way below n c p f (omega arith) k))
      (λ h. let f = sym (part_after x below after n h) ∙ e in
      let l : 1 ≤ times c after = omega (arith, below_within after n c p f) in
      let g : After x below c = record { not = not_here x below after c d (omega arith); none = omega arith } in
      ap (is_among n) (way_after x below after c g) ∙ within_way after n c p f (omega arith) k)

  none_removed : (t : Trees (NodeId × A)) (n c : NodeId) → times c t ≡ 0 → times c (removed n t) ≡ 0
  none_removed leafless n c e = refl
  none_removed (tree x below after) n c e = at (cases_Bool (same x.0 n)) (λ k. none_removed below n c k) (λ k. none_removed after n c k)
    where
      at : (same x.0 n ≡ true) ⊎ (same x.0 n ≡ false) → (times c below ≡ 0 → times c (removed n below) ≡ 0) → (times c after ≡ 0 → times c (removed n after) ≡ 0) → times c (removed n (tree x below after)) ≡ 0
      at (inl h) b a = ap (times c) (edited_here n nothing x below after h) ∙ omega arith
      at (inr h) b a = ap (times c) (edited_not n nothing x below after h) ∙ omega (arith, b (omega arith), a (omega arith))

  way_there : (t : Trees (NodeId × A)) (c : NodeId) → 1 ≤ length (way_up t c) → 1 ≤ times c t
  way_there t c h = at (cases_eq (times c t) 0)
    where
      at : (times c t ≡ 0) ⊎ (times c t ≢ 0) → 1 ≤ times c t
      at (inl z) = absurd (omega (arith, ap length (way_none t c z)))
      at (inr nz) = omega arith

  pub way_removed : (t : Trees (NodeId × A)) (n c : NodeId) → 1 ≤ times c t → is_among n (way_up t c) ≡ false → way_up (removed n t) c ≡ way_up t c
  way_removed leafless n c l k = absurd (omega arith)
  way_removed (tree x below after) n c l k =
      by_place x below c
      (λ g. let no : same x.0 n ≡ false = (or_parts (same x.0 n) false (ap (λ m. is_among n (m ∷ [])) (same_is x.0 c g.is) ∙ sym (ap (is_among n) (way_here x below after c g)) ∙ k)).0 in
      ap (λ u. way_up u c) (edited_not n nothing x below after no) ∙ way_here x (removed n below) (removed n after) c g ∙ sym (way_here x below after c g))
      (λ g. let parts = not_among n x.0 (way_up below c) (sym (ap (is_among n) (way_below x below after c g)) ∙ k) in
      let same_way = way_removed below n c g.in_below parts.0 in
      let there : 1 ≤ times c (removed n below) = way_there (removed n below) c (omega (arith, ap length same_way, way_some below c g.in_below)) in
      ap (λ u. way_up u c) (edited_not n nothing x below after parts.1) ∙ way_below x (removed n below) (removed n after) c (record { not = g.not; in_below = there }) ∙ ap (λ w. w ++ x.0 ∷ []) same_way ∙ sym (way_below x below after c g))
      (λ g. in_after g (cases_Bool (same x.0 n)) (λ m q. way_removed after n c m q))
    where
      in_after : After x below c → (same x.0 n ≡ true) ⊎ (same x.0 n ≡ false) → (1 ≤ times c after → is_among n (way_up after c) ≡ false → way_up (removed n after) c ≡ way_up after c) → way_up (removed n (tree x below after)) c ≡ way_up (tree x below after) c
      in_after g (inl h) r = ap (λ u. way_up u c) (edited_here n nothing x below after h) ∙ sym (way_after x below after c g)
      in_after g (inr h) r =
          ap (λ u. way_up u c) (edited_not n nothing x below after h) ∙ way_after x (removed n below) (removed n after) c (record { not = g.not; none = none_removed below n c g.none })
          ∙ r (omega (arith, one_no (same x.0 c) g.not, g.none)) (sym (ap (is_among n) (way_after x below after c g)) ∙ k) ∙ sym (way_after x below after c g)
