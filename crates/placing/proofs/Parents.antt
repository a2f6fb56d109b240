-- A node and its parent.
use Rattle.std.proofs.Common.{◌≡◌, ◌≢◌, ℕ, suc, ◌≤◌, Bool, true, false, List, [], ◌∷◌, ◌++◌, Option, Some, None, IsSome, is_some, length, length-append, refl, sym, ap, ◌∙◌, arith, inl, inr}
use Rattle.std.specs.Prelude.{◌||◌, ◌⊎◌, slice_get, IfSome, IfNone, IsTrue, is_none}
use Rattle.std.proofs.lemmas.Bool.{cases_eq, false≢true}
use Rattle.plain_tree.specs.Trees.{Trees, height_of, leafless, tree}
use Rattle.node_arena.specs.declared.number.NodeId.{NodeId}
use Rattle.node_arena.specs.Numbers.{same, Part, part_at, below_of, tops, top_numbers, number_of, child_at, second, times, way_of, way_up, IsDistinct}
use Rattle.node_arena.specs.Faults.{is_top}
use Rattle.node_arena.proofs.Same.{After, Below, by_place, part_after, part_below, part_here, part_some, part_there, same_from, same_is, one_no}
use Rattle.node_arena.proofs.Standing.{some_is, way_after, way_below, way_head, way_height, way_here, way_none, way_some}
use Rattle.node_arena.proofs.Parts.{not_here}
use Rattle.placing.specs.Children.{IsParent}
use Rattle.placing.specs.Nodes.{BareTrees, IsLive, NodeTrees, bare, sight_at}
use Rattle.placing.proofs.Bares.{child_bare, distinct_bare, live_bare, live_from, tops_bare}
use Rattle.placing.proofs.Sights.{next_there, top_chain}

-- a first and a second number
module _ (m n k p : NodeId) (ms ns : List NodeId) (e : m ∷ k ∷ ms ≡ n ∷ p ∷ ns) where
  first_is : m ≡ n
  first_is = cc

  second_is : k ≡ p
  second_is = cc

module _ {A : Type 0} where
  pub top_live : (t : Trees (NodeId × A)) (root : NodeId) → top_numbers t ≡ root ∷ [] → IsSome (part_at t root)
  top_live leafless root e = absurd cc
  top_live (tree x below after) root e = ap is_some (part_here x below after root (record { is = same_from x.0 root (first x.0 root (top_numbers after) e) }))
    where
      first : (a b : NodeId) (rest : List NodeId) → a ∷ rest ≡ b ∷ [] → a ≡ b
      first a b rest q = cc

  pub top_is : (t : Trees (NodeId × A)) (root n : NodeId) → top_numbers t ≡ root ∷ [] → is_top t n ≡ true → root ≡ n
  top_is leafless root n e h = absurd cc
  top_is (tree x below leafless) root n e h = sym (first x.0 root e) ∙ same_is x.0 n (alone (same x.0 n) h)
    where
      first : (a b : NodeId) → a ∷ [] ≡ b ∷ [] → a ≡ b
      first a b q = cc

      alone : (b : Bool) → (b || false) ≡ true → b ≡ true
      alone true q = refl
      alone false q = q
  top_is (tree x below (tree y c d)) root n e h = absurd (omega (arith, ap length e))

  -- ---- the index of a child
  pub record HasIndex (t : Trees (NodeId × A)) (n p : NodeId) : Type 0 where
    pub index : ℕ
    pub number : child_at t p index ≡ Some n

  record IsTop (u : Trees (NodeId × A)) (n : NodeId) : Type 0 where
    pub index : ℕ
    pub number : number_of (slice_get (tops u) index) ≡ Some n

  top_index : (u : Trees (NodeId × A)) (n : NodeId) → 1 ≤ times n u → length (way_up u n) ≡ 1 → IsTop u n
  top_index leafless n h e = absurd (omega arith)
  top_index (tree x below after) n h e =
      by_place x below n
      (λ p. record { index = 0; number = ap Some (same_is x.0 n p.is) })
      (λ p. absurd (omega (arith, ap length (way_below x below after n p), length-append (way_up below n) (x.0 ∷ []), way_some below n p.in_below)))
      (λ p. let rest = top_index after n (omega (arith, one_no (same x.0 n) p.not, p.none)) (ap length (sym (way_after x below after n p)) ∙ e) in record { index = suc rest.index; number = rest.number })

  has_child : (t : Trees (NodeId × A)) (n p : NodeId) (index : ℕ) → child_at t p index ≡ Some n → IsSome (part_at t p)
  has_child t n p index e = at (part_at t p) e
    where
      at : (o : Option (Part A)) → number_of (slice_get (tops (below_of o)) index) ≡ Some n → IsSome o
      at None k = absurd cc
      at (Some x) k = refl

  pub parent_index : (t : Trees (NodeId × A)) (n p : NodeId) (rest : List NodeId) → IsDistinct t → 1 ≤ times n t → way_up t n ≡ n ∷ p ∷ rest → HasIndex t n p
  parent_index leafless n p rest d h e = absurd (omega arith)
  parent_index (tree x below after) n p rest d h e =
      by_place x below n
      (λ q. absurd (omega (arith, ap length (sym (way_here x below after n q) ∙ e))))
      (λ q. in_below q (way_up below n) refl (sym (way_below x below after n q) ∙ e) (λ w k. parent_index below n p w (λ c. let f = d c in omega arith) q.in_below k))
      (λ q. in_after q (parent_index after n p rest (λ c. let f = d c in omega arith) (omega (arith, one_no (same x.0 n) q.not, q.none)) (sym (way_after x below after n q) ∙ e)))
    where
      in_below : Below x below n → (way : List NodeId) → way_up below n ≡ way → way ++ x.0 ∷ [] ≡ n ∷ p ∷ rest → ((w : List NodeId) → way_up below n ≡ n ∷ p ∷ w → HasIndex below n p) → HasIndex (tree x below after) n p
      in_below q [] f g lower = absurd (omega (arith, ap length f, way_some below n q.in_below))
      in_below q (m ∷ []) f g lower =
          let top = top_index below n q.in_below (ap length f) in
          record {
            index = top.index;
            number = ap (λ o. number_of (slice_get (tops (below_of o)) top.index)) (part_here x below after p (record { is = same_from x.0 p (second_is m n x.0 p [] rest g) })) ∙ top.number;
          }
      in_below q (m ∷ k ∷ ks) f g lower =
          let found = lower ks (f ∙ (λ i. first_is m n k p (ks ++ x.0 ∷ []) rest g i ∷ second_is m n k p (ks ++ x.0 ∷ []) rest g i ∷ ks)) in
          let there = part_there below p (has_child below n p found.index found.number) in
          let few = d p in
          record {
            index = found.index;
            number = ap (λ o. number_of (slice_get (tops (below_of o)) found.index)) (part_below x below after p (record { not = not_here x below after p few (omega arith); in_below = there })) ∙ found.number;
          }

      in_after : After x below n → HasIndex after n p → HasIndex (tree x below after) n p
      in_after q found =
          let there = part_there after p (has_child after n p found.index found.number) in
          let few = d p in
          record {
            index = found.index;
            number = ap (λ o. number_of (slice_get (tops (below_of o)) found.index)) (part_after x below after p (record { not = not_here x below after p few (omega arith); none = omega arith })) ∙ found.number;
          }

  -- ---- levels
  no_times : (t : Trees (NodeId × A)) (m : NodeId) → part_at t m ≡ None → times m t ≡ 0
  no_times t m e = at (cases_eq (times m t) 0)
    where
      at : (times m t ≡ 0) ⊎ (times m t ≢ 0) → times m t ≡ 0
      at (inl z) = z
      at (inr nz) = absurd (false≢true (sym (ap is_some e) ∙ part_some t m (omega arith)))

  pub level_most : (t : Trees (NodeId × A)) (n : NodeId) → length (way_up t n) ≤ height_of t
  level_most t n = at (part_at t n) refl
    where
      at : (o : Option (Part A)) → part_at t n ≡ o → length (way_up t n) ≤ height_of t
      at None e = let none : length (way_up t n) ≡ 0 = ap length (way_none t n (no_times t n e)) in omega arith
      at (Some p) e = omega (arith, way_height t n p e)

-- ---- in the bare tree
record Beginning (p : NodeId) (way : List NodeId) : Type 0 where
  pub rest : List NodeId
  pub is : way ≡ p ∷ rest

begins_with : (n p : NodeId) (way : List NodeId) → second (n ∷ way) ≡ Some p → 1 ≤ length way → Beginning p way
begins_with n p [] e h = absurd (omega arith)
begins_with n p (m ∷ ms) e h = record { rest = ms; is = ap (λ k. k ∷ ms) (some_is m p e) }

module _ (t : NodeTrees) (d : IsDistinct t) (n : NodeId) (live : IsLive (bare t) n) where
  parent_by : (p : NodeId) → way_up t n ≡ n ∷ way_up t p → IsSome (part_at t p) → IsParent (bare t) n p
  parent_by p way there =
      let place = part_there t p there in
      let first = begins_with n p (way_up t p) (way_head t p n place) (way_some t p place) in
      let found = parent_index t n p first.rest d (part_there t n (sym (live_bare t n) ∙ live)) (way ∙ ap (λ w. n ∷ w) first.is) in
      record {
        index = found.index;
        next = next_there (bare t) (distinct_bare t d) p n found.index (child_bare t p found.index ∙ found.number);
        live = live_from t p there;
      }

  pub parent_there : (o : Option NodeId) → way_up t n ≡ n ∷ way_of t o → IfSome o (λ p. IsTrue (is_some (part_at t p))) → IfSome o (λ p. IsParent (bare t) n p)
  parent_there None way there = tt
  parent_there (Some p) way there = parent_by p way there

  pub no_parent : (root : NodeId) (o : Option NodeId) → top_numbers t ≡ root ∷ [] → is_none o ≡ is_top t n → IfNone o (top_numbers (bare t) ≡ n ∷ [])
  no_parent root None tops e = tops_bare t ∙ tops ∙ ap (λ m. m ∷ []) (top_is t root n tops (sym e))
  no_parent root (Some p) tops e = tt

pub no_chain : (b : BareTrees) (n : NodeId) (o : Option NodeId) → IfNone o (top_numbers b ≡ n ∷ []) → IfNone o ((sight_at b n).chain ≡ [])
no_chain b n None h = top_chain b n h
no_chain b n (Some p) h = tt
