-- What a search reaches: the touched nodes and all above them, and what is felt below them.
use Rattle.std.proofs.Common.{◌≡◌, ℕ, zero, suc, ◌≤◌, Bool, true, ◌&&◌, [], ◌∷◌, Some, sym, ap, ◌∙◌, arith}
use Rattle.std.specs.Prelude.{◌||◌, if◌then◌else◌, slice_get}
use Rattle.std.proofs.lemmas.Bool.{or_left, or_right}
use Rattle.plain_tree.specs.Trees.{Trees, leafless, tree}
use Rattle.node_arena.specs.declared.number.NodeId.{NodeId}
use Rattle.node_arena.specs.Numbers.{Part, below_of, is_among, part_at, same, times, tops}
use Rattle.node_arena.proofs.Same.{by_place, one_no, one_yes, part_after, part_below, part_here, same_from, same_is}
use Rattle.node_arena.proofs.Standing.{some_is}
use Rattle.layout_cache.specs.Reach.{reached}
use Rattle.reach_frame.proofs.Above.{IsUpwards, among_left, among_right}

module _ {A : Type 0} (subgrid : A → Bool) (touched above : NodeId → Bool) (grid : Bool) where
  abbrev goes : NodeId × A → Bool → Bool
  goes x felt = above x.0 || (felt && subgrid x.1)

  abbrev next : NodeId × A → Bool → Bool
  next x felt = (grid && touched x.0) || (felt && subgrid x.1)

  -- what is found in the first of some trees, where the search goes into it
  first_found : (x : NodeId × A) (below after : Trees (NodeId × A)) (felt : Bool) (c : NodeId) → goes x felt ≡ true → is_among c (x.0 ∷ reached subgrid touched above grid (next x felt) below) ≡ true → is_among c (reached subgrid touched above grid felt (tree x below after)) ≡ true
  first_found x below after felt c g e =
      among_left c (if goes x felt then x.0 ∷ reached subgrid touched above grid (next x felt) below else []) (reached subgrid touched above grid felt after)
      (ap (λ b. is_among c (if b then x.0 ∷ reached subgrid touched above grid (next x felt) below else [])) g ∙ e)

  later_found : (x : NodeId × A) (below after : Trees (NodeId × A)) (felt : Bool) (c : NodeId) → is_among c (reached subgrid touched above grid felt after) ≡ true → is_among c (reached subgrid touched above grid felt (tree x below after)) ≡ true
  later_found x below after felt c e = among_right c (if goes x felt then x.0 ∷ reached subgrid touched above grid (next x felt) below else []) (reached subgrid touched above grid felt after) e

  above_goes : (x : NodeId × A) (felt : Bool) → above x.0 ≡ true → goes x felt ≡ true
  above_goes x felt e = or_left (above x.0) (felt && subgrid x.1) e

  -- what stands above a touched node is reached
  pub above_reached : (t : Trees (NodeId × A)) (felt : Bool) (m : NodeId) → IsUpwards above t → 1 ≤ times m t → above m ≡ true → is_among m (reached subgrid touched above grid felt t) ≡ true
  above_reached leafless felt m u l e = absurd (omega arith)
  above_reached (tree x below after) felt m u l e =
      by_place x below m
      (λ h. let is = same_is x.0 m h.is in first_found x below after felt m (above_goes x felt (ap above is ∙ e)) (or_left (same x.0 m) (is_among m (reached subgrid touched above grid (next x felt) below)) h.is))
      (λ h. first_found x below after felt m (above_goes x felt (u.0 m h.in_below e)) (or_right (same x.0 m) (is_among m (reached subgrid touched above grid (next x felt) below)) (above_reached below (next x felt) m u.1.0 h.in_below e)))
      (λ h. later_found x below after felt m (above_reached after felt m u.1.1 (omega (arith, one_no (same x.0 m) h.not, h.none)) e))

  part_times : (t : Trees (NodeId × A)) (p : NodeId) (q : Part A) → part_at t p ≡ Some q → 1 ≤ times p t
  part_times leafless p q e = absurd cc
  part_times (tree x below after) p q e =
      by_place x below p
      (λ h. omega (arith, one_yes (same x.0 p) h.is))
      (λ h. omega (arith, h.in_below))
      (λ h. omega (arith, part_times after p q (sym (part_after x below after p h) ∙ e)))

  -- below a marked node the search goes on where the edit is felt
  pub marked_visits : (t : Trees (NodeId × A)) (felt : Bool) (p c : NodeId) (q : Part A) → IsUpwards above t → part_at t p ≡ Some q → above p ≡ true → (grid && touched p) ≡ true → is_among c (reached subgrid touched above grid true q.1) ≡ true →
      is_among c (reached subgrid touched above grid felt t) ≡ true
  marked_visits leafless felt p c q u e a m h = absurd cc
  marked_visits (tree x below after) felt p c q u e a m h =
      by_place x below p
      (λ g. let is = same_is x.0 p g.is in
      let b : below ≡ q.1 = ap below_of (sym (part_here x below after p g) ∙ e) in
      let on : next x felt ≡ true = or_left (grid && touched x.0) (felt && subgrid x.1) (ap (λ k. grid && touched k) is ∙ m) in
      first_found x below after felt c (above_goes x felt (ap above is ∙ a)) (or_right (same x.0 c) (is_among c (reached subgrid touched above grid (next x felt) below)) ((λ i. is_among c (reached subgrid touched above grid (on i) (b i))) ∙ h)))
      (λ g. first_found x below after felt c (above_goes x felt (u.0 p g.in_below a)) (or_right (same x.0 c) (is_among c (reached subgrid touched above grid (next x felt) below)) (marked_visits below (next x felt) p c q u.1.0 (sym (part_below x below after p g) ∙ e) a m h)))
      (λ g. later_found x below after felt c (marked_visits after felt p c q u.1.1 (sym (part_after x below after p g) ∙ e) a m h))

  -- a subgrid among trees where it is felt
  felt_goes : (x : NodeId × A) → subgrid x.1 ≡ true → goes x true ≡ true
  felt_goes x e = or_right (above x.0) (subgrid x.1) e

  felt_next : (x : NodeId × A) → subgrid x.1 ≡ true → next x true ≡ true
  felt_next x e = or_right (grid && touched x.0) (subgrid x.1) e

  pub felt_top : (t : Trees (NodeId × A)) (i : ℕ) (top : NodeId × Part A) → slice_get (tops t) i ≡ Some top → subgrid top.1.0 ≡ true → is_among top.0 (reached subgrid touched above grid true t) ≡ true
  felt_top leafless i top e s = absurd cc
  felt_top (tree x below after) zero top e s =
      let is : (x.0, (x.1, below)) ≡ top = some_is (x.0, (x.1, below)) top e in
      first_found x below after true top.0 (felt_goes x (ap (λ (z : NodeId × Part A). subgrid z.1.0) is ∙ s)) (or_left (same x.0 top.0) (is_among top.0 (reached subgrid touched above grid (next x true) below)) (own x.0 top.0 (ap (λ (z : NodeId × Part A). z.0) is)))
    where
      own : (a b : NodeId) → a ≡ b → same a b ≡ true
      own a b q = same_from a b q
  felt_top (tree x below after) (suc i) top e s = later_found x below after true top.0 (felt_top after i top e s)

  pub felt_visits : (t : Trees (NodeId × A)) (i : ℕ) (top : NodeId × Part A) (c : NodeId) → slice_get (tops t) i ≡ Some top → subgrid top.1.0 ≡ true → is_among c (reached subgrid touched above grid true top.1.1) ≡ true → is_among c (reached subgrid touched above grid true t) ≡ true
  felt_visits leafless i top c e s h = absurd cc
  felt_visits (tree x below after) zero top c e s h =
      let is : (x.0, (x.1, below)) ≡ top = some_is (x.0, (x.1, below)) top e in
      let sub : subgrid x.1 ≡ true = ap (λ (z : NodeId × Part A). subgrid z.1.0) is ∙ s in
      first_found x below after true c (felt_goes x sub) (or_right (same x.0 c) (is_among c (reached subgrid touched above grid (next x true) below)) ((λ j. is_among c (reached subgrid touched above grid (felt_next x sub j) (is j).1.1)) ∙ h))
  felt_visits (tree x below after) (suc i) top c e s h = later_found x below after true c (felt_visits after i top c e s h)
