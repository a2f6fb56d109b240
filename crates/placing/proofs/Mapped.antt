-- What stands under a number where each value was mapped.
use Rattle.std.proofs.Common.{◌≡◌, ℕ, zero, suc, Bool, true, false, [], ◌∷◌, Option, Some, None, is_some, cond, refl, ap, ◌∙◌, arith}
use Rattle.std.specs.Prelude.{slice_get}
use Rattle.plain_tree.specs.Trees.{Trees, leafless, tree}
use Rattle.node_arena.specs.declared.number.NodeId.{NodeId}
use Rattle.node_arena.specs.Numbers.{same, Part, either, mapped, part_at, value_of, value_at, below_of, below_at, tops, number_of, child_at, way_up, upwards, IsDistinct}
use Rattle.node_arena.proofs.Same.{same_is}
use Rattle.node_arena.proofs.Changed.{times_mapped}

module _ {A B : Type 0} (f : NodeId → A → B) where
  abbrev pub part_by : NodeId → Option (Part A) → Option (Part B)
  part_by n None = None
  part_by n (Some p) = Some (f n p.0, mapped f p.1)

  abbrev pub value_by : NodeId → Option A → Option B
  value_by n None = None
  value_by n (Some v) = Some (f n v)

  abbrev top_by : Option (NodeId × Part A) → Option (NodeId × Part B)
  top_by None = None
  top_by (Some t) = Some (t.0, (f t.0 t.1.0, mapped f t.1.1))

  part_cond : (n : NodeId) (x : NodeId × A) (below : Trees (NodeId × A)) (p q : Option (Part A)) (c : Bool) → same x.0 n ≡ c →
      cond c (Some (f x.0 x.1, mapped f below)) (either (part_by n p) (part_by n q)) ≡ part_by n (cond c (Some (x.1, below)) (either p q))
  part_cond n x below p q true e = ap (λ k. Some (f k x.1, mapped f below)) (same_is x.0 n e)
  part_cond n x below None q false e = refl
  part_cond n x below (Some p) q false e = refl

  pub part_mapped : (t : Trees (NodeId × A)) (n : NodeId) → part_at (mapped f t) n ≡ part_by n (part_at t n)
  part_mapped leafless n = refl
  part_mapped (tree x below after) n =
      (λ i. cond (same x.0 n) (Some (f x.0 x.1, mapped f below)) (either (part_mapped below n i) (part_mapped after n i)))
      ∙ part_cond n x below (part_at below n) (part_at after n) (same x.0 n) refl

  pub value_mapped : (t : Trees (NodeId × A)) (n : NodeId) → value_at (mapped f t) n ≡ value_by n (value_at t n)
  value_mapped t n = ap value_of (part_mapped t n) ∙ at (part_at t n)
    where
      at : (o : Option (Part A)) → value_of (part_by n o) ≡ value_by n (value_of o)
      at None = refl
      at (Some p) = refl

  pub live_mapped : (t : Trees (NodeId × A)) (n : NodeId) → is_some (part_at (mapped f t) n) ≡ is_some (part_at t n)
  live_mapped t n = ap is_some (part_mapped t n) ∙ at (part_at t n)
    where
      at : (o : Option (Part A)) → is_some (part_by n o) ≡ is_some o
      at None = refl
      at (Some p) = refl

  pub below_mapped : (t : Trees (NodeId × A)) (n : NodeId) → below_at (mapped f t) n ≡ mapped f (below_at t n)
  below_mapped t n = ap below_of (part_mapped t n) ∙ at (part_at t n)
    where
      at : (o : Option (Part A)) → below_of (part_by n o) ≡ mapped f (below_of o)
      at None = refl
      at (Some p) = refl

  top_mapped : (t : Trees (NodeId × A)) (i : ℕ) → number_of (slice_get (tops (mapped f t)) i) ≡ number_of (slice_get (tops t) i)
  top_mapped leafless i = refl
  top_mapped (tree x below after) zero = refl
  top_mapped (tree x below after) (suc i) = top_mapped after i

  pub child_mapped : (t : Trees (NodeId × A)) (n : NodeId) (i : ℕ) → child_at (mapped f t) n i ≡ child_at t n i
  child_mapped t n i = ap (λ u. number_of (slice_get (tops u) i)) (below_mapped t n) ∙ top_mapped (below_at t n) i

  pub way_mapped : (t : Trees (NodeId × A)) (n : NodeId) → way_up (mapped f t) n ≡ way_up t n
  way_mapped leafless n = refl
  way_mapped (tree x below after) n = λ i. cond (same x.0 n) (x.0 ∷ []) (upwards x.0 (way_mapped below n i) (way_mapped after n i))

  pub distinct_mapped : (t : Trees (NodeId × A)) → IsDistinct t → IsDistinct (mapped f t)
  distinct_mapped t d = λ n. let few = d n in omega (arith, times_mapped f n t)

pub mapped_same : {A B : Type 0} (f g : NodeId → A → B) (t : Trees (NodeId × A)) → ((n : NodeId) (v : A) → f n v ≡ g n v) → mapped f t ≡ mapped g t
mapped_same f g leafless h = refl
mapped_same f g (tree x below after) h = λ i. tree (x.0, h x.0 x.1 i) (mapped_same f g below h i) (mapped_same f g after h i)

pub mapped_twice : {A B C : Type 0} (f : NodeId → A → B) (g : NodeId → B → C) (t : Trees (NodeId × A)) → mapped g (mapped f t) ≡ mapped (λ n v. g n (f n v)) t
mapped_twice f g leafless = refl
mapped_twice f g (tree x below after) = λ i. tree (x.0, g x.0 (f x.0 x.1)) (mapped_twice f g below i) (mapped_twice f g after i)
