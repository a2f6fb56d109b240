-- What a tree that is taken out, and trees that are put under a parent, leave of the shape of a tree.
use Rattle.std.proofs.Common.{◌≡◌, ℕ, zero, suc, ◌+◌, ◌≤◌, max, Bool, true, false, cond, refl, ap, ◌∙◌, arith, ◌⊎◌, inl, inr}
use Rattle.std.specs.Str.{bytes_eq}
use Rattle.plain_tree.specs.Trees.{Trees, leafless, tree, joined, size_of, height_of, count_of}
use Rattle.plain_tree.proofs.Laws.{joined-leafless, size_of-joined, height_of-joined, count_of-joined}
use Rattle.doc_text.specs.Label.{Label}
use Rattle.doc_text.specs.Texts.{Word}
use Rattle.doc_text.specs.Growth.{holds}
use Rattle.doc_text.specs.Documents.{is_leaf}
use Rattle.doc_text.specs.Named.{IsDistinct, put_at, graft, grafted, removed, tree_at, level_of}
use Rattle.doc_text.specs.Edits.{are_too_many}
use Rattle.doc_text.specs.Valid.{HasContainers, HasFewChildren, IsShaped}
use Rattle.doc_text.proofs.Grown.{not_true, not_both, few_joined, containers_joined}
use Rattle.doc_text.proofs.Standing.{unchanged, no_tree, removed_distinct}
use Rattle.doc_text.proofs.Shapes.{Fact, EachNamed, fewer}

-- ---- a tree that is taken out
module _ (name : Word) where
  pub removed_count : (t : Trees Label) → count_of (removed name t) ≤ count_of t
  removed_count leafless = omega arith
  removed_count (tree x below after) = by_name (bytes_eq x.name name) (removed_count after)
    where
      by_name : (e : Bool) → count_of (removed name after) ≤ count_of after → count_of (cond e after (tree x (removed name below) (removed name after))) ≤ 1 + count_of after
      by_name true a = omega arith
      by_name false a = omega (arith, a)

  pub removed_height : (t : Trees Label) → height_of (removed name t) ≤ height_of t
  removed_height leafless = omega arith
  removed_height (tree x below after) = by_name (bytes_eq x.name name) (removed_height below) (removed_height after)
    where
      by_name : (e : Bool) → height_of (removed name below) ≤ height_of below → height_of (removed name after) ≤ height_of after
          → height_of (cond e after (tree x (removed name below) (removed name after))) ≤ max (1 + height_of below) (height_of after)
      by_name true b a = omega arith
      by_name false b a = omega (arith, b, a)

  -- what went and what is left are no more than what was there
  pub removed_size : (t : Trees Label) → IsDistinct t → size_of (removed name t) + size_of (tree_at name t) ≤ size_of t
  removed_size leafless d = omega arith
  removed_size (tree x below after) d = by_name (bytes_eq x.name name) (removed_size below d.1.1.1.0) (removed_size after d.1.1.1.1)
    where
      by_name : (e : Bool) → size_of (removed name below) + size_of (tree_at name below) ≤ size_of below → size_of (removed name after) + size_of (tree_at name after) ≤ size_of after
          → size_of (cond e after (tree x (removed name below) (removed name after))) + size_of (cond e (tree x below leafless) (joined (tree_at name below) (tree_at name after))) ≤ 1 + size_of below + size_of after
      by_name true b a = omega arith
      by_name false b a = omega (arith, b, a, size_of-joined (tree_at name below) (tree_at name after))

  pub removed_few : (version : ℕ) (t : Trees Label) → HasFewChildren version t → HasFewChildren version (removed name t)
  removed_few version leafless h = tt
  removed_few version (tree x below after) h = by_name (bytes_eq x.name name) (removed_few version below h.1.0) (removed_few version after h.1.1)
    where
      by_name : (e : Bool) → HasFewChildren version (removed name below) → HasFewChildren version (removed name after) → HasFewChildren version (cond e after (tree x (removed name below) (removed name after)))
      by_name true b a = h.1.1
      by_name false b a = (fewer version (count_of (removed name below)) (count_of below) (removed_count below) h.0, (b, a))

  pub removed_containers : (t : Trees Label) → HasContainers t → HasContainers (removed name t)
  removed_containers leafless h = tt
  removed_containers (tree x below after) h = by_name (bytes_eq x.name name) (removed_containers below h.1.0) (removed_containers after h.1.1)
    where
      by_name : (e : Bool) → HasContainers (removed name below) → HasContainers (removed name after) → HasContainers (cond e after (tree x (removed name below) (removed name after)))
      by_name true b a = h.1.1
      by_name false b a = ((λ f. ap (removed name) (h.0 f)), (b, a))

  pub removed_shaped : (version : ℕ) (t : Trees Label) → IsShaped version t → IsShaped version (removed name t)
  removed_shaped version t s = record {
    distinct = removed_distinct name t s.distinct;
    containers = removed_containers t s.containers;
    levels = omega (arith, removed_height t, s.levels);
    nodes = omega (arith, removed_size t s.distinct, s.nodes);
    children = removed_few version t s.children;
  }

  -- ---- the tree of a name
  pub tree_distinct : (t : Trees Label) → IsDistinct t → IsDistinct (tree_at name t)
  tree_distinct leafless d = tt
  tree_distinct (tree x below after) d = by_name (bytes_eq x.name name) (tree_distinct below d.1.1.1.0) (tree_distinct after d.1.1.1.1)
    where
      side : (b : Bool) → holds below name ≡ b → IsDistinct (tree_at name below) → IsDistinct (tree_at name after) → IsDistinct (joined (tree_at name below) (tree_at name after))
      side true e b a = rw (no_tree name after (d.1.1.0 name e), joined-leafless (tree_at name below)) b
      side false e b a = rw (no_tree name below e) a

      by_name : (e : Bool) → IsDistinct (tree_at name below) → IsDistinct (tree_at name after) → IsDistinct (cond e (tree x below leafless) (joined (tree_at name below) (tree_at name after)))
      by_name true b a = (d.0, (refl, ((λ _ _. refl), (d.1.1.1.0, tt))))
      by_name false b a = side (holds below name) refl b a

  pub tree_few : (version : ℕ) (t : Trees Label) → HasFewChildren version t → HasFewChildren version (tree_at name t)
  tree_few version leafless h = tt
  tree_few version (tree x below after) h = by_name (bytes_eq x.name name) (tree_few version below h.1.0) (tree_few version after h.1.1)
    where
      by_name : (e : Bool) → HasFewChildren version (tree_at name below) → HasFewChildren version (tree_at name after) → HasFewChildren version (cond e (tree x below leafless) (joined (tree_at name below) (tree_at name after)))
      by_name true b a = (h.0, (h.1.0, tt))
      by_name false b a = few_joined version (tree_at name below) (tree_at name after) b a

  pub tree_containers : (t : Trees Label) → HasContainers t → HasContainers (tree_at name t)
  tree_containers leafless h = tt
  tree_containers (tree x below after) h = by_name (bytes_eq x.name name) (tree_containers below h.1.0) (tree_containers after h.1.1)
    where
      by_name : (e : Bool) → HasContainers (tree_at name below) → HasContainers (tree_at name after) → HasContainers (cond e (tree x below leafless) (joined (tree_at name below) (tree_at name after)))
      by_name true b a = (h.0, (h.1.0, tt))
      by_name false b a = containers_joined (tree_at name below) (tree_at name after) b a

-- ---- trees that are put under a parent
abbrev pub AreApart : Trees Label → Trees Label → Type 0
AreApart s t = (m : Word) → holds s m ≡ true → holds t m ≡ false

pub turned : (s t : Trees Label) → AreApart s t → AreApart t s
turned s t a m h = not_true _ (λ e. not_both _ h (a m e))

module _ (parent : Word) (i : ℕ) (new : Trees Label) where
  put_size : (i : ℕ) (t : Trees Label) → size_of (put_at i new t) ≡ size_of t + size_of new
  put_size i leafless = omega arith
  put_size zero (tree x below after) = omega (arith, size_of-joined new (tree x below after))
  put_size (suc i) (tree x below after) = omega (arith, put_size i after)

  put_count : (i : ℕ) (t : Trees Label) → count_of (put_at i new t) ≡ count_of t + count_of new
  put_count i leafless = omega arith
  put_count zero (tree x below after) = omega (arith, count_of-joined new (tree x below after))
  put_count (suc i) (tree x below after) = omega (arith, put_count i after)

  put_height : (i : ℕ) (t : Trees Label) → height_of (put_at i new t) ≡ max (height_of t) (height_of new)
  put_height i leafless = omega arith
  put_height zero (tree x below after) = omega (arith, height_of-joined new (tree x below after))
  put_height (suc i) (tree x below after) = omega (arith, put_height i after)

  put_few : (version i : ℕ) (t : Trees Label) → HasFewChildren version new → HasFewChildren version t → HasFewChildren version (put_at i new t)
  put_few version i leafless n h = n
  put_few version zero (tree x below after) n h = few_joined version new (tree x below after) n h
  put_few version (suc i) (tree x below after) n h = (h.0, (h.1.0, put_few version i after n h.1.1))

  put_containers : (i : ℕ) (t : Trees Label) → HasContainers new → HasContainers t → HasContainers (put_at i new t)
  put_containers i leafless n h = n
  put_containers zero (tree x below after) n h = containers_joined new (tree x below after) n h
  put_containers (suc i) (tree x below after) n h = (h.0, (h.1.0, put_containers i after n h.1.1))

  pub graft_count : (t : Trees Label) → count_of (grafted parent i new t) ≡ count_of t
  graft_count leafless = refl
  graft_count (tree x below after) = by_name (bytes_eq x.name parent) (graft_count after)
    where
      by_name : (e : Bool) → count_of (grafted parent i new after) ≡ count_of after → count_of (cond e (tree x (put_at i new below) after) (tree x (grafted parent i new below) (grafted parent i new after))) ≡ 1 + count_of after
      by_name true a = refl
      by_name false a = rw a refl

  -- the parent stands below, or after, or in neither
  abbrev Sides : Trees Label → Trees Label → Type 0
  Sides below after = (holds below parent ≡ true × grafted parent i new after ≡ after) ⊎ (holds below parent ≡ false × grafted parent i new below ≡ below)

  sides : (below after : Trees Label) → ((m : Word) → holds below m ≡ true → holds after m ≡ false) → Sides below after
  sides below after d = by_test (holds below parent) refl
    where
      by_test : (b : Bool) → holds below parent ≡ b → Sides below after
      by_test true e = inl (e, unchanged parent (graft i new) after (d parent e))
      by_test false e = inr (e, unchanged parent (graft i new) below e)

  pub graft_size : (t : Trees Label) → IsDistinct t → size_of (grafted parent i new t) ≤ size_of t + size_of new
  graft_size leafless d = omega arith
  graft_size (tree x below after) d = by_name (bytes_eq x.name parent) (sides below after d.1.1.0) (graft_size below d.1.1.1.0) (graft_size after d.1.1.1.1)
    where
      by_name : (e : Bool) → Sides below after → size_of (grafted parent i new below) ≤ size_of below + size_of new → size_of (grafted parent i new after) ≤ size_of after + size_of new
          → size_of (cond e (tree x (put_at i new below) after) (tree x (grafted parent i new below) (grafted parent i new after))) ≤ 1 + size_of below + size_of after + size_of new
      by_name true s b a = omega (arith, put_size i below)
      by_name false (inl s) b a = rw s.1 (omega (arith, b))
      by_name false (inr s) b a = rw s.1 (omega (arith, a))

  pub graft_height : (t : Trees Label) → IsDistinct t → height_of (grafted parent i new t) ≤ max (height_of t) (level_of parent t + height_of new)
  graft_height leafless d = omega arith
  graft_height (tree x below after) d = by_name (bytes_eq x.name parent) (sides below after d.1.1.0) (graft_height below d.1.1.1.0) (graft_height after d.1.1.1.1)
    where
      by_name : (e : Bool) → Sides below after → height_of (grafted parent i new below) ≤ max (height_of below) (level_of parent below + height_of new)
          → height_of (grafted parent i new after) ≤ max (height_of after) (level_of parent after + height_of new)
          → height_of (cond e (tree x (put_at i new below) after) (tree x (grafted parent i new below) (grafted parent i new after)))
          ≤ max (max (1 + height_of below) (height_of after)) (cond e 1 (cond (holds below parent) (1 + level_of parent below) (level_of parent after)) + height_of new)
      by_name true s b a = omega (arith, put_height i below)
      by_name false (inl s) b a = rw (s.1, s.0) (omega (arith, b))
      by_name false (inr s) b a = rw (s.1, s.0) (omega (arith, a))

  -- ---- at the parent
  module _ (version : ℕ) where
    abbrev pub HasPlace : Fact
    HasPlace x below = (are_too_many version (count_of below + count_of new) ≡ false) × (is_leaf x.kind ≡ false)

    pub graft_few : (t : Trees Label) → HasFewChildren version new → HasFewChildren version t → EachNamed parent HasPlace t → HasFewChildren version (grafted parent i new t)
    graft_few leafless n h k = tt
    graft_few (tree x below after) n h k = by_name (bytes_eq x.name parent) refl (graft_few below n h.1.0 k.1.0) (graft_few after n h.1.1 k.1.1)
      where
        by_name : (e : Bool) → bytes_eq x.name parent ≡ e → HasFewChildren version (grafted parent i new below) → HasFewChildren version (grafted parent i new after)
            → HasFewChildren version (cond e (tree x (put_at i new below) after) (tree x (grafted parent i new below) (grafted parent i new after)))
        by_name true e b a = (ap (are_too_many version) (put_count i below) ∙ (k.0 e).0, (put_few version i below n h.1.0, h.1.1))
        by_name false e b a = (ap (are_too_many version) (graft_count below) ∙ h.0, (b, a))

    pub graft_containers : (t : Trees Label) → HasContainers new → HasContainers t → EachNamed parent HasPlace t → HasContainers (grafted parent i new t)
    graft_containers leafless n h k = tt
    graft_containers (tree x below after) n h k = by_name (bytes_eq x.name parent) refl (graft_containers below n h.1.0 k.1.0) (graft_containers after n h.1.1 k.1.1)
      where
        by_name : (e : Bool) → bytes_eq x.name parent ≡ e → HasContainers (grafted parent i new below) → HasContainers (grafted parent i new after)
            → HasContainers (cond e (tree x (put_at i new below) after) (tree x (grafted parent i new below) (grafted parent i new after)))
        by_name true e b a = ((λ f. absurd (not_both _ f (k.0 e).1)), (put_containers i below n h.1.0, h.1.1))
        by_name false e b a = ((λ f. ap (grafted parent i new) (h.0 f)), (b, a))
