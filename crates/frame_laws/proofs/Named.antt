-- What the rules see of a name is what they see of its number.
use Rattle.std.proofs.Common.{◌≡◌, refl, ap, sym, ◌∙◌, ℕ, ◌+◌, ◌≤◌, Bool, true, false, List, Option, Some, None, IsSome, if◌then◌else◌, arith}
use Rattle.std.specs.Str.{bytes_eq}
use Rattle.plain_tree.specs.Trees.{Trees, leafless, map_trees, tree}
use Rattle.node_arena.specs.declared.number.NodeId.{NodeId}
use Rattle.node_arena.specs.Numbers.{EachNode, mapped, one, part_at, same, times}
use Rattle.node_arena.proofs.Same.{by_place, part_there}
use Rattle.tree_rules.specs.Chains.{Above, above_of, chain_of}
use Rattle.tree_rules.specs.Labels.{Label}
use Rattle.tree_rules.specs.Places.{Seen, above_root, first_of_two, seen_below, seen_named}
use Rattle.placing.specs.Nodes.{Bare, BareTrees, NodeTrees, bare, bare_of, label_in, label_of_bare, seen_or_nothing, sight_at}
use Rattle.placing.proofs.Bares.{live_from}
use Rattle.page_tree.specs.Registers.{Tells}

map_same : (t : Trees Label) → map_trees (λ x. x) t ≡ t
map_same leafless = refl
map_same (tree x below after) = λ i. tree x (map_same below i) (map_same after i)

or_first : (o p : Option Seen) → IsSome o → IsSome (first_of_two o p)
or_first None p h = absurd cc
or_first (Some s) p h = refl

or_second : (o p : Option Seen) → IsSome p → IsSome (first_of_two o p)
or_second None p h = h
or_second (Some s) p h = refl

whole : (o : Option Seen) → IsSome o → o ≡ Some (seen_or_nothing o)
whole None h = absurd cc
whole (Some s) h = refl

module _ (name : List ℕ) (k : NodeId) where
  abbrev seen_number : Above → ℕ → BareTrees → Option Seen
  seen_number above i b = seen_below label_in (λ x. same x.0 k) above i b

  seen_alike : (above : Above) (i : ℕ) (b : BareTrees) → EachNode (λ x. same x.0 k ≡ bytes_eq x.1.name name) b →
      seen_below (λ (x : Label). x) (λ (x : Label). bytes_eq x.name name) above i (map_trees label_in b) ≡ seen_number above i b
  unfolding label_of_bare
  seen_alike above i leafless e = refl
  seen_alike above i (tree x below after) e =
      λ j.
      if sym e.0 j then Some (record { label = label_in x; chain = chain_of above i (label_in x); below = map_same (map_trees label_in below) j })
      else first_of_two (lower (seen_alike (above_of (label_in x) (chain_of above i (label_in x)) (map_trees label_in below)) 0 below e.1.0) j) (seen_alike above (i + 1) after e.1.1 j)
    where
      lower : seen_below (λ (y : Label). y) (λ (y : Label). bytes_eq y.name name) (above_of (label_in x) (chain_of above i (label_in x)) (map_trees label_in below)) 0 (map_trees label_in below)
          ≡ seen_number (above_of (label_in x) (chain_of above i (label_in x)) (map_trees label_in below)) 0 below
          → seen_below (λ (y : Label). y) (λ (y : Label). bytes_eq y.name name) (above_of (label_in x) (chain_of above i (label_in x)) (map_trees (λ y. y) (map_trees label_in below))) 0 (map_trees label_in below)
          ≡ seen_number (above_of (label_in x) (chain_of above i (label_in x)) (map_trees label_in below)) 0 below
      lower alike =
          (λ j. seen_below (λ (y : Label). y) (λ (y : Label). bytes_eq y.name name) (above_of (label_in x) (chain_of above i (label_in x)) (map_same (map_trees label_in below) j)) 0 (map_trees label_in below))
          ∙ alike

  seen_there : (above : Above) (i : ℕ) (b : BareTrees) → 1 ≤ times k b → IsSome (seen_number above i b)
  seen_there above i leafless l = absurd (omega (arith, l))
  seen_there above i (tree x below after) l =
      at (same x.0 k) refl (λ b. seen_there (above_of (label_in x) (chain_of above i (label_in x)) (map_trees label_in below)) 0 below b) (λ a. seen_there above (i + 1) after a)
    where
      here : Seen
      here = record { label = label_in x; chain = chain_of above i (label_in x); below = map_trees label_in below }

      lower : Option Seen
      lower = seen_number (above_of (label_in x) (chain_of above i (label_in x)) (map_trees label_in below)) 0 below

      at : (c : Bool) → same x.0 k ≡ c → (1 ≤ times k below → IsSome lower) → (1 ≤ times k after → IsSome (seen_number above (i + 1) after)) → IsSome (if c then Some here else first_of_two lower (seen_number above (i + 1) after))
      at true e b a = refl
      at false e b a =
          by_place x below k
          (λ h. absurd (absurd_both e h.is))
          (λ h. or_first lower (seen_number above (i + 1) after) (b h.in_below))
          (λ h. or_second lower (seen_number above (i + 1) after) (a (omega (arith, l, h.none, ap one e))))
        where
          absurd_both : same x.0 k ≡ false → same x.0 k ≡ true → ⊥
          absurd_both f g = let no : true ≡ false = sym g ∙ f in cc

  tells_bare : (t : NodeTrees) → Tells k name t → EachNode (λ (x : NodeId × Bare). same x.0 k ≡ bytes_eq x.1.name name) (mapped (λ n v. bare_of v) t)
  tells_bare leafless e = tt
  tells_bare (tree x below after) e = (e.0, (tells_bare below e.1.0, tells_bare after e.1.1))

  pub named_seen : (t : NodeTrees) → Tells k name t → IsSome (part_at t k) → seen_named name (map_trees label_in (bare t)) ≡ Some (sight_at (bare t) k)
  unfolding bare sight_at
  named_seen t e l =
      seen_alike above_root 0 (mapped (λ n v. bare_of v) t) (tells_bare t e)
      ∙ whole (seen_number above_root 0 (mapped (λ n v. bare_of v) t)) (seen_there above_root 0 (mapped (λ n v. bare_of v) t) (part_there (mapped (λ n v. bare_of v) t) k (live_from t k l)))
