-- What is said of each node of a tree is said by its number.
use Rattle.std.proofs.Common.{◌≡◌, refl, sym, subst, ap, ◌∙◌, arith, ℕ, ◌≤◌, Bool, true, false, Option, Some, None, IsSome, if◌then◌else◌}
use Rattle.plain_tree.specs.Trees.{Trees, leafless, tree, count_of}
use Rattle.node_arena.specs.declared.number.NodeId.{NodeId}
use Rattle.node_arena.specs.Numbers.{EachNode, IsNarrow, Part, below_at, below_of, either, part_at, same, value_of}
use Rattle.placing.specs.Nodes.{Bare, BareTrees, label_of_bare, sight_at}
use Rattle.placing.specs.Ranges.{AreReadable, IsReadable}
use Rattle.placing.proofs.Sights.{count_kids, sight_label}

module _ {A : Type 0} where
  -- a fact of each value is one of the value of a number
  part_each : (Q : A → Type 0) (t : Trees (NodeId × A)) (n : NodeId) (p : Part A) → EachNode (λ x. Q x.1) t → part_at t n ≡ Some p → Q p.0
  part_each Q leafless n p h e = absurd cc
  part_each Q (tree x below after) n p h e = go (same x.0 n) (part_at below n) refl e (λ q f. part_each Q below n q h.1.0 f) (λ q f. part_each Q after n q h.1.1 f)
    where
      go : (t : Bool) (o : Option (Part A)) → part_at below n ≡ o → (if t then Some (x.1, below) else either o (part_at after n)) ≡ Some p
          → ((q : Part A) → part_at below n ≡ Some q → Q q.0) → ((q : Part A) → part_at after n ≡ Some q → Q q.0) → Q p.0
      go true o same_below f lower later = let first : x.1 ≡ p.0 = (let pair : (x.1, below) ≡ p = cc in ap (λ (z : Part A). z.0) pair) in subst Q first h.0
      go false None same_below f lower later = later p f
      go false (Some q) same_below f lower later = lower p (same_below ∙ f)

  -- no number has more children than any node may have
  narrow_each : (most : ℕ) (t : Trees (NodeId × A)) (n : NodeId) → IsNarrow most t → count_of (below_at t n) ≤ most
  narrow_each most leafless n h = omega arith
  narrow_each most (tree x below after) n h = go (same x.0 n) (part_at below n) (narrow_each most below n h.1.0) (narrow_each most after n h.1.1)
    where
      go : (t : Bool) (o : Option (Part A)) → count_of (below_of o) ≤ most → count_of (below_of (part_at after n)) ≤ most → count_of (below_of (if t then Some (x.1, below) else either o (part_at after n))) ≤ most
      go true o lower later = h.0
      go false None lower later = later
      go false (Some q) lower later = lower

pub by_nodes : (b : BareTrees) → EachNode (λ x. IsReadable (label_of_bare x.1)) b → IsNarrow 65536 b → AreReadable b
by_nodes b each narrow =
    record {
      nodes = λ n live. go n (part_at b n) refl live;
      children = λ n. omega (arith, count_kids b n, narrow_each 65536 b n narrow);
    }
  where
    go : (n : NodeId) (o : Option (Part Bare)) → part_at b n ≡ o → IsSome o → IsReadable (sight_at b n).label
    go n None e live = absurd cc
    go n (Some p) e live = subst IsReadable (sight_label b n p.0 (sym (ap value_of e))) (part_each (λ (v : Bare). IsReadable (label_of_bare v)) b n p each e)
