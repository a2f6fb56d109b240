-- A change of values alone is local: kinds, declared and computed styles.
use Rattle.std.proofs.Common.{◌≡◌, Bool, false, ◌&&◌, List, [], ◌∷◌, Option, Some, None, IsSome, is_some, refl, sym, ap, subst, ◌∙◌}
use Rattle.plain_tree.specs.Trees.{leafless, tree, map_trees}
use Rattle.node_arena.specs.declared.number.NodeId.{NodeId}
use Rattle.node_arena.specs.Numbers.{Part, below_of, mapped, part_at, top_numbers}
use Rattle.node_arena.proofs.Changed.{tops_mapped}
use Rattle.node_arena.proofs.Same.{by_place, part_after, part_below, part_here, same_is}
use Rattle.tree_rules.specs.Chains.{Sibling, sibling_of, siblings_of}
use Rattle.tree_rules.specs.Labels.{Label}
use Rattle.placing.specs.declared.node.Node.{Node}
use Rattle.placing.specs.Nodes.{IsLive, NodeTrees, bare, bare_of, children_at, label_in, label_of_bare, sight_at}
use Rattle.placing.proofs.Mapped.{live_mapped, part_by, part_mapped}
use Rattle.placing.proofs.Sights.{sight_part}
use Rattle.reach_frame.specs.Local.{IsLocal, ShowsSame}
use Rattle.reach_frame.proofs.Frame.{child_live}

-- what the rules read of a node of the arena
abbrev pub label_at : Node → Label
label_at v = label_of_bare (bare_of v)

-- what a parent sees of these trees
abbrev pub faces : NodeTrees → List Sibling
faces leafless = []
faces (tree x below after) = sibling_of (label_at x.1) ∷ faces after

pub faces_bare : (t : NodeTrees) → siblings_of (map_trees label_in (bare t)) ≡ faces t
unfolding bare
faces_bare leafless = refl
faces_bare (tree x below after) = ap (λ l. sibling_of (label_at x.1) ∷ l) (faces_bare after)

-- what stands under a number, in the bare tree
pub part_bare : (t : NodeTrees) (n : NodeId) (q : Part Node) → part_at t n ≡ Some q → part_at (bare t) n ≡ Some (bare_of q.0, bare q.1)
unfolding bare
part_bare t n q e = part_mapped (λ m v. bare_of v) t n ∙ ap (part_by (λ m v. bare_of v) n) e

-- the label, the children and their faces, by what stands there
pub sight_labels : (t : NodeTrees) (n : NodeId) (q : Part Node) → part_at t n ≡ Some q → (sight_at (bare t) n).label ≡ label_at q.0
sight_labels t n q e = (sight_part (bare t) n (bare_of q.0, bare q.1) (part_bare t n q e)).its_label

pub sight_faces : (t : NodeTrees) (n : NodeId) (q : Part Node) → part_at t n ≡ Some q → siblings_of (sight_at (bare t) n).below ≡ faces q.1
sight_faces t n q e = ap siblings_of (sight_part (bare t) n (bare_of q.0, bare q.1) (part_bare t n q e)).its_trees ∙ faces_bare q.1

pub sight_children : (t : NodeTrees) (n : NodeId) (q : Part Node) → part_at t n ≡ Some q → children_at (bare t) n ≡ top_numbers q.1
unfolding bare
sight_children t n q e = ap (λ o. top_numbers (below_of o)) (part_bare t n q e) ∙ tops_mapped (λ m v. bare_of v) q.1

pub live_part : (t : NodeTrees) (n : NodeId) → IsLive (bare t) n → (q : Part Node) × (part_at t n ≡ Some q)
unfolding bare
live_part t n live = at (part_at t n) refl (sym (live_mapped (λ m v. bare_of v) t n) ∙ live)
  where
    at : (o : Option (Part Node)) → part_at t n ≡ o → IsSome o → (q : Part Node) × (part_at t n ≡ Some q)
    at None e l = absurd cc
    at (Some q) e l = (q, e)

-- a number shows the same where what stands there has the same face, the same tops and the same faces below
pub shows_by : (t u : NodeTrees) (n : NodeId) (p q : Part Node) → part_at t n ≡ Some p → part_at u n ≡ Some q → sibling_of (label_at q.0) ≡ sibling_of (label_at p.0) → top_numbers q.1 ≡ top_numbers p.1 → faces q.1 ≡ faces p.1 → ShowsSame (bare t) (bare u) n
shows_by t u n p q e f own tops kids =
    record {
      live = ap is_some (part_bare t n p e);
      own = ap sibling_of (sight_labels u n q f) ∙ own ∙ sym (ap sibling_of (sight_labels t n p e));
      children = sight_children u n q f ∙ tops ∙ sym (sight_children t n p e);
      siblings = sight_faces u n q f ∙ kids ∙ sym (sight_faces t n p e);
    }

-- ---- other values
module _ (touched : NodeId → Bool) (grid : Bool) (g : NodeId → Node → Node) where
  -- a node that is not touched reads the same, and no node shows another face or other children's but a touched one, where faces count
  abbrev pub StaysApart : NodeTrees → Type 0
  StaysApart leafless = Unit {0}
  StaysApart (tree x below after) =
      ((touched x.0 ≡ false → label_at (g x.0 x.1) ≡ label_at x.1) × ((grid && touched x.0) ≡ false → (sibling_of (label_at (g x.0 x.1)) ≡ sibling_of (label_at x.1)) × (faces (mapped g below) ≡ faces below)))
      × (StaysApart below × StaysApart after)

  abbrev pub AtNode : NodeId → Part Node → Type 0
  AtNode n q = (touched n ≡ false → label_at (g n q.0) ≡ label_at q.0) × ((grid && touched n) ≡ false → (sibling_of (label_at (g n q.0)) ≡ sibling_of (label_at q.0)) × (faces (mapped g q.1) ≡ faces q.1))

  pub at_node : (t : NodeTrees) (n : NodeId) (q : Part Node) → StaysApart t → part_at t n ≡ Some q → AtNode n q
  at_node leafless n q s e = absurd cc
  at_node (tree x below after) n q s e =
      by_place x below n
      (λ h. let is : Some (x.1, below) ≡ Some q = sym (part_here x below after n h) ∙ e in
      subst (λ (z : NodeId × Part Node). AtNode z.0 z.1) (λ i. (same_is x.0 n h.is i, some_part (x.1, below) q is i)) s.0)
      (λ h. at_node below n q s.1.0 (sym (part_below x below after n h) ∙ e))
      (λ h. at_node after n q s.1.1 (sym (part_after x below after n h) ∙ e))
    where
      some_part : (a b : Part Node) → Some a ≡ Some b → a ≡ b
      some_part a b q = cc

  module _ (t : NodeTrees) (nodes : (n : NodeId) (q : Part Node) → part_at t n ≡ Some q → AtNode n q) where
    new_part : (n : NodeId) (q : Part Node) → part_at t n ≡ Some q → part_at (mapped g t) n ≡ Some (g n q.0, mapped g q.1)
    new_part n q e = part_mapped g t n ∙ ap (part_by g n) e

    old_part : (n : NodeId) → IsLive (bare (mapped g t)) n → (q : Part Node) × (part_at t n ≡ Some q)
    unfolding bare
    old_part n live = at (part_at t n) refl (sym (live_mapped g t n) ∙ sym (live_mapped (λ m v. bare_of v) (mapped g t) n) ∙ live)
      where
        at : (o : Option (Part Node)) → part_at t n ≡ o → IsSome o → (q : Part Node) × (part_at t n ≡ Some q)
        at None e l = absurd cc
        at (Some q) e l = (q, e)

    still_live : (n : NodeId) → IsLive (bare t) n → IsLive (bare (mapped g t)) n
    unfolding bare
    still_live n live = live_mapped (λ m v. bare_of v) (mapped g t) n ∙ live_mapped g t n ∙ sym (live_mapped (λ m v. bare_of v) t n) ∙ live

    pub values_at : IsLocal touched grid (bare t) (bare (mapped g t))
    values_at =
        record {
          own = λ n live calm. let q = old_part n live in sight_labels (mapped g t) n (g n q.0.0, mapped g q.0.1) (new_part n q.0 q.1) ∙ (nodes n q.0 q.1).0 calm ∙ sym (sight_labels t n q.0 q.1);
          shows = λ n live calm. let q = old_part n live in let s = (nodes n q.0 q.1).1 calm in shows_by t (mapped g t) n q.0 (g n q.0.0, mapped g q.0.1) q.1 (new_part n q.0 q.1) s.0 (tops_mapped g q.0.1) s.1;
          stays = λ q n i e live calm. still_live q (child_live (bare t) q n i e);
        }

  pub values_local : (t : NodeTrees) → StaysApart t → IsLocal touched grid (bare t) (bare (mapped g t))
  values_local t apart = values_at t (λ n q e. at_node t n q apart e)
