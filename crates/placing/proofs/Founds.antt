-- An answer that is found, or not.
use Rattle.std.proofs.Common.{◌≡◌, Option, Some, None, refl, sym}
use Rattle.std.specs.Prelude.{IfNone, IfSome, IsTrue, is_none}
use Rattle.layout_cache.specs.Kept.{answer_to}
use Rattle.node_arena.specs.declared.number.NodeId.{NodeId}
use Rattle.tree_rules.specs.declared.query.Query.{Query}
use Rattle.tree_rules.specs.Queries.{answer_of}
use Rattle.placing.specs.declared.node.Answer.{Answer}
use Rattle.placing.specs.Kept.{IsRight, IsOfNode, kept_at, plain_answer}
use Rattle.placing.specs.Nodes.{NodeTrees, bare, children_at, sight_at}
use Rattle.std.proofs.Common.{Bool, true, false, List, [], ◌∷◌, cond, subst, ap, ◌∙◌}
use Rattle.std.specs.Prelude.{◌==◌, ◌&&◌}
use Rattle.layout_cache.proofs.Sames.{count_is, items_is}
use Rattle.tree_rules.specs.Answers.{Pair}
use Rattle.tree_rules.specs.Places.{Seen}
use Rattle.placing.specs.Bases.{AreOf, HoldsPlaces, base_with, listed, same_pairs}
use Rattle.placing.specs.declared.wide.GridBase.{GridBase}
use Rattle.placing.specs.Kept.{bases_at}
use Rattle.placing.proofs.Puts.{each_found}

pub none_then : {A : Type 0} (o : Option A) (P : Type 0) → (IsTrue (is_none o) → P) → IfNone o P
none_then None P f = f refl
none_then (Some x) P f = tt

-- a kept answer is the defined one, and names the children
pub found_value : (t : NodeTrees) (n : NodeId) (q : Query) (o : Option Answer) → IsRight t → o ≡ answer_to q (kept_at t n) → IfSome o (λ a. plain_answer a ≡ answer_of (sight_at (bare t) n) q)
found_value t n q None r e = tt
found_value t n q (Some a) r e = (each_found _ q a (kept_at t n) (r.lists n).each (sym e)).answer

pub found_children : (t : NodeTrees) (n : NodeId) (q : Query) (o : Option Answer) → IsRight t → o ≡ answer_to q (kept_at t n) → IfSome o (λ a. IsOfNode (sight_at (bare t) n) (children_at (bare t) n) q a)
found_children t n q None r e = tt
found_children t n q (Some a) r e = each_found (λ (p : Query) (x : Answer). IsOfNode (sight_at (bare t) n) (children_at (bare t) n) p x) q a (kept_at t n) (r.children n) (sym e)

-- ---- a context with its areas that is found
pairs_are : (xs ys : List Pair) → same_pairs xs ys ≡ true → xs ≡ ys
pairs_are xs ys e = items_is (λ (x : Pair) (y : Pair). (x.0 == y.0) && (x.1 == y.1)) count_is xs ys e

-- by the one that there may be
pub counts_yes : (pairs xs : List Pair) (o : Option GridBase) (base : GridBase) (b : Bool) → o ≡ Some base → xs ≡ base.pairs → b ≡ same_pairs xs pairs → b ≡ true → Some base ≡ base_with pairs (listed o)
counts_yes pairs xs o base b e f g h = sym (ap (λ z. base_with pairs (listed z)) e ∙ ap (λ c. cond c (Some base) None) (sym (ap (λ z. same_pairs z pairs) f) ∙ sym g ∙ h))

pub counts_no : (pairs xs : List Pair) (o : Option GridBase) (base : GridBase) (b : Bool) → o ≡ Some base → xs ≡ base.pairs → b ≡ same_pairs xs pairs → b ≡ false → None ≡ base_with pairs (listed o)
counts_no pairs xs o base b e f g h = sym (ap (λ z. base_with pairs (listed z)) e ∙ ap (λ c. cond c (Some base) None) (sym (ap (λ z. same_pairs z pairs) f) ∙ sym g ∙ h))

with_those : (pairs : List Pair) (bases : List GridBase) → IfSome (base_with pairs bases) (λ base. base.pairs ≡ pairs)
with_those pairs [] = tt
with_those pairs (base ∷ rest) = at (same_pairs base.pairs pairs) refl (with_those pairs rest)
  where
    at : (c : Bool) → same_pairs base.pairs pairs ≡ c → IfSome (base_with pairs rest) (λ x. x.pairs ≡ pairs) → IfSome (cond c (Some base) (base_with pairs rest)) (λ x. x.pairs ≡ pairs)
    at true e h = pairs_are base.pairs pairs e
    at false e h = h

with_all : (s : Seen) (kids : List NodeId) (pairs : List Pair) (bases : List GridBase) → AreOf s kids bases → IfSome (base_with pairs bases) (HoldsPlaces s kids)
with_all s kids pairs [] h = tt
with_all s kids pairs (base ∷ rest) h = at (same_pairs base.pairs pairs) (with_all s kids pairs rest h.1)
  where
    at : (c : Bool) → IfSome (base_with pairs rest) (HoldsPlaces s kids) → IfSome (cond c (Some base) (base_with pairs rest)) (HoldsPlaces s kids)
    at true g = h.0
    at false g = g

pub base_pairs : (t : NodeTrees) (n : NodeId) (pairs : List Pair) (o : Option GridBase) → o ≡ base_with pairs (bases_at t n) → IfSome o (λ base. base.pairs ≡ pairs)
base_pairs t n pairs o e = subst (λ z. IfSome z (λ (base : GridBase). base.pairs ≡ pairs)) (sym e) (with_those pairs (bases_at t n))

pub base_holds : (t : NodeTrees) (n : NodeId) (pairs : List Pair) (o : Option GridBase) → IsRight t → o ≡ base_with pairs (bases_at t n) → IfSome o (HoldsPlaces (sight_at (bare t) n) (children_at (bare t) n))
base_holds t n pairs o r e = subst (λ z. IfSome z (HoldsPlaces (sight_at (bare t) n) (children_at (bare t) n))) (sym e) (with_all (sight_at (bare t) n) (children_at (bare t) n) pairs (bases_at t n) (r.past n).bases)
