-- Where two trees agree at a node: all that layout can read of the node is the same in both (own
-- rule).
use Rattle.std.specs.Prelude.{◌≡◌, ℕ, List, [], ◌∷◌, Option, Some, None, ⊤}
use Rattle.plain_tree.specs.Trees.{Trees}
use Rattle.tree_rules.specs.Answers.{Pair}
use Rattle.tree_rules.specs.Chains.{Link}
use Rattle.tree_rules.specs.Contexts.{Context, context_by}
use Rattle.tree_rules.specs.Labels.{Label}
use Rattle.tree_rules.specs.Places.{Seen, seen_named}
use Rattle.tree_rules.specs.Queries.{Answer, answer_of}
use Rattle.tree_rules.specs.declared.query.Query.{Query}

-- A grid of the chain above a node is the same in both trees: its name, its values of grid-class
-- properties, its children in order, by their names, by whether they are grids and by their values
-- of
-- grid-class properties, and which of them is on the way to the node.
pub record IsSameLink (l m : Link) : Type 0 where
  pub name : m.name ≡ l.name
  pub grid : m.grid ≡ l.grid
  pub children : m.children ≡ l.children
  pub way : m.way ≡ l.way

-- each grid of a chain is the same in both trees, the nearest first
abbrev pub AreSameLinks : List Link → List Link → Type 0
AreSameLinks [] [] = ⊤
AreSameLinks [] (m ∷ later) = ⊥
AreSameLinks (l ∷ chain) [] = ⊥
AreSameLinks (l ∷ chain) (m ∷ later) = IsSameLink l m × AreSameLinks chain later

-- The two trees have the node of this name, with the same values, the same trees below it and the same chain above it. All values are
-- computed ones.
pub record AgreeAt (name : List ℕ) (t u : Trees Label) : Type 0 where
  pub before : Seen
  pub after : Seen
  pub in_first : seen_named name t ≡ Some before
  pub in_second : seen_named name u ≡ Some after
  pub label : after.label ≡ before.label
  pub below : after.below ≡ before.below
  pub chain : AreSameLinks before.chain after.chain

-- ---- what is asked of a node

-- the context of a grid, by the counts of the automatic repeats of the grids of its chain and its
-- own
abbrev pub context_of : Option Seen → List Pair → Option Context
context_of None counts = None
context_of (Some s) counts = Some (context_by s.label.grid s.chain counts)

abbrev pub context_at : List ℕ → Trees Label → List Pair → Option Context
context_at name t counts = context_of (seen_named name t) counts

-- the answer to a question
abbrev pub answer_by : Option Seen → Query → Option Answer
answer_by None q = None
answer_by (Some s) q = Some (answer_of s q)

abbrev pub answer_at : List ℕ → Trees Label → Query → Option Answer
answer_at name t q = answer_by (seen_named name t) q
