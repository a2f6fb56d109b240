-- Nodes that are seen the same have the same answers, and what chains do not depend on.
use Rattle.std.specs.Prelude.{◌≡◌, ℕ, ◌&&◌, List, [], ◌∷◌, if◌then◌else◌}
use Rattle.std.proofs.Common.{ap}
use Rattle.plain_tree.specs.Trees.{Trees}
use Rattle.tree_rules.specs.declared.query.Query.{Query}
use Rattle.tree_rules.specs.Chains.{Above, Link, Sibling, above_of, chain_of, has_subgrid, link_to, sibling_of, siblings_of}
use Rattle.tree_rules.specs.Labels.{Label}
use Rattle.tree_rules.specs.Places.{Seen, answers_of}
use Rattle.tree_rules.specs.Queries.{answer_of}

pub same_seen : (s t : Seen) → s.label ≡ t.label → s.chain ≡ t.chain → s.below ≡ t.below → s ≡ t
same_seen s t e f g = λ i. record { label = e i; chain = f i; below = g i }

pub same_answers : (s t : Seen) → s.label ≡ t.label → s.chain ≡ t.chain → s.below ≡ t.below → answers_of s ≡ answers_of t
same_answers s t e f g = ap answers_of (same_seen s t e f g)

pub same_answer : (s t : Seen) (q : Query) → s.label ≡ t.label → s.chain ≡ t.chain → s.below ≡ t.below → answer_of s q ≡ answer_of t q
same_answer s t q e f g = ap (λ (a : Seen). answer_of a q) (same_seen s t e f g)

-- what the children of a node see of it, by what its parent sees of it and of them
abbrev above_by : Sibling → List Link → List Sibling → Above
above_by s chain children = record { name = s.name; is_grid = s.is_grid; grid = s.grid; children = children; chain = chain }

pub same_above : (x y : Label) (chain : List Link) (below under : Trees Label) → sibling_of x ≡ sibling_of y → siblings_of below ≡ siblings_of under → above_of x chain below ≡ above_of y chain under
same_above x y chain below under e f = λ i. above_by (e i) chain (f i)

-- the chain of a child, by what its parent sees of it
abbrev chain_by : Above → ℕ → Sibling → List Link
chain_by above n s = if above.is_grid && (s.is_grid && has_subgrid s.grid) then link_to above n ∷ above.chain else []

pub same_chain : (x y a b : Label) (chain : List Link) (below under : Trees Label) (n : ℕ) → sibling_of x ≡ sibling_of y → siblings_of below ≡ siblings_of under → sibling_of a ≡ sibling_of b → chain_of (above_of x chain below) n a ≡ chain_of (above_of y chain under) n b
same_chain x y a b chain below under n e f g = λ i. chain_by (same_above x y chain below under e f i) n (g i)
