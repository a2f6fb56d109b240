-- What a call for an inline size, or for lent columns, is made with, and what it answers.
use Rattle.std.specs.Prelude.{◌≡◌, ◌∷◌, [], None, IsSome}
use Rattle.layout_cache.specs.Kept.{answer_to}
use Rattle.node_arena.specs.declared.number.NodeId.{NodeId}
use Rattle.placing.specs.Walks.{State, kept_in, kept_with}
use Rattle.placing.specs.declared.node.Answer.{Answer}
use Rattle.tree_rules.specs.declared.query.Query.{Query}

-- where an answer was kept, nothing changes at all
abbrev pub Found : NodeId → Query → State → State → Type 0
Found n q old new = IsSome (answer_to q (kept_in old n)) → new ≡ old

-- else the answer is the newest one that the node keeps
abbrev pub Keeps : NodeId → Query → State → State → Answer → Type 0
Keeps n q old new a = answer_to q (kept_in old n) ≡ None → kept_in new n ≡ kept_with (kept_in old n) ((q, a) ∷ [])
