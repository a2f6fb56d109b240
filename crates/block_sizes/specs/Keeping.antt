-- What a node keeps after it was asked for its block size.
use Rattle.std.specs.Prelude.{◌≡◌, ◌∷◌, [], ℤ, List, None}
use Rattle.layout_cache.specs.Kept.{answer_to}
use Rattle.node_arena.specs.declared.number.NodeId.{NodeId}
use Rattle.placing.specs.Kept.{plain_answer}
use Rattle.placing.specs.Walks.{State, kept_in, kept_with}
use Rattle.placing.specs.declared.node.Answer.{Answer}
use Rattle.tree_rules.specs.Queries.{block_size}
use Rattle.tree_rules.specs.declared.query.Query.{Query}

-- one answer more than before, to this question: this size
abbrev pub GrowsBy : List (Query × Answer) → Query → ℤ → List (Query × Answer) → Type 0
GrowsBy old q size new = (a : Answer) × ((plain_answer a ≡ block_size size) × (new ≡ kept_with old ((q, a) ∷ [])))

-- where a node kept no answer to the question, it keeps one more now, this size
abbrev pub KeepsSize : NodeId → Query → State → State → ℤ → Type 0
KeepsSize n q old new size = answer_to q (kept_in old n) ≡ None → GrowsBy (kept_in old n) q size (kept_in new n)
