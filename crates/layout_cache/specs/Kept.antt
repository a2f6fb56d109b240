-- The answer that a list of kept pairs has to a question.
use Rattle.std.specs.Prelude.{List, [], ◌∷◌, Option, Some, None, if◌then◌else◌}
use Rattle.tree_rules.specs.declared.query.Query.{Query}
use Rattle.tree_rules.specs.Queries.{same_query}

abbrev pub answer_to : {A : Type 0} → Query → List (Query × A) → Option A
answer_to q [] = None
answer_to q (e ∷ rest) = if same_query e.0 q then Some e.1 else answer_to q rest
