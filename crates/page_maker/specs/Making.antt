-- The document that is generated from a seed and a number of nodes (own rule).
use Rattle.std.specs.Prelude.{ℕ, zero, suc, ◌+◌, List, [], ◌∷◌, length, get_or}
use Rattle.doc_text.specs.declared.document.Doc.{Doc}
use Rattle.doc_text.specs.Documents.{plain_of}
use Rattle.doc_text.specs.Label.{Label}
use Rattle.page_maker.specs.Choices.{chosen}
use Rattle.page_maker.specs.Nodes.{px, node_label}
use Rattle.page_maker.specs.Growing.{child_count, grown}

-- the states with which the draws for so many nodes begin, from node i on
abbrev pub states_from : ℕ → ℕ → ℕ → ℕ → List ℕ
states_from zero nodes i x = []
states_from (suc count) nodes i x = x ∷ states_from count nodes (i + 1) (chosen nodes i x).1

-- the state after all these draws
abbrev pub state_after : ℕ → ℕ → ℕ → ℕ → ℕ
state_after zero nodes i x = x
state_after (suc count) nodes i x = state_after count nodes (i + 1) (chosen nodes i x).1

-- the nodes are drawn in the order of their numbers
unfoldable pub states : ℕ → ℕ → List ℕ
states seed nodes = states_from nodes nodes 0 seed

-- the state after the draws for all nodes
unfoldable pub last_state : ℕ → ℕ → ℕ
last_state seed nodes = state_after nodes nodes 0 seed

-- what node i is, where the draws for the nodes begin with these states
unfoldable pub label_at : List ℕ → ℕ → Label
label_at begins i = node_label i (chosen (length begins) i (get_or begins i 0)).0

-- 37,449 nodes stand on six levels
unfoldable pub document_with : List ℕ → Doc
document_with begins = record {
  version = 1;
  width = px 1000;
  height = px 600;
  root = plain_of (label_at begins 0) (grown (label_at begins) (length begins) 5 1 (child_count (length begins) 0));
}

-- the document of so many nodes, from 1 to 20,000
unfoldable pub made_document : ℕ → ℕ → Doc
made_document seed nodes = document_with (states seed nodes)
