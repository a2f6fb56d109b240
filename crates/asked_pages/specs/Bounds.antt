-- What a layout of a page asks, keeps and measures, in the words of its document (own rule).
use Rattle.std.specs.Prelude.{ℕ, ◌≤◌, Bool, List, length}
use Rattle.doc_text.specs.Edits.{tree_of}
use Rattle.placing.specs.Nodes.{bare}
use Rattle.placing.specs.Walks.{AreAsked, Entry, events_of}
use Rattle.asked_names.specs.Asked.{AreFew, IsListed}
use Rattle.page_tree.specs.Pages.{Held, document_of}
use Rattle.asked_pages.specs.AskedOf.{asked_of, containers_by}
use Rattle.asked_pages.specs.Leaves.{AreAllMeasured, IsEmptied}

-- The answers that a layout of a page kept. Each is to a question that laying out the document can ask. There are no more than such questions, where no node
-- has
-- more than sixteen of them; and at least as many as containers that kept nothing before, of those with names that pass a test. And the leaves with such names
-- that are
-- children of grids were measured at the content widths of their boxes.
pub record IsBounded (page : Held) (entries : List Entry) : Type 0 where
  pub listed : AreAsked (IsListed (bare page.nodes.tree) (asked_of (document_of page))) entries
  pub most : AreFew (asked_of (document_of page)) → length entries ≤ length (asked_of (document_of page))
  pub least : (test : List ℕ → Bool) → IsEmptied test page → containers_by test (tree_of (document_of page)) ≤ length entries
  pub leaves : (test : List ℕ → Bool) → IsEmptied test page → AreAllMeasured test (document_of page) (events_of (bare page.nodes.tree) entries)
