-- Which changes a page can make.
use Rattle.std.specs.Prelude.{⊤}
use Rattle.plain_tree.specs.Trees.{Trees}
use Rattle.doc_text.specs.declared.document.Doc.{Doc}
use Rattle.doc_text.specs.Edits.{tree_of}
use Rattle.doc_text.specs.Label.{Label}
use Rattle.doc_text.specs.Named.{IsDistinct}
use Rattle.edit_journal.specs.declared.change.Change.{Change}
use Rattle.edit_journal.specs.declared.change.Change.TheVariants as change
use Rattle.edit_journal.specs.declared.change.Step.{Step}
use Rattle.edit_journal.specs.Changes.{IsFound, tree_of_node}
use Rattle.page_tree.specs.Filled.{AreNew}

-- the names of these trees differ, and none of them is in the other trees
pub record AreNamedAnew (trees t : Trees Label) : Type 0 where
  pub distinct : IsDistinct trees
  pub new : AreNew trees t

abbrev pub BringsNew : Change → Doc → Type 0
BringsNew (change.Style name values) doc = ⊤
BringsNew (change.Take name) doc = ⊤
BringsNew (change.Bring parent index node) doc = AreNamedAnew (tree_of_node node) (tree_of doc)
BringsNew (change.Shift name parent index) doc = ⊤
BringsNew (change.Kind name kind) doc = ⊤
BringsNew (change.View width height) doc = ⊤

-- what a change names is found in a document, and the names that it brings are new
pub record Fits (c : Change) (doc : Doc) : Type 0 where
  pub found : IsFound c doc
  pub new : BringsNew c doc

-- a step fits a document, and its return the document that it makes
pub record FitsBothWays (step : Step) (doc made : Doc) : Type 0 where
  pub forth : Fits step.forward doc
  pub back : Fits step.back made
