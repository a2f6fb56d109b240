-- The boxes of a document, under a word that does not unfold by itself: the definition is long.
use Rattle.std.specs.Prelude.{List}
use Rattle.doc_text.specs.declared.document.Doc.{Doc}
use Rattle.page_tree.specs.Boxes as defined
use Rattle.session.specs.Printing.{Box}

unfoldable pub boxes_of : Doc → List Box
boxes_of doc = defined.boxes_of doc
