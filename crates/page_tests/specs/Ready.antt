-- Pages that tests ask.
use Rattle.doc_text.specs.Valid.{IsValid}
use Rattle.page_tree.specs.Pages.{Held, document_of}
use Rattle.placing.specs.Kept.{IsRight}

-- the document is valid, and every answer that a node keeps is right
pub record IsReady (page : Held) : Type 0 where
  pub valid : IsValid (document_of page)
  pub right : IsRight page.nodes.tree
