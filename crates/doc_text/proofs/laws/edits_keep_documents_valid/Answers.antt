use Rattle.doc_text.proofs.Kept.{edited_shaped}
use Rattle.doc_text.proofs.laws.edits_keep_documents_valid.Goals as goal

pub returns : goal.returns
returns c = edited_shaped
