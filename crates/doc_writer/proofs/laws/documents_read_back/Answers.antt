use Rattle.doc_writer.proofs.DocumentsBack.{document_back}
use Rattle.doc_writer.proofs.laws.documents_read_back.Goals as goal

pub returns : goal.returns
returns c = document_back
