use Rattle.doc_writer.proofs.DocumentsBack.{written_again}
use Rattle.doc_writer.proofs.laws.canonical_text_is_fixed.Goals as goal

pub returns : goal.returns
returns c = written_again
