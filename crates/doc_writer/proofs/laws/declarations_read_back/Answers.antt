use Rattle.doc_writer.proofs.DeclarationsBack.{declared_back}
use Rattle.doc_writer.proofs.laws.declarations_read_back.Goals as goal

pub returns : goal.returns
returns c = declared_back
