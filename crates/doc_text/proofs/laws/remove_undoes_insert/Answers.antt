use Rattle.doc_text.proofs.Undone.{insert_undone}
use Rattle.doc_text.proofs.laws.remove_undoes_insert.Goals as goal

pub returns : goal.returns
returns c = insert_undone
