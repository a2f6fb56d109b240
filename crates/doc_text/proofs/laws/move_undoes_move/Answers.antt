use Rattle.doc_text.proofs.Undone.{move_undone}
use Rattle.doc_text.proofs.laws.move_undoes_move.Goals as goal

pub returns : goal.returns
returns c = move_undone
