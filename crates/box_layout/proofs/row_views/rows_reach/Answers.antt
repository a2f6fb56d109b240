use Rattle.box_layout.proofs.SharedRows.{rows_zero, shared_rows}
use Rattle.box_layout.proofs.row_views.rows_reach.Goals as goal

pub returns-clause-shared : goal.returns-clause-shared
returns-clause-shared c = λ outer width. shared_rows c.args.tree.now.tree c.args.id outer width c.requires c.root.ensures.sound.numbered

pub returns-clause-zero : goal.returns-clause-zero
returns-clause-zero c = λ outer width. rows_zero c.args.tree.now.tree c.args.id outer width
