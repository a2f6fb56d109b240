use Rattle.std.proofs.Common.{sym, subst}
use Rattle.placing.specs.Nodes.{bare}
use Rattle.block_sizes.specs.Settling.{IsRow}
use Rattle.box_layout.proofs.flexed.frames_of_row.Goals as goal

pub frames_in_row-requires-clause-row : goal.frames_in_row-requires-clause-row
frames_in_row-requires-clause-row c = subst (IsRow (bare c.args.tree.now.tree) c.args.id c.args.width) (sym c.parts.ensures) c.requires.row
