use Rattle.std.proofs.Common.{◌∙◌, ap, length, sym, subst}
use Rattle.flex_lines.specs.Lines.{AreRanges}
use Rattle.placing.specs.Nodes.{bare}
use Rattle.placing.specs.declared.lined.ColumnParts.{ColumnParts}
use Rattle.block_sizes.specs.Settling.{IsColumn}
use Rattle.box_layout.specs.FlexFrames.{column_lines_seen, settled_by}
use Rattle.box_layout.proofs.flexed.frames_of_column.Goals as goal

pub frames_in_column-requires-clause-column : goal.frames_in_column-requires-clause-column
frames_in_column-requires-clause-column c = subst (IsColumn (bare c.args.tree.now.tree) c.args.id c.args.width) (sym c.parts.ensures) c.requires.column

pub frames_in_column-requires-clause-lines : goal.frames_in_column-requires-clause-lines
frames_in_column-requires-clause-lines c =
    c.requires.lines
    ∙ ap (λ (p : ColumnParts). column_lines_seen (bare c.args.tree.now.tree) c.args.id c.args.height (settled_by (bare c.args.tree.now.tree) p.members p.boxes)) (sym c.parts.ensures)

pub frames_in_column-requires-clause-ranges : goal.frames_in_column-requires-clause-ranges
frames_in_column-requires-clause-ranges c = subst (λ (p : ColumnParts). AreRanges (length p.members) c.args.lines.ranges) (sym c.parts.ensures) c.requires.ranges
