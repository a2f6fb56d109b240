use Rattle.std.proofs.Common.{ap, ◌∙◌, pos, Some}
use Rattle.tree_rules.specs.Labels.{GridStyle}
use Rattle.tree_rules.specs.Repetitions.{gap_by}
use Rattle.box_layout.proofs.columns.column_gap.Goals as goal

pub returns : goal.returns
returns c = c.gap_in.ensures ∙ ap (λ (g : GridStyle). gap_by (Some c.args.height) (pos 0) g.rows.gap) c.node_at.ensures.grid
