use Rattle.std.proofs.Common.{Some}
use Rattle.tree_rules.specs.Labels.{content_of}
use Rattle.tree_rules.specs.NodeSizes.{bounds_of}
use Rattle.inline_sizes.specs.Styled.{content_at, grid_at}
use Rattle.box_layout.proofs.PlainLimits.{no_limits}
use Rattle.box_layout.proofs.sitting.plain_limits.Goals as goal

pub returns : goal.returns
returns g c =
    no_limits (bounds_of (Some c.args.container) (content_of c.args.style.now).border_box (grid_at g.row.AXIS c.args.style.now) (content_at g.row.AXIS c.args.style.now))
    (c.requires.bounds (Some c.args.container) (content_of c.args.style.now).border_box) c.default.result c.longest.result c.default.ensures c.longest.ensures
