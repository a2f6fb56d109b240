use Rattle.std.proofs.Common.{◌∙◌, sym}
use Rattle.inline_sizes.specs.Styled.{content_at, grid_at}
use Rattle.block_sizes.proofs.PlainSubgrids.{no_sides}
use Rattle.block_sizes.proofs.last_tracks.has_no_sides.Goals as goal

pub returns : goal.returns
returns g c = λ e. no_sides (grid_at g.row.AXIS c.args.style.now) (content_at g.row.AXIS c.args.style.now) (sym c.is_plain.ensures.value ∙ e)
