use Rattle.std.proofs.Common.{sym, ◌∙◌}
use Rattle.inline_sizes.specs.Styled.{content_at, grid_at}
use Rattle.inline_sizes.proofs.Plains.{plain_is}
use Rattle.inline_sizes.proofs.plain.is_plain.Goals as goal

pub returns-clause-plain : goal.returns-clause-plain
returns-clause-plain g c = λ h. plain_is (grid_at g.row.AXIS c.args.style.now) (content_at g.row.AXIS c.args.style.now) (sym c.has_no_marks.ensures ∙ h)
