use Rattle.std.proofs.Common.{◌∙◌, sym}
use Rattle.flex_lines.proofs.JustFull.{same_is}
use Rattle.flex_lines.proofs.lengths.is_full.Goals as goal

pub returns-clause-main : goal.returns-clause-main
returns-clause-main c = λ e. sym c.line_length.ensures ∙ same_is c.line_length.result c.args.main (sym c.is_same.ensures ∙ c.if-not-is_same.false)
