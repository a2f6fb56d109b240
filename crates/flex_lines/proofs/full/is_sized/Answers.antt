use Rattle.std.proofs.Common.{◌∙◌, sym}
use Rattle.flex_lines.proofs.JustFull.{sized_is}
use Rattle.flex_lines.proofs.full.is_sized.Goals as goal

pub returns : goal.returns
returns c = λ e. sized_is c.args.item.now c.wide-size.result c.wide-base.result (c.wide-size.ensures.value ∙ c.hypothetical.ensures) c.wide-base.ensures.value c.wide-base.ensures.range (sym c.is_same.ensures ∙ e)
