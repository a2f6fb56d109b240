use Rattle.std.proofs.Common.{◌∙◌}
use Rattle.line_names.proofs.Lines.{named_next}
use Rattle.line_names.proofs.naming.add_names.Goals as goal

pub loop-name-preserved : goal.loop-name-preserved
loop-name-preserved c = c.in_ok-add_name.ensures ∙ named_next c.args.lines.now c.loop-name.lines c.args.line c.loop-name.name-index c.args.names.now c.name-item.result c.requires c.loop-name-test.true c.name-item.is c.loop-name.invariant
