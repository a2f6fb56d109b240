use Rattle.std.proofs.Common.{rules, drop}
use Rattle.lunit.specs.Printed.{fraction_text}
use Rattle.session.proofs.BoxTexts.{row_put}
use Rattle.session.proofs.box_text.put_fraction.Goals as goal

pub returns-clause-text : goal.returns-clause-text
returns-clause-text c =
    row_put c.put_text.new.room (drop c.args.end c.args.room.now) c.fraction-row.result.now (fraction_text c.args.parts) c.put_text.result c.args.end
    c.put_text.ensures.start (search rules) c.fraction-row.ensures.short c.fraction-row.ensures.text c.put_text.ensures.text
