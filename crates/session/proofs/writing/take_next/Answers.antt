use Rattle.std.proofs.Common.{sym, ◌∙◌}
use Rattle.session.specs.Standing.{history_of}
use Rattle.session.proofs.LastText.{led_skipped, led_refused, led_by}
use Rattle.session.proofs.writing.take_next.Goals as goal

pub returns-then-is_skipped : goal.returns-then-is_skipped
returns-then-is_skipped c = λ given ended p.
    led_skipped given (history_of c.args.engine.now) c.args.refused c.args.line.now ended p (sym c.is_skipped.ensures ∙ c.if-is_skipped.true)

pub returns-then-refused : goal.returns-then-refused
returns-then-refused c = λ given ended p.
    led_refused given (history_of c.args.engine.now) c.args.refused c.args.line.now ended p (history_of c.take_line.new.engine) c.in_ok-bad.bad
    (sym c.is_skipped.ensures ∙ c.if-is_skipped.false) c.in_ok-bad.ensures c.if-refused.true

pub returns-else-refused : goal.returns-else-refused
returns-else-refused c = λ given ended p.
    led_by given (history_of c.args.engine.now) c.args.refused c.args.line.now ended p (history_of c.take_line.new.engine) c.in_ok-bad.bad
    (sym c.is_skipped.ensures ∙ c.if-is_skipped.false) c.in_ok-bad.ensures c.if-refused.false
