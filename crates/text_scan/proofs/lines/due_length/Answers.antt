use Rattle.std.proofs.Common.{ap, ◌∙◌, Some, None, arith}
use Rattle.text_scan.specs.Lines.{is_line_feed}
use Rattle.text_scan.proofs.Front.{position_cases}
use Rattle.text_scan.proofs.Due.{length_by_feed, length_at_end}
use Rattle.text_scan.proofs.lines.due_length.Goals as goal

pub returns-in-Some : goal.returns-in-Some
returns-in-Some c =
    let at = position_cases is_line_feed c.args.held.now (Some c.in-Some.at) c.in-Some.ensures in
    ap Some at.0 ∙ length_by_feed c.args.ended c.args.held.now (omega (arith, at.0, at.1))

pub returns-in-None : goal.returns-in-None
returns-in-None c =
    let at = position_cases is_line_feed c.args.held.now None c.in-None.ensures in
    c.last_length.ensures ∙ length_at_end c.args.ended c.args.held.now at
