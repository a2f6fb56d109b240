use Rattle.std.proofs.Common.{rules, ◌≡◌, ◌-◌, ◌++◌, take}
use Rattle.runs.specs.Times.{times as runs_times}
use Rattle.track_text.specs.Lines.{closed_by, open_after}
use Rattle.track_text.proofs.Listing.{few_are, repeated_closed}
use Rattle.track_text.proofs.kept.lines_repeated.Goals as goal

pub returns-clause-few : goal.returns-clause-few
returns-clause-few c = few_are 10001 c.in_ok-with_times.field-0 (c.in_ok-closed.field-0.closed ++ runs_times (c.args.count - 1) c.in_ok-more.more) c.in_ok-with_times.ensures

pub returns-clause-closed : goal.returns-clause-closed
returns-clause-closed c =
    let o : c.in_ok-closed.field-0.last ≡ open_after c.args.lines.last c.args.entries.now = c.in_ok-closed.ensures.last in
    let f : c.in_ok-closed.field-0.closed ≡ take 10001 (c.args.lines.closed ++ closed_by c.args.lines.last c.args.entries.now) = c.in_ok-closed.ensures.closed in
    let k : c.in_ok-more.more ≡ closed_by c.in_ok-closed.field-0.last c.args.entries.now = search rules in
    repeated_closed 10001 c.args.count c.args.lines.closed c.in_ok-closed.field-0.closed c.in_ok-with_times.field-0 c.in_ok-more.more c.args.lines.last c.in_ok-closed.field-0.last c.args.entries.now c.requires.some c.requires.track o f k c.in_ok-with_times.ensures
