use Rattle.std.proofs.Common.{arith, ◌≡◌, ◌<◌, ◌++◌, take}
use Rattle.track_text.specs.Repeats.{times}
use Rattle.track_text.specs.Lines.{closed_by, open_after}
use Rattle.track_text.proofs.Listing.{time_closed, time_open, times_closed}
use Rattle.track_text.proofs.kept.lines_times.Goals as goal

pub loop-left-preserved : goal.loop-left-preserved
loop-left-preserved c =
    let es = c.args.entries.now in
    let some : 0 < c.loop-left.left = omega (arith, c.loop-left-test.true) in
    record {
      few = c.in_ok-lines.ensures.few;
      closed =
          time_closed 10001 c.loop-left.left c.loop-left.lines.closed c.in_ok-lines.lines.closed (take 10001 (c.args.lines.closed ++ closed_by c.args.lines.last (times c.args.count es)))
          c.loop-left.lines.last c.in_ok-lines.lines.last es some c.in_ok-lines.ensures.closed c.in_ok-lines.ensures.last c.loop-left.invariant.closed;
      last = time_open c.loop-left.left c.loop-left.lines.last c.in_ok-lines.lines.last (open_after c.args.lines.last (times c.args.count es)) es some c.in_ok-lines.ensures.last c.loop-left.invariant.last;
    }

pub returns-clause-closed : goal.returns-clause-closed
returns-clause-closed c =
    let es = c.args.entries.now in
    let none : c.loop-left.left ≡ 0 = omega (arith, c.loop-left-test.false) in
    times_closed 10001 c.loop-left.left c.loop-left.lines.closed (take 10001 (c.args.lines.closed ++ closed_by c.args.lines.last (times c.args.count es))) c.loop-left.lines.last es none c.loop-left.invariant.few c.loop-left.invariant.closed
