use Rattle.std.proofs.Common.{◌++◌}
use Rattle.runs.specs.Times.{times as runs_times}
use Rattle.track_text.proofs.Listing.{few_are}
use Rattle.track_text.proofs.kept.lines_once.Goals as goal

pub returns-clause-few : goal.returns-clause-few
returns-clause-few c = few_are 10001 c.in_ok-with_times.field-0 (c.args.lines.closed ++ runs_times 1 c.in_ok-more.more) c.in_ok-with_times.ensures
