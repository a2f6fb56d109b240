use Rattle.std.proofs.Common.{◌≡◌, ◌≤◌, ◌+◌, ◌-◌, true}
use Rattle.session.specs.Standing.{course_of}
use Rattle.session.specs.Input.{limit, AsksSoFar}
use Rattle.session.specs.Serving.{IsAt}
use Rattle.session.specs.Replies.{RepliesLines}
use Rattle.session.specs.Spares.{SparesPage}
use Rattle.session.specs.Touched.{FollowsLines}
use Rattle.sparing.specs.Sparing.{Touches}
use Rattle.session.proofs.serve.serve.Given as goal

abbrev pub invariant-loop-line : goal.invariant-loop-line
invariant-loop-line g l =
    record {
      at : IsAt l.fn.stats (g.S.Source.left l.fn.source) (g.S.Source.left l.source) (g.K.Sink.written l.fn.sink) (g.K.Sink.written l.sink) (g.R.Ruler.log l.fn.ruler) (g.R.Ruler.log l.ruler) l.reader.lines l.reader.ended (course_of l.progress.engine) l.progress.number l.progress.refused;
      spared : (touches : Touches) → FollowsLines touches at.given → SparesPage touches (g.R.Ruler.log l.fn.ruler) (g.R.Ruler.log l.ruler) l.progress.engine.page;
      replied : RepliesLines l.fn.stats (g.K.Sink.written l.fn.sink) (g.K.Sink.written l.sink) (g.R.Ruler.log l.fn.ruler) (g.R.Ruler.log l.ruler) l.fn.passes l.passes at.given;
      laid : l.progress.engine.laid ≡ true;
      count : l.reader.lines.fed ≡ l.reader.count;
      within : l.reader.count ≤ limit;
      read : g.S.Source.faults l.fn.source ≤ g.S.Source.faults l.source;
      written : g.K.Sink.faults l.fn.sink ≤ g.K.Sink.faults l.sink;
      asks : AsksSoFar (g.S.Source.left l.fn.source) (g.S.Source.left l.source) (g.S.Source.asked l.fn.source) (g.S.Source.asked l.source) l.reader.count l.reader.ended;
    }

abbrev pub decreases-loop-line : goal.decreases-loop-line
decreases-loop-line g l = limit + 1 - l.reader.lines.number
