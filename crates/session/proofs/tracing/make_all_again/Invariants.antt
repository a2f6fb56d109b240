use Rattle.std.proofs.Common.{◌≤◌}
use Rattle.session.specs.Engine.{MakesPageAgain}
use Rattle.session.specs.Standing.{IsWell, steps_of}
use Rattle.session.proofs.tracing.make_all_again.Given as goal

abbrev pub invariant-loop-made : goal.invariant-loop-made
invariant-loop-made l =
    record {
      well : IsWell l.page l.last (steps_of l.journal);
      moved : MakesPageAgain l.fn.page l.page l.fn.journal l.journal l._made;
      few : l._made ≤ l.fn.count;
    }
