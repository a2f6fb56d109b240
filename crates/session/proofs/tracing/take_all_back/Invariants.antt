use Rattle.std.proofs.Common.{◌≤◌}
use Rattle.session.specs.Engine.{TakesPageBack}
use Rattle.session.specs.Standing.{IsWell, steps_of}
use Rattle.session.proofs.tracing.take_all_back.Given as goal

abbrev pub invariant-loop-taken : goal.invariant-loop-taken
invariant-loop-taken l =
    record {
      well : IsWell l.page l.last (steps_of l.journal);
      moved : TakesPageBack l.fn.page l.page l.fn.journal l.journal l._taken;
      few : l._taken ≤ l.fn.count;
    }
