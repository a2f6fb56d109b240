use Rattle.std.proofs.Common.{rules, arith}
use Rattle.session.proofs.Applying.{failing, back_further, some_back, takes_start, stops_back}
use Rattle.session.proofs.tracing.take_all_back.Goals as goal

pub loop-taken-init : goal.loop-taken-init
loop-taken-init c = record { well = c.requires.well; moved = takes_start c.args.page.now c.args.journal.now c.pages_stand.ensures; few = omega arith }

pub take_back-requires-clause-some : goal.take_back-requires-clause-some
take_back-requires-clause-some c = some_back c.loop-taken._taken c.args.count c.args.page.now c.loop-taken.page c.args.journal.now c.loop-taken.journal c.loop-taken.invariant.moved c.loop-taken-test.true c.requires.many

pub take_back-requires-clause-well : goal.take_back-requires-clause-well
take_back-requires-clause-well c = c.loop-taken.invariant.well

pub loop-taken-preserved : goal.loop-taken-preserved
loop-taken-preserved c =
    record {
      well = c.take_back.ensures.well;
      moved =
          back_further c.loop-taken._taken c.args.count c.args.page.now c.loop-taken.page c.take_back.new.page c.loop-taken.last c.args.journal.now c.loop-taken.journal c.take_back.new.journal c.loop-taken.invariant.well c.loop-taken-test.true c.requires.many
          c.loop-taken.invariant.moved c.in_ok-take_back.ensures.ok;
      few = omega (arith, c.loop-taken-test.true);
    }

pub returns-in_err-take_back-clause-err : goal.returns-in_err-take_back-clause-err
returns-in_err-take_back-clause-err c =
    failing c.from_residual.result (stops_back c.loop-taken._taken c.args.count c.args.page.now c.loop-taken.page c.take_back.new.page c.args.journal.now c.loop-taken.journal c.take_back.new.journal c.loop-taken-test.true c.loop-taken.invariant.moved c.in_err-take_back.ensures.err)
