use Rattle.std.proofs.Common.{rules, arith}
use Rattle.session.proofs.Applying.{failing, again_further, some_again, makes_start, stops_again}
use Rattle.session.proofs.tracing.make_all_again.Goals as goal

pub loop-made-init : goal.loop-made-init
loop-made-init c = record { well = c.requires.well; moved = makes_start c.args.page.now c.args.journal.now c.pages_stand.ensures; few = omega arith }

pub make_again-requires-clause-some : goal.make_again-requires-clause-some
make_again-requires-clause-some c = some_again c.loop-made._made c.args.count c.args.page.now c.loop-made.page c.args.journal.now c.loop-made.journal c.loop-made.invariant.moved c.loop-made-test.true c.requires.many

pub make_again-requires-clause-well : goal.make_again-requires-clause-well
make_again-requires-clause-well c = c.loop-made.invariant.well

pub loop-made-preserved : goal.loop-made-preserved
loop-made-preserved c =
    record {
      well = c.make_again.ensures.well;
      moved =
          again_further c.loop-made._made c.args.count c.args.page.now c.loop-made.page c.make_again.new.page c.loop-made.last c.args.journal.now c.loop-made.journal c.make_again.new.journal c.loop-made.invariant.well c.loop-made-test.true c.requires.many c.loop-made.invariant.moved
          c.in_ok-make_again.ensures.ok;
      few = omega (arith, c.loop-made-test.true);
    }

pub returns-in_err-make_again-clause-err : goal.returns-in_err-make_again-clause-err
returns-in_err-make_again-clause-err c =
    failing c.from_residual.result (stops_again c.loop-made._made c.args.count c.args.page.now c.loop-made.page c.make_again.new.page c.args.journal.now c.loop-made.journal c.make_again.new.journal c.loop-made-test.true c.loop-made.invariant.moved c.in_err-make_again.ensures.err)
