use Rattle.std.proofs.Common.{arith, sym, subst}
use Rattle.placing.specs.Areas.{siblings_at}
use Rattle.placing.specs.Insides.{AreFilled}
use Rattle.placing.specs.Nodes.{bare}
use Rattle.placing.specs.Seats.{context_of}
use Rattle.placing.specs.Wishes.{wish_by}
use Rattle.placing.proofs.Siblings.{filled_push, wishes_step}
use Rattle.placing.proofs.wishes.wishes.Goals as goal

pub loop-number-preserved : goal.loop-number-preserved
loop-number-preserved c =
    record {
      value =
          wishes_step (wish_by (context_of c.args.context.now) (siblings_at (bare c.args.tree.now.tree) c.args.id)) c.args.numbers.now c.loop-number.number-index c.loop-number.wishes.items c.push.new.self.items c.wish_at.result (omega (arith, c.loop-number-test.true))
          c.loop-number.invariant.value c.in_ok-push.ensures.items c.wish_at.ensures.value;
      filled = subst AreFilled (sym c.in_ok-push.ensures.items) (filled_push c.loop-number.wishes.items c.wish_at.result c.loop-number.invariant.filled (c.wish_at.ensures.column c.requires.columns) (c.wish_at.ensures.row c.requires.rows));
    }
