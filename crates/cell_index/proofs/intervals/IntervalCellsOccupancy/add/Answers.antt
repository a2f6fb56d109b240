use Rattle.std.proofs.Common.{arith, rules, w32, SFits}
use Rattle.std.proofs.lemmas.Int.{ints}
use Rattle.cell_index.proofs.Found.{below_more, right_more, told_now}
use Rattle.cell_index.proofs.intervals.IntervalCellsOccupancy.add.Goals as goal

pub invariant_of-self-in-Ok : goal.invariant_of-self-in-Ok
invariant_of-self-in-Ok c =
    let wide : SFits w32 c.args.area.columns.end = search rules in
    let tall : SFits w32 c.args.area.rows.end = search rules in
    record {
      told = λ e. told_now c.self.inside.areas.items c.push.new.self.items c.self.inside.blocks c.add.new.self c.args.area c.in_ok-push.ensures.items (c.self.invariant.told c.if-not-self.false) c.in-Ok.ensures;
      right = right_more c.self.inside.areas.items c.push.new.self.items c.args.area c.in_ok-push.ensures.items (omega (arith, ints, wide)) c.self.invariant.right;
      below = below_more c.self.inside.areas.items c.push.new.self.items c.args.area c.in_ok-push.ensures.items (omega (arith, ints, tall)) c.self.invariant.below;
    }
