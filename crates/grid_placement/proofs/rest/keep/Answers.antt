use Rattle.std.proofs.Common.{arith, refl, to_z, of_z, w32}
use Rattle.std.proofs.lemmas.Int.{ints}
use Rattle.grid_placement.proofs.Known.{knows_position, knows_rows}
use Rattle.grid_placement.proofs.rest.keep.Goals as goal

pub returns-in_ok-reach_line-in-At : goal.returns-in_ok-reach_line-in-At
returns-in_ok-reach_line-in-At c =
    λ held cursor knows set room e. knows_rows c.args.field c.args.reached.now _ held cursor c.args.wish.column c.args.wish.row c.in-At.columns c.args.area _ _ c.in-At.is c.if-field.true c.free_length-rows.ensures (omega (arith, ints)) c.in_ok-reach_line-in-At.ensures refl knows e

pub returns-in_ok-reach_position-in-Free : goal.returns-in_ok-reach_position-in-Free
returns-in_ok-reach_position-in-Free c =
    λ held cursor knows set room e. knows_position c.args.field c.args.reached.now _ held cursor c.args.wish.column c.args.wish.row c.in-Free.columns _ c.args.area (record { column = to_z w32 (of_z w32 c.args.area.columns.start); row = to_z w32 (of_z w32 c.args.area.rows.start) }) c.in-Free.is
    c.if-field.true c.free_length-rows.ensures (omega (arith, ints)) (omega (arith, ints)) c.in_ok-reach_position-in-Free.ensures refl set room knows e
