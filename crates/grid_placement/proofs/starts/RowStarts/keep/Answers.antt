use Rattle.std.proofs.Common.{arith, refl}
use Rattle.std.proofs.lemmas.Int.{ints}
use Rattle.grid_placement.proofs.Ends.{keep_sparse, keep_dense, by_sparse, by_dense}
use Rattle.grid_placement.proofs.starts.RowStarts.keep.Goals as goal

pub returns-in_ok-insert-clause-kept : goal.returns-in_ok-insert-clause-kept
returns-in_ok-insert-clause-kept c = λ held mine h r. keep_sparse c.args.dense c.args.self.now _ held mine c.args.wish.column c.args.wish.row c.args.area c.in-Some.area _ _ c.in-Some.is c.if-dense.false (omega (arith, ints)) (omega (arith, ints)) c.in_ok-insert.ensures.updates h r

pub returns-in_ok-insert-clause-by : goal.returns-in_ok-insert-clause-by
returns-in_ok-insert-clause-by c = λ line h f. by_sparse c.args.self.now _ c.args.area c.in-Some.area _ _ line c.in-Some.is (omega (arith, ints)) refl c.in_ok-insert.ensures.updates h f

pub returns-in_ok-reach_line-clause-kept : goal.returns-in_ok-reach_line-clause-kept
returns-in_ok-reach_line-clause-kept c = λ held mine h r. keep_dense c.args.dense c.args.self.now _ held mine c.args.wish.column c.args.wish.row c.args.area c.in-Some.area _ _ c.in-Some.is c.if-dense.true c.free_length-tracks.ensures (omega (arith, ints)) c.in_ok-reach_line.ensures h r

pub returns-in_ok-reach_line-clause-by : goal.returns-in_ok-reach_line-clause-by
returns-in_ok-reach_line-clause-by c = λ line h f. by_dense c.args.self.now _ c.args.area c.in-Some.area _ _ line c.in-Some.is (omega (arith, ints)) refl c.in_ok-reach_line.ensures h f
