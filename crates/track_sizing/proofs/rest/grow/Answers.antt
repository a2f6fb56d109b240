use Rattle.std.proofs.Common.{subst, sym}
use Rattle.track_sizing.specs.Here.{HaveShares}
use Rattle.track_sizing.proofs.Grown.{grown_rows, shared_some}
use Rattle.track_sizing.proofs.rest.grow.Goals as goal

pub grow_by_shares-requires-clause-some : goal.grow_by_shares-requires-clause-some
grow_by_shares-requires-clause-some c = subst HaveShares (sym c.hand_out-left.ensures.rows) (shared_some c.args.space c.set_rooms.new.takers)

pub returns : goal.returns
returns c = grown_rows c.args.rooms.now c.args.space c.args.rows.now c.grow_by_shares.new.rows c.set_rooms.new.takers c.hand_out-left.new.rows c.set_rooms.ensures c.hand_out-left.ensures.rows c.grow_by_shares.ensures
