use Rattle.std.proofs.Common.{[], refl, rules}
use Rattle.walker.specs.Walkers.{nodes}
use Rattle.block_sizes.proofs.KnownAlong.{none_known}
use Rattle.block_sizes.specs.Settling.{AreKnown}
use Rattle.block_sizes.proofs.walk.row_in.Goals as goal

pub row_told-requires : goal.row_told-requires
row_told-requires g c =
    let past : AreKnown (nodes c.args.walk.now) c.args.id c.args.width [] = none_known (nodes c.args.walk.now) c.args.id c.args.width [] refl in
    search rules
