use Rattle.block_sizes.proofs.SharedTracks.{columns_zero, shared_tracks}
use Rattle.block_sizes.proofs.wide.columns_reach.Goals as goal

pub returns-clause-shared : goal.returns-clause-shared
returns-clause-shared c = λ outer width. shared_tracks c.args.tree.now.tree c.args.id outer width c.requires c.root.ensures.sound.numbered

pub returns-clause-zero : goal.returns-clause-zero
returns-clause-zero c = λ outer width. columns_zero c.args.tree.now.tree c.args.id outer width
