use Rattle.std.proofs.Common.{refl}
use Rattle.cell_index.proofs.Pairs.{joined_adds}
use Rattle.cell_index.proofs.blocks.Blocks.add.Goals as goal

pub returns-in-Some : goal.returns-in-Some
returns-in-Some c = joined_adds c.args.self.now (record c.args.self.now { run = c.in-Some.longer }) c.args.area refl refl c.in-Some.ensures
