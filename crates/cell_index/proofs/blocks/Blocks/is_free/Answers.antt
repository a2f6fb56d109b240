use Rattle.cell_index.proofs.Pairs.{bands_have}
use Rattle.cell_index.proofs.blocks.Blocks.is_free.Goals as goal

pub returns-clause-shut : goal.returns-clause-shut
returns-clause-shut c = λ shut. bands_have c.args.self.now c.args.area (c.is_free.ensures.shut shut)
