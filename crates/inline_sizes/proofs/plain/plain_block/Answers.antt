use Rattle.inline_sizes.proofs.Plains.{stretched_block}
use Rattle.inline_sizes.proofs.plain.plain_block.Goals as goal

pub returns-then-stretched-clause-value : goal.returns-then-stretched-clause-value
returns-then-stretched-clause-value c = stretched_block c.args.stretched c.args.room c.filling.result c.args.content c.if-stretched.true c.filling.ensures.value
