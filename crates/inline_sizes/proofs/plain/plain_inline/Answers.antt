use Rattle.inline_sizes.proofs.Plains.{stretched_inline}
use Rattle.inline_sizes.proofs.plain.plain_inline.Goals as goal

pub returns-then-stretched-clause-value : goal.returns-then-stretched-clause-value
returns-then-stretched-clause-value c = stretched_inline c.args.stretched c.args.room c.filling.result c.args.content c.if-stretched.true c.filling.ensures.value
