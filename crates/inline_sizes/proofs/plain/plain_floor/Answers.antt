use Rattle.inline_sizes.proofs.Plains.{scrolling_floor}
use Rattle.inline_sizes.proofs.plain.plain_floor.Goals as goal

pub returns-then-scrolls : goal.returns-then-scrolls
returns-then-scrolls c = scrolling_floor c.args.scrolls c.default.result c.args.content c.if-scrolls.true c.default.ensures
