use Rattle.inline_sizes.specs.Styled.{styled}
use Rattle.block_sizes.proofs.PlainChildren.{block_told}
use Rattle.block_sizes.proofs.children.plain_own_block.Goals as goal

pub returns-clause-value : goal.returns-clause-value
returns-clause-value c =
    block_told c.args.items (styled c.args.style.now) c.fills.result c.args.room c.plain_block.result c.args.content c.requires c.fills.ensures c.plain_block.ensures.value
