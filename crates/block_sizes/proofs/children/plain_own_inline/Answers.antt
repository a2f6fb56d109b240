use Rattle.inline_sizes.specs.Styled.{styled}
use Rattle.block_sizes.proofs.PlainChildren.{inline_told}
use Rattle.block_sizes.proofs.children.plain_own_inline.Goals as goal

pub returns-clause-value : goal.returns-clause-value
returns-clause-value c =
    inline_told c.args.items (styled c.args.style.now) c.fills.result c.args.room c.plain_inline.result c.args.sizes c.requires c.fills.ensures c.plain_inline.ensures.value
