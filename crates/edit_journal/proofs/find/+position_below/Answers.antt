use Rattle.std.proofs.Common.{ap, arith}
use Rattle.plain_tree.specs.Trees.{size_of}
use Rattle.doc_text.specs.declared.document.Plain.{Plain}
use Rattle.edit_journal.proofs.Found.{child_smaller}
use Rattle.edit_journal.proofs.find.+position_below.Goals as goal

pub position_below-requires : goal.position_below-requires
position_below-requires t c = (
  omega (
    arith,
    child_smaller c.nodes-children.result.now c.loop-child.child-index c.child-item.result c.loop-child-test.true,
    ap size_of c.nodes-children.ensures,
    ap (λ (n : Plain). size_of n.children) c.child-item.is,
    c.decreases,
  ),
  tt,
)
