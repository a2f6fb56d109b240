use Rattle.std.proofs.Common.{ap, arith}
use Rattle.plain_tree.specs.Trees.{size_of}
use Rattle.doc_text.specs.declared.document.Children.TheDeep.{deep-Plain}
use Rattle.doc_text.proofs.Nodes.{child_falls}
use Rattle.doc_text.proofs.document.+copy_node.Goals as goal

pub copy_node-requires : goal.copy_node-requires
copy_node-requires t c = (
  omega (
    arith,
    child_falls c.nodes-child-items.result.now c.loop-child.child-index c.child-item.result c.loop-child-test.true,
    ap size_of c.nodes-child-items.ensures,
    ap deep-Plain c.child-item.is,
    c.decreases,
  ),
  tt,
)
