use Rattle.std.proofs.lemmas.Result.{err_from_is_err_and}
use Rattle.std.proofs.Common.{ap, arith, ◌∙◌, ◌+◌, ℕ, List, [], ◌∷◌, drop}
use Rattle.plain_tree.specs.Trees.{size_of, height_of}
use Rattle.doc_text.specs.declared.document.Plain.{Plain}
use Rattle.doc_text.specs.View.{trees_of}
use Rattle.doc_writer.specs.Documents.{lines_of, with_lines}
use Rattle.doc_text.specs.declared.document.Children.TheDeep.{deep-Plain}
use Rattle.doc_text.proofs.Nodes.{child_falls}
use Rattle.doc_writer.proofs.Short.{child_written, child_stopped, handed_on, child_lower}
use Rattle.doc_writer.proofs.write.+push_nodes.Goals as goal

pub push_nodes-requires : goal.push_nodes-requires
push_nodes-requires t c = (
  omega (
    arith,
    child_falls c.nodes-child-items.result.now c.loop-child.child-index c.child-item.result c.loop-child-test.true,
    ap size_of c.nodes-child-items.ensures,
    ap deep-Plain c.child-item.is,
    c.decreases,
  ),
  omega (arith, child_lower c.nodes-child-items.result.now c.loop-child.child-index c.child-item.result c.loop-child-test.true c.child-item.is, ap height_of c.nodes-child-items.ensures, c.requires),
)

pub loop-child-preserved : goal.loop-child-preserved
loop-child-preserved t c =
    child_written c.loop-child.text.items c.push_nodes.new.text.items (c.args.level + 1) c.nodes-child-items.result.now c.loop-child.child-index c.child-item.result c.loop-child-test.true c.child-item.is c.in_ok-push_nodes.ensures.ok
    ∙ c.loop-child.invariant

pub returns-in_err-push_nodes-clause-err : goal.returns-in_err-push_nodes-clause-err
returns-in_err-push_nodes-clause-err t c =
    let level : ℕ = c.args.level + 1 in
    let nodes : List Plain = c.nodes-child-items.result.now in
    let error = err_from_is_err_and c.from_residual-in_err-push_nodes.result c.from_residual-in_err-push_nodes.ensures.1 in
    handed_on c.from_residual-in_err-push_nodes.result error.0 c.in_err-push_nodes.field-0.0 (with_lines c.loop-child.text.items (lines_of level (trees_of (drop c.loop-child.child-index nodes)))) (with_lines c.args.text.now.items (lines_of c.args.level (trees_of (c.args.node.now ∷ []))))
    error.1 error.2 c.loop-child.invariant
    (child_stopped c.loop-child.text.items level nodes c.loop-child.child-index c.child-item.result c.in_err-push_nodes.field-0.0 c.loop-child-test.true c.child-item.is c.in_err-push_nodes.ensures.err)
