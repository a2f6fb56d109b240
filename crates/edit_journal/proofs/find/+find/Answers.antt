use Rattle.std.specs.Str.{bytes_eq}
use Rattle.std.proofs.Common.{rules, ◌≡◌, false, Some, None, get_or, ap, arith}
use Rattle.plain_tree.specs.Trees.{size_of}
use Rattle.doc_text.specs.declared.document.Plain.{Plain}
use Rattle.doc_text.specs.Named.{tree_at}
use Rattle.edit_journal.specs.Changes.{tree_of_node}
use Rattle.edit_journal.specs.Steps.{top_of}
use Rattle.edit_journal.proofs.Found.{child_smaller, found_child, found_later}
use Rattle.edit_journal.proofs.find.+find.Goals as goal

pub find-requires : goal.find-requires
find-requires t c = (
  omega (
    arith,
    child_smaller c.nodes-child-items.result.now c.loop-child.child-index c.child-item.result c.loop-child-test.true,
    ap size_of c.nodes-child-items.ensures,
    ap (λ (n : Plain). size_of n.children) c.child-item.is,
    c.decreases,
  ),
  tt,
)

pub returns-in-Some : goal.returns-in-Some
returns-in-Some t c =
    let nodes = c.nodes-child-items.result.now in
    let child = c.child-item.result in
    let at : get_or nodes c.loop-child.child-index child ≡ child = search rules in
    let told : top_of (tree_at c.args.name.now (tree_of_node child)) ≡ Some c.in-Some.found.now = search rules in
    let other : bytes_eq c.args.node.now.name c.args.name.now ≡ false = search rules in
    found_child c.args.name.now c.args.node.now nodes c.loop-child.child-index child c.in-Some.found.now other c.nodes-child-items.ensures c.loop-child.invariant c.loop-child-test.true at told

pub loop-child-preserved : goal.loop-child-preserved
loop-child-preserved t c =
    let nodes = c.nodes-child-items.result.now in
    let child = c.child-item.result in
    let at : get_or nodes c.loop-child.child-index child ≡ child = search rules in
    let told : top_of (tree_at c.args.name.now (tree_of_node child)) ≡ None = search rules in
    found_later c.args.name.now nodes c.loop-child.child-index child c.loop-child.invariant c.loop-child-test.true at told
