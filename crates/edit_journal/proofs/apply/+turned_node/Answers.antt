use Rattle.std.proofs.Common.{rules, ◌≡◌, get_or, ap, sym, subst, arith}
use Rattle.plain_tree.specs.Trees.{size_of}
use Rattle.doc_text.specs.declared.document.Plain.{Plain}
use Rattle.doc_text.specs.Named.{IsDistinct}
use Rattle.edit_journal.specs.Changes.{tree_of_node}
use Rattle.edit_journal.specs.Turning.{becomes, trees_of_option}
use Rattle.edit_journal.proofs.Found.{child_smaller}
use Rattle.edit_journal.proofs.Applied.{distinct_child, one_turned}
use Rattle.edit_journal.proofs.apply.+turned_node.Goals as goal

pub turned_node-requires : goal.turned_node-requires
turned_node-requires t c =
    let nodes = c.nodes-child-items.result.now in
    let child = c.child-item.result in
    let at : get_or nodes c.loop-child.child-index child ≡ child = search rules in (
      omega (arith, child_smaller nodes c.loop-child.child-index child c.loop-child-test.true, ap size_of c.nodes-child-items.ensures, ap (λ (n : Plain). size_of n.children) at, c.decreases),
      subst (λ (n : Plain). IsDistinct (tree_of_node n)) at (distinct_child nodes c.loop-child.child-index child (subst IsDistinct (sym c.nodes-child-items.ensures) c.requires.1.1.1.0) c.loop-child-test.true),
    )

pub loop-child-preserved : goal.loop-child-preserved
loop-child-preserved t c =
    let nodes = c.nodes-child-items.result.now in
    let child = c.child-item.result in
    let at : get_or nodes c.loop-child.child-index child ≡ child = search rules in
    one_turned c.args.name.now (becomes c.args.change.now) c.loop-child.children c.push_made.new.children (trees_of_option c.in_ok-turned_node.field-0) nodes c.loop-child.child-index child
    (subst IsDistinct (sym c.nodes-child-items.ensures) c.requires.1.1.1.0) c.loop-child-test.true at c.in_ok-turned_node.ensures c.in_ok-push_made.ensures c.loop-child.invariant
