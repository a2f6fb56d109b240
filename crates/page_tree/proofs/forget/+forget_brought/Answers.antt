use Rattle.std.proofs.Common.{rules, ◌≡◌, false, get_or, ap, subst, ◌∙◌, arith}
use Rattle.plain_tree.specs.Trees.{Trees, leafless, tree}
use Rattle.doc_text.specs.declared.document.Plain.{Plain}
use Rattle.doc_text.specs.Label.{Label}
use Rattle.doc_text.specs.View.{label_of}
use Rattle.edit_journal.specs.Changes.{tree_of_node}
use Rattle.node_arena.specs.Numbers.{value_at}
use Rattle.page_tree.specs.Forgotten.{has_name_in}
use Rattle.page_tree.proofs.Forgotten.{all_forgotten, first_forgotten, next_forgotten}
use Rattle.page_tree.proofs.forget.+forget_brought.Goals as goal

pub loop-index-init : goal.loop-index-init
loop-index-init t c =
    λ f here.
    let now = c.forget_name.ensures f here in
    (now.0, first_forgotten c.args.node.now (value_at c.args.page.now.nodes.tree f.id) now.1)

pub loop-index-preserved : goal.loop-index-preserved
loop-index-preserved t c =
    λ f here.
    let nodes = c.nodes-children.result.now in
    let child = c.index-children-index.result in
    let at : get_or nodes c.loop-index.index child ≡ child = search rules in
    let v = value_at c.args.page.now.nodes.tree f.id in
    let now = c.forget_brought.ensures f here in
    let before = c.loop-index.invariant f now.0 in
    (before.0, next_forgotten (label_of c.args.node.now) nodes c.loop-index.index child v (omega (arith, c.loop-index-test.true)) before.1 (ap (λ (n : Plain). has_name_in (tree_of_node n) v) at ∙ now.1))

pub returns : goal.returns
returns t c =
    λ f here.
    let nodes = c.nodes-children.result.now in
    let v = value_at c.args.page.now.nodes.tree f.id in
    let all = c.loop-index.invariant f here in (
      all.0,
      subst (λ (u : Trees Label). has_name_in (tree (label_of c.args.node.now) u leafless) v ≡ false) c.nodes-children.ensures
          (all_forgotten (label_of c.args.node.now) nodes c.loop-index.index v (omega (arith, c.loop-index-test.false)) all.1),
    )
