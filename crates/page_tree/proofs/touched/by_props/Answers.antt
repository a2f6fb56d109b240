use Rattle.std.proofs.Common.{◌&&◌, subst}
use Rattle.std.specs.Str.{bytes_eq}
use Rattle.doc_text.specs.Growth.{holds}
use Rattle.doc_text.specs.Named as doc
use Rattle.doc_text.specs.Texts.{Word}
use Rattle.page_tree.specs.Marking.{AddsMarked}
use Rattle.page_tree.specs.Pages.{trees_in}
use Rattle.page_tree.specs.Reach.{is_parent}
use Rattle.page_tree.proofs.Marking.{three_added}
use Rattle.page_tree.proofs.touched.by_props.Goals as goal

pub returns-clause-numbers : goal.returns-clause-numbers
returns-clause-numbers c = record {
  each =
      three_added (λ (w : Word). bytes_eq w c.args.name.now) (λ (w : Word). c.args.felt && is_parent (trees_in c.args.page.now) c.args.name.now w) (λ (w : Word). c.args.font && holds (doc.below_at c.args.name.now (trees_in c.args.page.now)) w) c.args.page.now.nodes.tree
      c.add_named.new.found c.add_felt_parent.new.found c.add_all_below.new.found
      (subst (λ l. AddsMarked (λ (w : Word). bytes_eq w c.args.name.now) c.args.page.now.nodes.tree l c.add_named.new.found) c.new-numbers.ensures c.in_ok-add_named.ensures) c.in_ok-add_felt_parent.ensures c.in_ok-add_all_below.ensures;
}
