use Rattle.std.proofs.Common.{subst}
use Rattle.std.specs.Str.{bytes_eq}
use Rattle.doc_text.specs.Texts.{Word}
use Rattle.page_tree.specs.Marking.{AddsMarked}
use Rattle.page_tree.proofs.Marking.{first_added}
use Rattle.page_tree.proofs.touched.by_bringing.Goals as goal

pub returns-clause-numbers : goal.returns-clause-numbers
returns-clause-numbers c = record {
  each = first_added (λ (w : Word). bytes_eq w c.args.parent.now) c.args.page.now.nodes.tree c.add_named.new.found
      (subst (λ l. AddsMarked (λ (w : Word). bytes_eq w c.args.parent.now) c.args.page.now.nodes.tree l c.add_named.new.found) c.new-numbers.ensures c.in_ok-add_named.ensures);
}
