use Rattle.std.proofs.Common.{subst}
use Rattle.std.specs.Str.{bytes_eq}
use Rattle.doc_text.specs.Named as doc
use Rattle.doc_text.specs.Texts.{Word}
use Rattle.page_tree.specs.Marking.{AddsMarked}
use Rattle.page_tree.specs.Pages.{trees_in}
use Rattle.page_tree.specs.Reach.{font_in, gets_other_font, is_parent, root_font_in}
use Rattle.page_tree.proofs.Marking.{four_added}
use Rattle.page_tree.proofs.touched.by_shift.Goals as goal

pub returns-clause-numbers : goal.returns-clause-numbers
returns-clause-numbers c = record {
  each = four_added (λ (w : Word). bytes_eq w c.args.name.now) (λ (w : Word). bytes_eq w c.args.parent.now) (λ (w : Word). is_parent (trees_in c.args.page.now) c.args.name.now w)
      (λ (w : Word). gets_other_font (font_in c.args.name.now (trees_in c.args.page.now)) (font_in c.args.parent.now (trees_in c.args.page.now)) (root_font_in (trees_in c.args.page.now)) (doc.tree_at c.args.name.now (trees_in c.args.page.now)) w)
      c.args.page.now.nodes.tree c.add_named.new.found c.add_named-2.new.found c.add_parent.new.found c.add_other_fonts.new.found
      (subst (λ l. AddsMarked (λ (w : Word). bytes_eq w c.args.name.now) c.args.page.now.nodes.tree l c.add_named.new.found) c.new-numbers.ensures c.in_ok-add_named.ensures) c.in_ok-add_named-2.ensures c.in_ok-add_parent.ensures c.in_ok-add_other_fonts.ensures;
}
