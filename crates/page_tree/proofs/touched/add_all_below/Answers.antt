use Rattle.std.proofs.Common.{refl}
use Rattle.doc_text.specs.Growth.{holds}
use Rattle.doc_text.specs.Named as doc
use Rattle.doc_text.specs.Texts.{Word}
use Rattle.page_tree.specs.Pages.{trees_in}
use Rattle.page_tree.proofs.Marking.{added_if, added_not, on_ok}
use Rattle.page_tree.proofs.touched.add_all_below.Goals as goal

pub returns-then-font : goal.returns-then-font
returns-then-font c = on_ok c.add_below_named.result _ _ (added_if c.args.font (λ (w : Word). holds (doc.below_at c.args.name.now (trees_in c.args.page.now)) w) c.args.page.now.nodes.tree c.args.found.now _ c.if-font.true) c.add_below_named.ensures

pub returns-else-font : goal.returns-else-font
returns-else-font c = added_not c.args.font (λ (w : Word). holds (doc.below_at c.args.name.now (trees_in c.args.page.now)) w) c.args.page.now.nodes.tree c.args.found.now c.args.found.now c.if-font.false refl
