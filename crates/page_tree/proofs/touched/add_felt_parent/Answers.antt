use Rattle.std.proofs.Common.{refl}
use Rattle.doc_text.specs.Texts.{Word}
use Rattle.page_tree.specs.Pages.{trees_in}
use Rattle.page_tree.specs.Reach.{is_parent}
use Rattle.page_tree.proofs.Marking.{added_if, added_not, on_ok}
use Rattle.page_tree.proofs.touched.add_felt_parent.Goals as goal

pub returns-then-felt : goal.returns-then-felt
returns-then-felt c = on_ok c.add_parent.result _ _ (added_if c.args.felt (λ (w : Word). is_parent (trees_in c.args.page.now) c.args.name.now w) c.args.page.now.nodes.tree c.args.found.now _ c.if-felt.true) c.add_parent.ensures

pub returns-else-felt : goal.returns-else-felt
returns-else-felt c = added_not c.args.felt (λ (w : Word). is_parent (trees_in c.args.page.now) c.args.name.now w) c.args.page.now.nodes.tree c.args.found.now c.args.found.now c.if-felt.false refl
