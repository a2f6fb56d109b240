use Rattle.std.proofs.Common.{◌≡◌, ◌&&◌, subst}
use Rattle.std.specs.Prelude.{◌||◌, IfOk}
use Rattle.std.specs.Str.{bytes_eq}
use Rattle.page_tree.specs.declared.touched.Touched.{Touched}
use Rattle.page_tree.specs.Marking.{AreMarked}
use Rattle.page_tree.specs.Pages.{trees_in}
use Rattle.page_tree.specs.Reach.{is_parent}
use Rattle.page_tree.proofs.Marking.{if_ok}
use Rattle.page_tree.proofs.touched.by_kind.Goals as goal

pub returns-clause-felt : goal.returns-clause-felt
returns-clause-felt c = subst (λ b. IfOk c.by_node.result (λ (m : Touched). m.felt ≡ b)) c.is_container-felt.ensures c.by_node.ensures.felt

pub returns-clause-numbers : goal.returns-clause-numbers
returns-clause-numbers c =
    if_ok c.by_node.result _ _
    (λ (m : Touched) h. record { each = subst (λ b. AreMarked (λ w. bytes_eq w c.args.name.now || (b && is_parent (trees_in c.args.page.now) c.args.name.now w)) c.args.page.now.nodes.tree m.numbers) c.is_container-felt.ensures h.each })
    c.by_node.ensures.numbers
