use Rattle.std.proofs.Common.{sym, subst}
use Rattle.std.specs.Prelude.{IfOk}
use Rattle.plain_tree.specs.Trees.{Trees}
use Rattle.doc_text.specs.Label.{Label}
use Rattle.edit_journal.specs.declared.change.Change.{Change}
use Rattle.edit_journal.specs.Changes.{tree_of_node}
use Rattle.page_tree.specs.declared.touched.Touched.{Touched}
use Rattle.page_tree.specs.Filled.{AreNew}
use Rattle.page_tree.specs.Fits.{BringsNew}
use Rattle.page_tree.specs.Marking.{MarksChange}
use Rattle.page_tree.specs.Pages.{document_of, trees_in}
use Rattle.page_tree.proofs.Marking.{brought_marked, if_ok}
use Rattle.page_tree.proofs.Refusals.{whole}
use Rattle.page_tree.proofs.touched.marks_of.Goals as goal

pub returns-in-Bring-clause-numbers : goal.returns-in-Bring-clause-numbers
returns-in-Bring-clause-numbers c =
    let page = c.args.page.now in
    let t = page.nodes.tree in
    let new = tree_of_node c.in-Bring._node in
    let anew = subst (λ (change : Change). BringsNew change (document_of page)) c.in-Bring.is c.requires.new in
    let fresh = subst (λ (trees : Trees Label). AreNew new trees) (whole page c.stands.ensures.rooted) anew.new in
    subst (λ (change : Change). IfOk c.by_bringing.result (λ (m : Touched). MarksChange change (trees_in page) t m.numbers)) (sym c.in-Bring.is)
    (if_ok c.by_bringing.result _ _ (λ (m : Touched) h. record { each = brought_marked c.in-Bring.parent new t m.numbers fresh h.each }) c.by_bringing.ensures.numbers)
