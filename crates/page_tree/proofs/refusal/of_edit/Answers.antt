use Rattle.std.proofs.Common.{sym, ap, ◌∙◌}
use Rattle.doc_text.specs.declared.edit.Edit.{Edit}
use Rattle.doc_text.specs.Edits.{first_refusal, refusals}
use Rattle.page_tree.specs.Pages.{document_of}
use Rattle.page_tree.proofs.Refusals.{set_told, unset_told}
use Rattle.page_tree.proofs.refusal.of_edit.Goals as goal

pub returns-in-Set : goal.returns-in-Set
returns-in-Set c =
    set_told c.args.page.now c.stands.ensures.rooted c.in-Set.named c.in-Set._settings c.of_named.result c.of_named.ensures
    ∙ ap (λ (e : Edit). first_refusal (refusals (document_of c.args.page.now) e)) (sym c.in-Set.is)

pub returns-in-Unset : goal.returns-in-Unset
returns-in-Unset c =
    unset_told c.args.page.now c.stands.ensures.rooted c.in-Unset.named c.in-Unset._props c.of_named-in-Unset.result c.of_named-in-Unset.ensures
    ∙ ap (λ (e : Edit). first_refusal (refusals (document_of c.args.page.now) e)) (sym c.in-Unset.is)

pub returns-in-Insert : goal.returns-in-Insert
returns-in-Insert c = c.of_insert.ensures c.in-Insert._node ∙ ap (λ (e : Edit). first_refusal (refusals (document_of c.args.page.now) e)) (sym c.in-Insert.is)

pub returns-in-Content : goal.returns-in-Content
returns-in-Content c = c.of_content.ensures c.in-Content._kind ∙ ap (λ (e : Edit). first_refusal (refusals (document_of c.args.page.now) e)) (sym c.in-Content.is)
