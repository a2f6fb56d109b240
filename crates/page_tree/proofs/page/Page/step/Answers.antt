use Rattle.std.proofs.Common.{sym, ap, subst, ◌∙◌}
use Rattle.edit_journal.specs.declared.change.Change.{Change}
use Rattle.edit_journal.specs.Changes.{turned}
use Rattle.edit_journal.proofs.Stepping.{forward_is}
use Rattle.page_tree.specs.Fits.{Fits}
use Rattle.page_tree.specs.Pages.{document_of}
use Rattle.page_tree.proofs.Fitting.{accepted_found, accepted_new}
use Rattle.page_tree.proofs.Refusals.{not_refused, refused}
use Rattle.page_tree.proofs.page.Page.step.Goals as goal

pub returns-in-Some : goal.returns-in-Some
returns-in-Some c = refused c.args.edit.now (document_of c.args.self.now) c.in-Some.fault (sym c.in-Some.ensures)

pub back_of-requires : goal.back_of-requires
back_of-requires c = record { change = c.requires.change; found = accepted_found c.args.edit.now (document_of c.args.self.now) c.requires.change (sym c.in_default.ensures) }

pub returns : goal.returns
returns c =
    let e = c.args.edit.now in
    let doc = document_of c.args.self.now in
    let none = sym c.in_default.ensures in
    record {
      is = λ i. record { forward = c.in_ok-forward.ensures i; back = c.in_ok-back.ensures i };
      made = not_refused e doc _ none (sym (ap (λ (change : Change). turned change doc) c.in_ok-forward.ensures ∙ forward_is e doc));
      fits = subst (λ (change : Change). Fits change doc) (sym c.in_ok-forward.ensures) (record { found = accepted_found e doc c.requires.change none; new = accepted_new e doc c.requires.change c.requires.named none });
    }
