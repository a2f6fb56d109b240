-- A document that is opened.
use Rattle.std.proofs.Common.{◌≡◌, ap, sym, subst, ◌∙◌, ℕ, ◌≤◌, false, List, [], length, Ok, arith}
use Rattle.doc_text.specs.declared.document.Doc.{Doc}
use Rattle.session.specs.Courses.{history_by, no_steps}
use Rattle.session.specs.Input.{limit}
use Rattle.session.specs.Printing.{Box}
use Rattle.session.specs.Standing.{Standing, doc_of, history_of}
use Rattle.doc_text.specs.Histories.{begins}
use Rattle.open_document.specs.Apart.{AreBoxes}
use Rattle.open_document.specs.Calls.{IsOpened, document_in}
use Rattle.open_document.proofs.Editing.{opened_by}

no_boxes : AreBoxes []
no_boxes = record { apart = tt; printable = λ k d l. absurd (omega (arith, l)); few = omega arith }

-- without boxes, all are as they should be
pub none_boxes : (boxes : List Box) → boxes ≡ [] → AreBoxes boxes
none_boxes boxes e = subst AreBoxes (sym e) no_boxes

begun : (doc : Doc) (s : Standing) → doc_of s ≡ doc → s.steps ≡ no_steps → history_of s ≡ begins doc
begun doc s d e = λ i. history_by (e i) (d i)

pub opened_new : (text : List ℕ) (doc : Doc) (s : Standing) (last : List Box) (changed : List ℕ) → length text ≤ limit → document_in text ≡ Ok doc → doc_of s ≡ doc → s.steps ≡ no_steps → last ≡ [] → changed ≡ []
    → IsOpened text (opened_by s last changed false)
opened_new text doc s last changed few read d e l c =
    record {
      within = few;
      read = read ∙ ap Ok (sym d);
      is = λ i. record { history = (begun doc s d e ∙ ap begins (sym d)) i; last = l i; changed = c i; laid = false };
    }

pub ruleset opening = (opened_new, none_boxes)
