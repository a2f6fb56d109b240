-- An open document as contracts see it.
use Rattle.std.specs.Prelude.{refl, ℕ, Bool, true, false, if◌then◌else◌, List, [], Option, Some, None}
use Rattle.std.specs.Coded.{Coded, code_by, coded×, coded_ℕ, coded_bool, coded_list}
use Rattle.lunit.specs.contracts.geometry.Rect as rect
use Rattle.lunit.specs.contracts.name.Name as name
use Rattle.doc_text.specs.declared.document.Doc.{Doc}
use Rattle.doc_text.specs.contracts.document.Doc as doc
use Rattle.doc_text.specs.Histories.{History, begins}
use Rattle.session.specs.Boxes.{boxes_of}
use Rattle.session.specs.Printing.{Box}
use Rattle.open_document.specs.Changed.{changed_in}

-- the document with what was done and taken back before; the boxes of the last layout, none before the
-- first one; which of them the layout before that one does not have; and whether no edit was accepted
-- since
pub record Opened : Type 0 where
  pub history : History
  pub last : List Box
  pub changed : List ℕ
  pub laid : Bool

abbrev history_code : Coded History
history_code =
    code_by (List Doc × (Doc × List Doc))
    (coded× (coded_list doc.the_row.coded) (coded× doc.the_row.coded (coded_list doc.the_row.coded)))
    (λ h. (h.past, (h.doc, h.future)))
    (λ p. record { past = p.0; doc = p.1.0; future = p.1.1 }) (λ _. refl)

abbrev boxes_code : Coded (List Box)
boxes_code = coded_list (coded× name.the_row.coded rect.the_row.coded)

abbrev pub opened_code : Coded Opened
opened_code =
    code_by (History × (List Box × (List ℕ × Bool)))
    (coded× history_code (coded× boxes_code (coded× (coded_list coded_ℕ) coded_bool)))
    (λ o. (o.history, (o.last, (o.changed, o.laid))))
    (λ p. record { history = p.0; last = p.1.0; changed = p.1.1.0; laid = p.1.1.1 }) (λ _. refl)

-- the document as the edits left it
abbrev pub doc_of : Opened → Doc
doc_of o = o.history.doc

-- a document that was opened, and neither edited nor laid out
abbrev pub beginning : Doc → Opened
beginning doc = record { history = begins doc; last = []; changed = []; laid = false }

-- the same with another history: the boxes of the last layout no longer stand
abbrev pub with_history : History → Opened → Opened
with_history h o = record { history = h; last = o.last; changed = o.changed; laid = false }

-- the same laid out: with the boxes of its document from scratch
abbrev pub laid_out : Opened → Opened
laid_out o =
    record {
      history = o.history;
      last = boxes_of (doc_of o);
      changed = changed_in o.last (boxes_of (doc_of o));
      laid = true;
    }

-- what stands where the document was laid out since the last edit
abbrev pub where_laid : {A : Type 0} → Opened → A → Option A
where_laid o a = if o.laid then Some a else None

-- ---- what is read

-- the boxes that can be read
abbrev pub boxes_in : Opened → Option (List Box)
boxes_in o = where_laid o o.last

-- and which of them changed
abbrev pub changed_now : Opened → Option (List ℕ)
changed_now o = where_laid o o.changed
