-- A document that is laid out, and its boxes.
use Rattle.std.proofs.Common.{◌≡◌, ap, sym, subst, ◌∙◌, ℕ, Bool, true, List}
use Rattle.std.specs.List.{All}
use Rattle.doc_text.specs.declared.document.Doc.{Doc}
use Rattle.doc_text.specs.Histories.{History}
use Rattle.doc_text.specs.Valid.{IsValid}
use Rattle.session.specs.Boxes.{boxes_of}
use Rattle.session.specs.Engine.{IsSame}
use Rattle.session.specs.Printing.{Box, IsPrintableBox}
use Rattle.session.specs.Standing.{Standing, doc_of}
use Rattle.session.proofs.FewBoxes.{few_boxes}
use Rattle.session.proofs.Points.{small_boxes}
use Rattle.open_document.specs.Apart.{AreBoxes}
use Rattle.open_document.specs.Changed.{changed_in}
use Rattle.open_document.specs.Coming.{AreNext, Change, next_boxes}
use Rattle.open_document.specs.Opened.{laid_out}
use Rattle.open_document.proofs.Distinct.{boxes_apart}
use Rattle.open_document.proofs.Editing.{opened_by, same_laid}

-- ---- the boxes of a document

pub document_boxes : (doc : Doc) → IsValid doc → All IsPrintableBox (boxes_of doc) → AreBoxes (boxes_of doc)
document_boxes doc valid printable = record { apart = boxes_apart doc valid; printable = printable; few = few_boxes doc valid }

pub found_boxes : (doc : Doc) (boxes : List Box) → boxes ≡ boxes_of doc → IsValid doc → All IsPrintableBox (boxes_of doc) → AreBoxes boxes
found_boxes doc boxes e valid printable = subst AreBoxes (sym e) (document_boxes doc valid printable)

-- ---- a layout

module _ (s s' : Standing) (same : IsSame s s') where
  -- boxes that stood stand
  pub still_stand : (last : List Box) (laid : Bool) → (laid ≡ true → last ≡ boxes_of (doc_of s)) → laid ≡ true → last ≡ boxes_of (doc_of s')
  still_stand last laid stood e = stood e ∙ ap boxes_of (sym same.document)

  pub nothing_changed : (last : List Box) (changed : List ℕ) (laid : Bool) → opened_by s' last changed laid ≡ opened_by s last changed laid
  nothing_changed last changed laid = ap (λ (h : History). record { history = h; last = last; changed = changed; laid = laid }) (same_laid s s' same)

  pub boxes_stand : (boxes : List Box) → boxes ≡ boxes_of (doc_of s) → boxes ≡ boxes_of (doc_of s')
  boxes_stand boxes e = e ∙ ap boxes_of (sym same.document)

  pub laid_new : (last : List Box) (changed : List ℕ) (laid : Bool) (boxes : List Box) (now : List ℕ) → boxes ≡ boxes_of (doc_of s) → now ≡ changed_in last boxes → opened_by s' boxes now true ≡ laid_out (opened_by s last changed laid)
  laid_new last changed laid boxes now b c =
      let noted : now ≡ changed_in last (boxes_of (doc_of s)) = c ∙ ap (changed_in last) b in
      λ i. record { history = same_laid s s' same i; last = b i; changed = noted i; laid = true }

-- what takes the place of the boxes before is what came
pub record AreLaid (last new done : List Box) (changed : List ℕ) : Type 0 where
  pub are : new ≡ done
  pub told : changed ≡ changed_in last done

pub next_laid : (last new before done : List Box) (changes : List Change) (apart : Bool) (boxes : List Box) (told changed : List ℕ) → before ≡ last → AreNext before done changes apart boxes told → new ≡ next_boxes apart last changes boxes → changed ≡ told → AreLaid last new done changed
next_laid last new before done changes apart boxes told changed same next e f =
    record {
      are = e ∙ ap (λ (l : List Box). next_boxes apart l changes boxes) (sym same) ∙ next.are;
      told = f ∙ next.told ∙ ap (λ (l : List Box). changed_in l done) same;
    }

pub ruleset laying = (found_boxes, still_stand, nothing_changed, boxes_stand, laid_new)

-- ---- a point

pub ruleset pointing = (small_boxes)
