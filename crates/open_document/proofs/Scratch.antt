-- After any calls the boxes that can be read are those of the edited document.
use Rattle.std.proofs.Common.{◌≡◌, refl, ap, sym, subst, ◌∙◌, ℕ, Bool, true, false, List, [], ◌∷◌, Some, None, inl, inr}
use Rattle.std.specs.Prelude.{IfSome, if◌then◌else◌}
use Rattle.std.proofs.lemmas.Bool.{false≢true}
use Rattle.doc_text.specs.declared.document.Doc.{Doc}
use Rattle.doc_text.specs.Histories.{History, begins}
use Rattle.session.specs.Boxes.{boxes_of}
use Rattle.session.specs.Printing.{Box}
use Rattle.open_document.specs.Calls.{IsOpened}
use Rattle.open_document.specs.Opened.{Opened, doc_of}
use Rattle.open_document.specs.Runs.{Answered, Call, IsFromScratch, Lead, after_calls, edited, laid, or_same}

-- boxes that can be read are those of the document
record Stands (o : Opened) : Type 0 where
  boxes : o.laid ≡ true → o.last ≡ boxes_of (doc_of o)

not_laid : (o : Opened) → o.laid ≡ false → Stands o
not_laid o e = record { boxes = λ l. absurd (false≢true (sym e ∙ l)) }

-- ---- one call

next_stands : (call : Call) (old new : Opened) → Stands old → Answered call old new → Stands new
next_stands (edited bytes) old new s (inl p) = not_laid new (ap (λ (o : Opened). o.laid) p.is)
next_stands (edited bytes) old new s (inr p) = subst Stands (sym p.same) s
next_stands laid old new s p = subst Stands (sym p) (record { boxes = λ l. refl })

next_history : (call : Call) (old new : Opened) → Answered call old new → new.history ≡ after_calls (call ∷ []) old.history
next_history (edited bytes) old new (inl p) = ap (or_same old.history) (sym p.made)
next_history (edited bytes) old new (inr p) = ap (λ (o : Opened). o.history) p.same ∙ ap (or_same old.history) (sym p.due)
next_history laid old new p = ap (λ (o : Opened). o.history) p

one_more : (call : Call) (calls : List Call) (h : History) → after_calls calls (after_calls (call ∷ []) h) ≡ after_calls (call ∷ calls) h
one_more (edited bytes) calls h = refl
one_more laid calls h = refl

-- ---- many

all_stand : (calls : List Call) (old new : Opened) → Stands old → Lead calls old new → Stands new
all_stand [] old new s p = subst Stands (sym p) s
all_stand (call ∷ calls) old new s p = all_stand calls p.0 new (next_stands call old p.0 s p.1) p.2

all_made : (calls : List Call) (old new : Opened) → Lead calls old new → new.history ≡ after_calls calls old.history
all_made [] old new p = ap (λ (o : Opened). o.history) p
all_made (call ∷ calls) old new p = all_made calls p.0 new p.2 ∙ ap (after_calls calls) (next_history call old p.0 p.1) ∙ one_more call calls old.history

read_boxes : (b : Bool) (last : List Box) (doc : Doc) → (b ≡ true → last ≡ boxes_of doc) → IfSome (if b then Some last else None) (λ boxes. boxes ≡ boxes_of doc)
read_boxes true last doc h = h refl
read_boxes false last doc h = tt

pub from_scratch : (text : List ℕ) (first last : Opened) (calls : List Call) → IsOpened text first → Lead calls first last → IsFromScratch (doc_of first) calls last
from_scratch text first last calls o p =
    let begun : first.history ≡ begins (doc_of first) = ap (λ (x : Opened). x.history) o.is in
    let made : last.history ≡ after_calls calls (begins (doc_of first)) = all_made calls first last p ∙ ap (after_calls calls) begun in
    let stands : Stands last = all_stand calls first last (not_laid first (ap (λ (x : Opened). x.laid) o.is)) p in
    record {
      history = made;
      boxes = read_boxes last.laid last.last (after_calls calls (begins (doc_of first))).doc (λ l. stands.boxes l ∙ ap (λ (h : History). boxes_of h.doc) made);
    }
