-- Edits that are taken back, and made again.
use Rattle.std.proofs.Common.{◌≡◌, ℕ, zero, suc, ◌+◌, ◌≤◌, Bool, true, false, cond, List, [], ◌∷◌, length, Result, Ok, Err, refl, sym, ap, subst, ◌∙◌, arith}
use Rattle.std.specs.Prelude.{nat_lt}
use Rattle.std.proofs.lemmas.Bool.{ltb-false, le-ltb}
use Rattle.text_scan.specs.declared.line.Fault.{Fault}
use Rattle.text_scan.specs.declared.line.Place.{Place}
use Rattle.track_text.specs.Gives.{fault_at}
use Rattle.doc_text.specs.declared.document.Doc.{Doc}
use Rattle.doc_text.specs.declared.edit.Edit.{Edit}
use Rattle.doc_text.specs.declared.edit.Edit.TheVariants as edit
use Rattle.doc_text.specs.Edits.{edited}
use Rattle.doc_text.specs.Texts.{◌>>=◌}
use Rattle.doc_text.specs.Histories.{History, with_edited, undone, redone, edited_history, history_after}
use Rattle.doc_text.specs.Laws.{IsChange, AreChanges, IsBack}
use Rattle.doc_text.proofs.Told.{ok-not-err, same-ok}

-- ---- one more

abbrev back_one : History → History
back_one h = undone 1 h.past h.doc h.future

abbrev forth_one : History → History
forth_one h = redone 1 h.past h.doc h.future

one_back : (n : ℕ) (past : List Doc) (doc : Doc) (future : List Doc) → undone (suc n) past doc future ≡ back_one (undone n past doc future)
one_back zero past doc future = refl
one_back (suc n) [] doc future = refl
one_back (suc n) (before ∷ past) doc future = one_back n past before (doc ∷ future)

one_forth : (n : ℕ) (past : List Doc) (doc : Doc) (future : List Doc) → redone (suc n) past doc future ≡ forth_one (redone n past doc future)
one_forth zero past doc future = refl
one_forth (suc n) past doc [] = refl
one_forth (suc n) past doc (after ∷ future) = one_forth n (doc ∷ past) after future

-- ---- what was taken back is made again

abbrev forth : ℕ → History → History
forth n h = redone n h.past h.doc h.future

made_again : (n : ℕ) (past : List Doc) (doc : Doc) (future : List Doc) → n ≤ length past → forth n (undone n past doc future) ≡ record { past = past; doc = doc; future = future }
made_again zero past doc future h = refl
made_again (suc n) [] doc future h = absurd (omega (arith, h))
made_again (suc n) (before ∷ past) doc future h =
    let u : History = undone n past before (doc ∷ future) in
    one_forth n u.past u.doc u.future ∙ ap forth_one (made_again n past before (doc ∷ future) (omega (arith, h)))

as_many : (n : ℕ) (past : List Doc) (doc : Doc) (future : List Doc) → n ≤ length past → n + length future ≤ length (undone n past doc future).future
as_many zero past doc future h = omega arith
as_many (suc n) [] doc future h = absurd (omega (arith, h))
as_many (suc n) (before ∷ past) doc future h = omega (arith, as_many n past before (doc ∷ future) (omega (arith, h)))

pub redo_undoes : (n : ℕ) (at other : Place) (h made : History) → edited_history (edit.Undo n at) h ≡ Ok made → edited_history (edit.Redo n other) made ≡ Ok h
redo_undoes n at other h made e = by_number (nat_lt (length h.past) n) refl e
  where
    u : History
    u = undone n h.past h.doc h.future

    again : n ≤ length h.past → edited_history (edit.Redo n other) u ≡ Ok h
    again few = rw (le-ltb (length u.future) n (omega (arith, as_many n h.past h.doc h.future few))) (ap Ok (made_again n h.past h.doc h.future few))

    by_number : (b : Bool) → nat_lt (length h.past) n ≡ b → ◌≡◌ {A = Result History Fault} (cond b (Err (fault_at 25 at)) (Ok u)) (Ok made) → edited_history (edit.Redo n other) made ≡ Ok h
    by_number true f e = absurd (ok-not-err _ _ e)
    by_number false f e = subst (λ (m : History). edited_history (edit.Redo n other) m ≡ Ok h) (same-ok _ _ e) (again (ltb-false (length h.past) n f))

-- ---- what was done is taken back

-- a change that is accepted
record Went (e : Edit) (h made : History) : Type 0 where
  doc : Doc
  is : made ≡ with_edited h doc

went : (e : Edit) (h made : History) → IsChange e → edited_history e h ≡ Ok made → Went e h made
went e h made c m = by_edit e c m
  where
    by_result : (e : Edit) (r : Result Doc Fault) → (r >>= λ doc. Ok (with_edited h doc)) ≡ Ok made → Went e h made
    by_result e (Ok doc) m = record { doc = doc; is = sym (same-ok _ _ m) }
    by_result e (Err fault) m = absurd (ok-not-err _ _ m)

    by_edit : (e : Edit) → IsChange e → edited_history e h ≡ Ok made → Went e h made
    by_edit (edit.Set named settings) c m = by_result (edit.Set named settings) (edited (edit.Set named settings) h.doc) m
    by_edit (edit.Unset named props) c m = by_result (edit.Unset named props) (edited (edit.Unset named props) h.doc) m
    by_edit (edit.Insert parent index at named node) c m = by_result (edit.Insert parent index at named node) (edited (edit.Insert parent index at named node) h.doc) m
    by_edit (edit.Remove named) c m = by_result (edit.Remove named) (edited (edit.Remove named) h.doc) m
    by_edit (edit.Move named parent index at) c m = by_result (edit.Move named parent index at) (edited (edit.Move named parent index at) h.doc) m
    by_edit (edit.Content named kind) c m = by_result (edit.Content named kind) (edited (edit.Content named kind) h.doc) m
    by_edit (edit.Viewport width height) c m = by_result (edit.Viewport width height) (edited (edit.Viewport width height) h.doc) m
    by_edit (edit.Undo times at) c m = absurd c
    by_edit (edit.Redo times at) c m = absurd c
    by_edit (edit.Hit x y) c m = absurd c

-- a document stood so many edits back, after others
record WasAt (n : ℕ) (h made : History) : Type 0 where
  future : List Doc
  many : length made.past ≡ n + length h.past
  is : undone n made.past made.doc made.future ≡ record { past = h.past; doc = h.doc; future = future }

was_at : (es : List Edit) (h made : History) → AreChanges es → history_after es h ≡ Ok made → WasAt (length es) h made
was_at [] h made c m = subst (WasAt 0 h) (same-ok _ _ m) (record { future = h.future; many = omega arith; is = refl })
was_at (e ∷ es) h made c m = by_first (edited_history e h) refl m (λ next n. was_at es next made c.1 n)
  where
    by_first : (r : Result History Fault) → edited_history e h ≡ r → (r >>= history_after es) ≡ Ok made → ((next : History) → history_after es next ≡ Ok made → WasAt (length es) next made) → WasAt (suc (length es)) h made
    by_first (Err fault) f m rest = absurd (ok-not-err _ _ m)
    by_first (Ok next) f m rest =
        let first = went e h next c.0 f in
        let was : WasAt (length es) (with_edited h first.doc) made = subst (λ (n : History). WasAt (length es) n made) first.is (rest next m) in
        record {
          future = first.doc ∷ was.future;
          many = omega (arith, was.many);
          is = one_back (length es) made.past made.doc made.future ∙ ap back_one was.is;
        }

pub undo_undoes : (es : List Edit) (at : Place) (h made : History) → AreChanges es → history_after es h ≡ Ok made → IsBack h (edited_history (edit.Undo (length es) at) made)
undo_undoes es at h made c m =
    let was = was_at es h made c m in
    rw (le-ltb (length made.past) (length es) (omega (arith, was.many)))
    (ap (λ (h : History). h.past) was.is, ap (λ (h : History). h.doc) was.is)
