-- An edit of an engine is one of the open document.
use Rattle.std.proofs.Common.{◌≡◌, refl, ap, sym, ◌∙◌, ℕ, ◌<◌, Bool, true, false, not, ◌&&◌, List, Result, Ok, Err, inl, inr, length, arith, length-take}
use Rattle.text_scan.specs.declared.line.Fault.{Fault}
use Rattle.text_scan.specs.declared.line.Line.{Line}
use Rattle.doc_text.specs.declared.edit.Edit.{Edit}
use Rattle.doc_text.specs.declared.edit.Edit.TheVariants as edit
use Rattle.doc_text.specs.EditText.{edit_of}
use Rattle.doc_text.specs.Histories.{History, edited_history, redone, undone}
use Rattle.doc_text.specs.Texts.{◌>>=◌}
use Rattle.page_tree.specs.declared.error.EditError.{EditError}
use Rattle.page_tree.specs.declared.error.EditError.TheVariants as refusing
use Rattle.page_tree.specs.Pages.{document_of}
use Rattle.doc_text.specs.Valid.{IsShort}
use Rattle.session.proofs.ToldEdits.{node_named, values_told}
use Rattle.session.specs.Courses.{history_by}
use Rattle.session.specs.Engine.{IsAsBefore, IsEdit, IsEdited as IsEditedEngine, IsSame, StopsAt as StopsEngine}
use Rattle.session.specs.Printing.{Box}
use Rattle.session.specs.Standing.{Standing, doc_of, history_of}
use Rattle.open_document.specs.Calls.{Applies, Edits, MovesFewer, edited_by, line_in, moves, next_by}
use Rattle.open_document.specs.Opened.{Opened}

-- an open document by its parts
abbrev pub opened_by : Standing → List Box → List ℕ → Bool → Opened
opened_by s last changed laid = record { history = history_of s; last = last; changed = changed; laid = laid }

pub same_history : (old new : Standing) → new.steps ≡ old.steps → doc_of new ≡ doc_of old → history_of new ≡ history_of old
same_history old new steps doc = λ i. history_by (steps i) (doc i)

-- a layout leaves the history
pub same_laid : (old new : Standing) → IsSame old new → history_of new ≡ history_of old
same_laid old new p = same_history old new p.steps p.document

before_history : (old new : Standing) → IsAsBefore old new → history_of new ≡ history_of old
before_history old new p = same_history old new p.steps (ap document_of p.page)

-- ---- an edit that is no hit

no_hit : (e : Edit) (h : History) → IsEdit e → next_by h e ≡ edited_history e h
no_hit (edit.Set named settings) h is = refl
no_hit (edit.Unset named props) h is = refl
no_hit (edit.Insert parent index at named node) h is = refl
no_hit (edit.Remove named) h is = refl
no_hit (edit.Move named parent index at) h is = refl
no_hit (edit.Content named kind) h is = refl
no_hit (edit.Viewport width height) h is = refl
no_hit (edit.Undo n at) h is = refl
no_hit (edit.Redo n at) h is = refl
no_hit (edit.Hit x y) h is = absurd is

module _ (last : List Box) (changed : List ℕ) (laid : Bool) (e : Edit) (s s' : Standing) (is : IsEdit e) where
  abbrev old : Opened
  old = opened_by s last changed laid

  pub applied : IsEditedEngine e s s' → Applies e old (opened_by s' last changed false) (Ok tt)
  applied p = (no_hit e (history_of s) is ∙ p.history, refl)

  same_again : IsAsBefore s s' → opened_by s' last changed laid ≡ old
  same_again p = ap (λ (h : History). record { history = h; last = last; changed = changed; laid = laid }) (before_history s s' p)

  pub refused : (fault : Fault) → (edited_history e (history_of s) ≡ Err fault) × IsAsBefore s s' → Applies e old (opened_by s' last changed laid) (Err (refusing.Refused fault))
  refused fault p = (no_hit e (history_of s) is ∙ p.0, same_again p.1)

-- ---- want of memory

module _ (last : List Box) (changed : List ℕ) (laid : Bool) (s s' : Standing) where
  still : IsAsBefore s s' → (b : Bool) → b ≡ false → opened_by s' last changed (laid && not b) ≡ opened_by s last changed laid
  still p b e =
      ap (λ (c : Bool). opened_by s' last changed (laid && not c)) e ∙ ap (λ (c : Bool). opened_by s' last changed c) (and_true laid)
      ∙ ap (λ (h : History). record { history = h; last = last; changed = changed; laid = laid }) (before_history s s' p)
    where
      and_true : (c : Bool) → (c && true) ≡ c
      and_true true = refl
      and_true false = refl

  not_laid : (c : Bool) → (c && false) ≡ false
  not_laid true = refl
  not_laid false = refl

  fewer : (n : ℕ) (moved : ℕ → History) (count : ℕ) → count < n → history_of s' ≡ moved count → MovesFewer moved n (opened_by s last changed laid) (opened_by s' last changed (laid && false))
  fewer n moved count l h =
      record {
        count = count;
        fewer = l;
        is = ap (λ (c : Bool). opened_by s' last changed c) (not_laid laid) ∙ ap (λ (g : History). record { history = g; last = last; changed = changed; laid = false }) h;
      }

  pub stopped : (e : Edit) → IsEdit e → StopsEngine e s s' → Applies e (opened_by s last changed laid) (opened_by s' last changed (laid && not (moves e))) (Err refusing.NoMemory)
  stopped (edit.Set named settings) is p = still p false refl
  stopped (edit.Unset named props) is p = still p false refl
  stopped (edit.Insert parent index at named node) is p = still p false refl
  stopped (edit.Remove named) is p = still p false refl
  stopped (edit.Move named parent index at) is p = still p false refl
  stopped (edit.Content named kind) is p = still p false refl
  stopped (edit.Viewport width height) is p = still p false refl
  stopped (edit.Undo n at) is p = fewer n (λ count. undone count (history_of s).past (history_of s).doc (history_of s).future) p.0.count p.0.fewer p.0.moved.history
  stopped (edit.Redo n at) is p = fewer n (λ count. redone count (history_of s).past (history_of s).doc (history_of s).future) p.0.count p.0.fewer p.0.moved.history
  stopped (edit.Hit x y) is p = absurd is

pub ruleset applying = (applied, refused, stopped)

-- ---- the line of it

module _ (bytes : List ℕ) (old new : Opened) (line : Line) (version : ℕ) (is : line ≡ line_in bytes) (at : version ≡ old.history.doc.version) where
  read_as : (read : Result Edit Fault) → edit_of version line ≡ read → edited_by old.history bytes ≡ (read >>= next_by old.history)
  unfolding edited_by
  read_as read e = ap (λ (r : Result Edit Fault). r >>= next_by old.history) ((λ i. edit_of (sym at i) (sym is i)) ∙ e)

  read_here : (e : Edit) → edit_of version line ≡ Ok e → edit_of old.history.doc.version (line_in bytes) ≡ Ok e
  read_here e r = (λ i. edit_of (sym at i) (sym is i)) ∙ r

  pub line_edits : (result : Result (Unit {0}) EditError) (e : Edit) → edit_of version line ≡ Ok e → Applies e old new result → Edits bytes old new result
  line_edits (Ok done) e r p = record { made = read_as (Ok e) r ∙ p.0; is = p.1 }
  line_edits (Err (refusing.Refused fault)) e r p = (read_as (Ok e) r ∙ p.0, p.1)
  line_edits (Err refusing.NoMemory) e r p = inr (record { edit = e; read = read_here e r; stops = p })

  pub line_refused : (fault : Fault) → edit_of version line ≡ Err fault → new ≡ old → Edits bytes old new (Err (refusing.Refused fault))
  line_refused fault r p = (read_as (Err fault) r, p)

pub line_stopped : (bytes : List ℕ) (before after : Opened) → after ≡ before → Edits bytes before after (Err refusing.NoMemory)
line_stopped bytes before after p = inl p

pub line_short : (bytes : List ℕ) (line : Line) → line ≡ line_in bytes → IsShort line
line_short bytes line e = omega (arith, ap (λ (l : Line). length l.bytes) e, length-take 65536 bytes)

pub ruleset line_editing = (line_edits, line_refused, line_stopped, line_short, values_told, node_named)
