-- What is written under `make`, one document after another.
use Rattle.std.proofs.Common.{◌≡◌, refl, sym, ap, subst, ◌∙◌, ℕ, zero, suc, ◌+◌, ◌-◌, ◌<◌, ◌≤◌, inl, inr, List, [], ◌∷◌, ◌++◌, Result, Ok, Err, Option, OnOk, OnErr, arith}
use Rattle.std.specs.List.{All}
use Rattle.text_scan.specs.declared.line.Fault.{Fault}
use Rattle.outside.specs.Faults.{Rose}
use Rattle.outside.specs.Told.{Adds, AddsPrefix}
use Rattle.outside.specs.declared.event.Event.{Event}
use Rattle.outside.proofs.Laws.{prefix_after, prefix_longer, prefix_all, prefix_none, adds_more}
use Rattle.doc_text.specs.declared.document.Doc.{Doc}
use Rattle.doc_text.specs.declared.edit.Edit.{Edit}
use Rattle.doc_text.specs.declared.edit.Edit.TheVariants as edit
use Rattle.doc_text.specs.Edits.{applied, edited}
use Rattle.doc_text.specs.Laws.{IsChange, NamesItsNode}
use Rattle.doc_text.proofs.Told.{ok-not-err, same-ok}
use Rattle.value_text.specs.ValueText.{Settings}
use Rattle.page_maker.specs.Making.{made_document, last_state}
use Rattle.page_maker.specs.Scripts.{edit_from, edited_from, made_documents}
use Rattle.page_maker.specs.Standing.{IsMade, IsToldChange}
use Rattle.page_maker.specs.Sums.{IsSmallBox}
use Rattle.page_maker.proofs.Edited.{edit_stays, edit_told}
use Rattle.session.specs.Boxes.{boxes_of}
use Rattle.session.specs.Engine.{AreDeclared, IsToldEdit}
use Rattle.session.specs.Printing.{Box, IsPrintableBox}
use Rattle.session.specs.Logs.{Logs, LogsFront}
use Rattle.session.specs.Made.{EndsMaking, HasMade, MakesAll, TellsLayouts, all_laid, later, layouts_left, lines_left, made_layouts, made_line, made_lines, summary, touched_made}
use Rattle.session.specs.Runs.{StopsWriting}
use Rattle.session.specs.Spares.{Spares}
use Rattle.session.specs.declared.status.Status.{Status}
use Rattle.session.specs.declared.status.Status.TheVariants.{Done, BadDocument, SomeRefused, ReadFault, WriteFault, NoMemory, InputLimit, TooLong, BadWords}
use Rattle.session.proofs.Logs.{front_all, front_none}
use Rattle.session.proofs.Spares.{spares_none}

-- ---- boxes

pub small_boxes : (boxes : List Box) → All IsPrintableBox boxes → All IsSmallBox boxes
small_boxes boxes h i d l = let p = h i d l in record { x = p.x; y = p.y; width = p.width; height = p.height }

-- ---- lines

-- the lines of the documents from one on, and of those after it
first_line : (count nodes k : ℕ) (doc : Doc) (x : ℕ) → made_lines k (edited_from count nodes doc x) ≡ made_line k (boxes_of doc) ++ made_lines (k + 1) (later (edited_from count nodes doc x))
first_line zero nodes k doc x = refl
first_line (suc count) nodes k doc x = refl

-- one edit more
pub left_step : (k nodes : ℕ) (doc : Doc) (x : ℕ) → 0 < k → k < 9
    → lines_left (9 - k) nodes doc x ≡ made_line k (boxes_of (applied (edit_from nodes x).0 doc)) ++ lines_left (9 - (k + 1)) nodes (applied (edit_from nodes x).0 doc) (edit_from nodes x).1
unfolding lines_left
left_step k nodes doc x some few =
    let count : 9 - k ≡ suc (9 - (k + 1)) = omega (arith, few) in
    let here : 9 - suc (9 - (k + 1)) ≡ k = omega (arith, few) in
    let next : k + 1 ≡ 9 - (9 - (k + 1)) = omega (arith, few) in
    let doc' = applied (edit_from nodes x).0 doc in
    let x' = (edit_from nodes x).1 in
    ap (λ (n : ℕ). made_lines (9 - n) (later (edited_from n nodes doc x))) count
    ∙ ap (λ (n : ℕ). made_lines n (edited_from (9 - (k + 1)) nodes doc' x')) here
    ∙ first_line (9 - (k + 1)) nodes k doc' x'
    ∙ ap (λ (n : ℕ). made_line k (boxes_of doc') ++ made_lines n (later (edited_from (9 - (k + 1)) nodes doc' x'))) next

-- one edit more of a document and a state that are told to be those
pub left_next : (k nodes : ℕ) (doc edited now : Doc) (x y : ℕ) → 0 < k → k < 9 → edited ≡ applied (edit_from nodes x).0 doc → now ≡ edited → y ≡ (edit_from nodes x).1
    → lines_left (9 - k) nodes doc x ≡ made_line k (boxes_of edited) ++ lines_left (9 - (k + 1)) nodes now y
left_next k nodes doc edited now x y some few d n s =
    left_step k nodes doc x some few
    ∙ (λ i. made_line k (boxes_of (sym d i)) ++ lines_left (9 - (k + 1)) nodes (sym (n ∙ d) i) (sym s i))

-- no edit more
pub left_end : (k nodes : ℕ) (doc : Doc) (x : ℕ) → 9 ≤ k → lines_left (9 - k) nodes doc x ≡ []
unfolding lines_left
left_end k nodes doc x h =
    let count : 9 - k ≡ 0 = omega (arith, h) in
    ap (λ (n : ℕ). made_lines (9 - n) (later (edited_from n nodes doc x))) count

pub summary_is : (seed nodes : ℕ) → summary seed nodes ≡ made_line 0 (boxes_of (made_document seed nodes)) ++ lines_left 8 nodes (made_document seed nodes) (last_state seed nodes)
unfolding summary lines_left made_documents
summary_is seed nodes = first_line 8 nodes 0 (made_document seed nodes) (last_state seed nodes)

pub summary_of : (seed nodes : ℕ) (doc now : Doc) (x : ℕ) → doc ≡ made_document seed nodes → now ≡ doc → x ≡ last_state seed nodes → summary seed nodes ≡ made_line 0 (boxes_of doc) ++ lines_left 8 nodes now x
summary_of seed nodes doc now x d n s = summary_is seed nodes ∙ (λ i. made_line 0 (boxes_of (sym d i)) ++ lines_left 8 nodes (sym (n ∙ d) i) (sym s i))

-- ---- layouts

next_layout : (count nodes : ℕ) (doc : Doc) (x : ℕ) → all_laid (edited_from count nodes doc x) ≡ Ok doc ∷ all_laid (later (edited_from count nodes doc x))
next_layout zero nodes doc x = refl
next_layout (suc count) nodes doc x = refl

pub layouts_next : (k nodes : ℕ) (doc edited now : Doc) (x y : ℕ) → k < 9 → edited ≡ applied (edit_from nodes x).0 doc → now ≡ edited → y ≡ (edit_from nodes x).1
    → layouts_left (9 - k) nodes doc x ≡ Ok edited ∷ layouts_left (9 - (k + 1)) nodes now y
unfolding layouts_left
layouts_next k nodes doc edited now x y few d n s =
    let count : 9 - k ≡ suc (9 - (k + 1)) = omega (arith, few) in
    let doc' = applied (edit_from nodes x).0 doc in
    let x' = (edit_from nodes x).1 in
    ap (λ (n : ℕ). all_laid (later (edited_from n nodes doc x))) count
    ∙ next_layout (9 - (k + 1)) nodes doc' x'
    ∙ (λ i. Ok (sym d i) ∷ all_laid (later (edited_from (9 - (k + 1)) nodes (sym (n ∙ d) i) (sym s i))))

pub layouts_end : (k nodes : ℕ) (doc : Doc) (x : ℕ) → 9 ≤ k → layouts_left (9 - k) nodes doc x ≡ []
unfolding layouts_left
layouts_end k nodes doc x h =
    let count : 9 - k ≡ 0 = omega (arith, h) in
    ap (λ (n : ℕ). all_laid (later (edited_from n nodes doc x))) count

pub layouts_are : (seed nodes : ℕ) (doc now : Doc) (x : ℕ) → doc ≡ made_document seed nodes → now ≡ doc → x ≡ last_state seed nodes → made_layouts seed nodes ≡ Ok doc ∷ layouts_left 8 nodes now x
unfolding made_layouts layouts_left made_documents
layouts_are seed nodes doc now x d n s =
    next_layout 8 nodes (made_document seed nodes) (last_state seed nodes)
    ∙ (λ i. Ok (sym d i) ∷ all_laid (later (edited_from 8 nodes (sym (n ∙ d) i) (sym s i))))

pub ruleset left_laws = (left_step, left_end)

pub ruleset summary_laws = (summary_is, adds_more, prefix_after, prefix_longer)

-- ---- answers

pub on_ok : {A E P Q : Type 0} (r : Result A E) → (P → Q) → OnOk r P → OnOk r Q
on_ok (Ok x) f p = f p
on_ok (Err e) f p = tt

pub on_err : {A E P Q : Type 0} (r : Result A E) → (P → Q) → OnErr r P → OnErr r Q
on_err (Ok x) f p = tt
on_err (Err e) f p = f p

pub on_both : {A E P Q R : Type 0} (r : Result A E) → (P → Q → R) → OnOk r P → OnOk r Q → OnOk r R
on_both (Ok x) f p q = f p q
on_both (Err e) f p q = tt

pub any_ok : {A E P : Type 0} (r : Result A E) → P → OnOk r P
any_ok (Ok x) p = p
any_ok (Err e) p = tt

pub any_err : {A E P : Type 0} (r : Result A E) → P → OnErr r P
any_err (Ok x) p = tt
any_err (Err e) p = p

-- ---- edits

settings_declared : (settings : Settings) → IsToldChange (edit.Set (record { name = []; at = record { line = 0; column = 0 } }) settings) → AreDeclared 1 settings
settings_declared [] h = tt
settings_declared (setting ∷ settings) h = (h setting (inl refl), settings_declared settings (λ s a. h s (inr a)))

change_told : (e : Edit) → IsToldChange e → IsToldEdit 1 e
change_told (edit.Set named settings) h = settings_declared settings h
change_told (edit.Unset named props) h = absurd h
change_told (edit.Insert parent index at named node) h = absurd h
change_told (edit.Remove named) h = absurd h
change_told (edit.Move named parent index at) h = absurd h
change_told (edit.Content named kind) h = h
change_told (edit.Viewport width height) h = absurd h
change_told (edit.Undo n at) h = absurd h
change_told (edit.Redo n at) h = absurd h
change_told (edit.Hit x y) h = absurd h

change_named : (e : Edit) → IsToldChange e → NamesItsNode e
change_named (edit.Set named settings) h = tt
change_named (edit.Unset named props) h = tt
change_named (edit.Insert parent index at named node) h = absurd h
change_named (edit.Remove named) h = tt
change_named (edit.Move named parent index at) h = tt
change_named (edit.Content named kind) h = tt
change_named (edit.Viewport width height) h = tt
change_named (edit.Undo n at) h = tt
change_named (edit.Redo n at) h = tt
change_named (edit.Hit x y) h = tt

change_is : (e : Edit) → IsToldChange e → IsChange e
change_is (edit.Set named settings) h = tt
change_is (edit.Unset named props) h = tt
change_is (edit.Insert parent index at named node) h = tt
change_is (edit.Remove named) h = tt
change_is (edit.Move named parent index at) h = tt
change_is (edit.Content named kind) h = tt
change_is (edit.Viewport width height) h = tt
change_is (edit.Undo n at) h = absurd h
change_is (edit.Redo n at) h = absurd h
change_is (edit.Hit x y) h = absurd h

module _ (nodes x : ℕ) (e : Edit) (is : e ≡ (edit_from nodes x).0) where
  pub told : (version : ℕ) → version ≡ 1 → IsToldEdit version e
  told version v = subst (λ (n : ℕ). IsToldEdit n e) (sym v) (change_told e (subst IsToldChange (sym is) (edit_told nodes x)))

  pub named : NamesItsNode e
  named = change_named e (subst IsToldChange (sym is) (edit_told nodes x))

  pub changes : IsChange e
  changes = change_is e (subst IsToldChange (sym is) (edit_told nodes x))

  pub accepted : (doc : Doc) → 0 < nodes → IsMade nodes doc → edited e doc ≡ Ok (applied e doc)
  accepted doc some made = subst (λ (d : Edit). edited d doc ≡ Ok (applied d doc)) (sym is) (edit_stays nodes x doc some made).accepts

  pub still_made : (doc new : Doc) → 0 < nodes → IsMade nodes doc → new ≡ applied e doc → IsMade nodes new
  still_made doc new some made n = subst (IsMade nodes) (sym (n ∙ ap (λ (d : Edit). applied d doc) is)) (edit_stays nodes x doc some made).made

-- ---- the end of a run

module _ (seed nodes : ℕ) (w w' : Option (List ℕ)) (l l' : Option (List Event)) (p p' k k' : ℕ) where
  pub made_all : Adds w w' (summary seed nodes) → Logs l l' 0 (made_layouts seed nodes) → TellsLayouts (touched_made seed nodes) l l' p p' 0 (made_layouts seed nodes) → Spares (touched_made seed nodes) l l' → HasMade seed nodes w w' l l' p p' k k' Done
  made_all a b t s =
      let all : MakesAll seed nodes w w' l l' p p' = record { written = a; log = b; layouts = t } in
      record {
        ends = all;
        prefix = prefix_all w w' (summary seed nodes) a;
        log = front_all l l' 0 (made_layouts seed nodes) b;
        spares = s;
        complete = λ n. inr (refl, all);
      }

  module _ (a : AddsPrefix w w' (summary seed nodes)) (b : LogsFront l l' 0 (made_layouts seed nodes)) (s : Spares (touched_made seed nodes) l l') where
    stopped : (status : Status) → EndsMaking seed nodes w w' l l' p p' status → (¬ Rose k k' → status ≡ NoMemory) → HasMade seed nodes w w' l l' p p' k k' status
    stopped status e c = record { ends = e; prefix = a; log = b; spares = s; complete = λ n. inl (c n) }

    pub made_some : (status : Status) → StopsWriting status → (status ≡ WriteFault → Rose k k') → HasMade seed nodes w w' l l' p p' k k' status
    made_some Done s cause = absurd s
    made_some BadDocument s cause = absurd s
    made_some SomeRefused s cause = absurd s
    made_some ReadFault s cause = absurd s
    made_some WriteFault s cause = stopped WriteFault tt (λ n. absurd (n (cause refl)))
    made_some NoMemory s cause = stopped NoMemory tt (λ n. refl)
    made_some InputLimit s cause = absurd s
    made_some TooLong s cause = absurd s
    made_some BadWords s cause = absurd s

-- nothing was done for want of memory
pub made_none : (seed nodes : ℕ) (w : Option (List ℕ)) (l : Option (List Event)) (p k : ℕ) → HasMade seed nodes w w l l p p k k NoMemory
made_none seed nodes w l p k =
    record {
      ends = tt;
      prefix = prefix_none w (summary seed nodes);
      log = front_none l 0 (made_layouts seed nodes);
      spares = spares_none (touched_made seed nodes) l;
      complete = λ n. inl refl;
    }
