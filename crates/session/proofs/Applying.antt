-- What an edit of a held document leaves, and a step that is taken back or made again.
use Rattle.std.proofs.Common.{◌≡◌, refl, ap, sym, subst, ◌∙◌, ℕ, suc, ◌+◌, ◌≤◌, ◌<◌, Bool, true, false, List, [], ◌∷◌, ◌++◌, length, Option, Some, Result, Ok, Err, arith, cond}
use Rattle.std.proofs.lemmas.Bool.{false≢true, le-ltb, lt-ltb}
use Rattle.std.proofs.lemmas.List.{length-drop, length-reverse, reverse-append}
use Rattle.std.specs.Borrow.{Bor}
use Rattle.std.specs.Prelude.{drop, reverse, nat_lt, ◌&&◌, ◌||◌, MatchResult, OnErr}
use Rattle.text_scan.specs.declared.line.Fault.{Fault}
use Rattle.text_scan.specs.declared.line.Place.{Place}
use Rattle.track_text.specs.Gives.{fault_at}
use Rattle.plain_tree.specs.Trees.{Trees, leafless, tree}
use Rattle.doc_text.specs.declared.document.Doc.{Doc}
use Rattle.doc_text.specs.declared.edit.Edit.{Edit}
use Rattle.doc_text.specs.declared.edit.Edit.TheVariants as edit
use Rattle.doc_text.specs.Documents.{is_leaf}
use Rattle.doc_text.specs.Edits.{applied, edited, tree_of}
use Rattle.doc_text.specs.Histories.{History, edited_history, redone, undone, with_edited}
use Rattle.doc_text.specs.Label.{Label}
use Rattle.doc_text.specs.Laws.{IsChange, NamesItsNode}
use Rattle.doc_text.specs.Texts.{◌>>=◌}
use Rattle.doc_text.proofs.Told.{ok-not-err}
use Rattle.doc_text.specs.Valid.{IsValid}
use Rattle.edit_journal.specs.declared.change.Change.{Change}
use Rattle.edit_journal.specs.declared.change.Step.{Step}
use Rattle.edit_journal.specs.Changes.{CanTurn, turned}
use Rattle.edit_journal.specs.Journals.{IsMadeAgain, IsTakenBack, KeepsLists, Lists, MakesLastAgain, TakesBackLast}
use Rattle.edit_journal.specs.Laws.{Leads}
use Rattle.edit_journal.specs.Steps.{forward_of as change_of, step_for}
use Rattle.edit_journal.proofs.Stepping.{step_leads}
use Rattle.box_layout.specs.LastBoxes.{AreFound, Found}
use Rattle.node_arena.specs.declared.number.NodeId.{NodeId}
use Rattle.node_arena.specs.Numbers.{EachNode, value_at}
use Rattle.node_arena.proofs.Parts.{each_weaker}
use Rattle.placing.specs.declared.node.Node.{Node}
use Rattle.placing.specs.Kept.{IsRight, kept_at, kept_of}
use Rattle.placing.specs.Nodes.{bare}
use Rattle.page_tree.specs.Answered.{BringsAtMostOne, IsStep, IsUndone, Judges}
use Rattle.page_tree.specs.Pages.{Held, Stands, document_of}
use Rattle.page_tree.specs.Reach.{KeepsOn, LeavesOthers, is_touched}
use Rattle.page_tree.specs.declared.error.EditError.{EditError}
use Rattle.page_tree.specs.declared.error.EditError.TheVariants as error
use Rattle.asked_pages.specs.Leaves.{PassesUp, has_leaf_by}
use Rattle.asked_pages.proofs.Above.{edit_touched_up}
use Rattle.session.specs.Courses.{Steps, back_of, docs_along, forward_of, history_by, made_again, next_steps, taken_back, touched_along, touched_between, with_step}
use Rattle.session.specs.Engine.{Applies, Edits, EditsOnce, IsAsBefore, IsEdit, IsEdited, IsToldEdit, KeepsUntouched, MakesAgain, Spreads, StopsAt, StopsShort, TakesBack, Traced, history_in, traced, traced_by}
use Rattle.session.specs.Standing.{HaveLed, IsSound, IsWell, LeadAlong, LeadsOn, Standing, doc_of, history_of, steps_of}
use Rattle.session.proofs.Traces.{GoesOver, LeadBoth, again_left, back_again, back_left, goes_first, led_over, makes_more, makes_none, spreads_one, takes_more, takes_none}
use Rattle.session.proofs.Validity.{edited_valid}

-- ---- the last of a list

last_first : (front : List Step) (step : Step) (whole : List Step) → whole ≡ front ++ step ∷ [] → reverse whole ≡ step ∷ reverse front
last_first front step whole e = ap reverse e ∙ reverse-append front (step ∷ [])

last_same : (front other : List Step) (x y : Step) → front ++ x ∷ [] ≡ other ++ y ∷ [] → x ≡ y
last_same front other x y e = first_is (sym (reverse-append front (x ∷ [])) ∙ ap reverse e ∙ reverse-append other (y ∷ []))
  where
    first_is : x ∷ reverse front ≡ y ∷ reverse other → x ≡ y
    first_is f = cc

rest_same : (front other : List Step) (x y : Step) → front ++ x ∷ [] ≡ other ++ y ∷ [] → reverse front ≡ reverse other
rest_same front other x y e = rest_is (sym (reverse-append front (x ∷ [])) ∙ ap reverse e ∙ reverse-append other (y ∷ []))
  where
    rest_is : x ∷ reverse front ≡ y ∷ reverse other → reverse front ≡ reverse other
    rest_is f = cc

-- ---- an edit

-- the change of an edit brings one node at most
brings_one : (e : Edit) → BringsAtMostOne (change_of e)
brings_one (edit.Set named settings) = tt
brings_one (edit.Unset named props) = tt
brings_one (edit.Insert parent index at named node) = refl
brings_one (edit.Remove named) = tt
brings_one (edit.Move named parent index at) = tt
brings_one (edit.Content named kind) = tt
brings_one (edit.Viewport width height) = tt
brings_one (edit.Undo n at) = tt
brings_one (edit.Redo n at) = tt
brings_one (edit.Hit x y) = tt

-- where it was not made the page is the same
pub unturned : (e : Edit) (step : Step) (old new : Held) → IsStep e (document_of old) step → IsUndone step.forward old new → new ≡ old
unturned e step old new is u = u.same (subst BringsAtMostOne (sym (ap (λ (s : Step). s.forward) is.is)) (brings_one e))

same_steps : (journal journal' : Lists) → KeepsLists journal journal' → steps_of journal' ≡ steps_of journal
same_steps journal journal' k = λ i. record { done = reverse (k.0 i); undone = reverse (k.1 i) }

pub not_edited : (error : EditError) (e : Edit) (page : Held) (journal : Lists) → Judges (Err error) e (document_of page) → Edits (Err error) e (traced_by page journal) (traced_by page journal)
not_edited (error.Refused fault) e page journal j = (j, refl)
not_edited error.NoMemory e page journal j = refl

-- memory was wanting: nothing is changed
pub not_made : (e : Edit) (old new : Held) (journal journal' : Lists) → new ≡ old → KeepsLists journal journal' → Edits (Err error.NoMemory) e (traced_by old journal) (traced_by new journal')
not_made e old new journal journal' same k = λ i. record { page = same i; steps = same_steps journal journal' k i }

pub well_same : (old new : Held) (last last' : List Found) (journal journal' : Lists) → new ≡ old → KeepsLists journal journal' → AreFound (bare new.nodes.tree) (kept_at new.nodes.tree) last' → IsWell old last (steps_of journal) → IsWell new last' (steps_of journal')
well_same old new last last' journal journal' same k found w =
    record {
      sound = subst IsSound (sym same) w.sound;
      found = found;
      led = subst (λ (s : Steps). HaveLed s (document_of new)) (sym (same_steps journal journal' k)) (subst (λ (p : Held). HaveLed (steps_of journal) (document_of p)) (sym same) w.led);
    }

module _ (e : Edit) (step : Step) (old new : Held) (last last' : List Found) (journal journal' : Lists) (change : IsChange e) (named : NamesItsNode e) (told : IsToldEdit (document_of old).version e)
    (well : IsWell old last (steps_of journal)) (is : IsStep e (document_of old) step) (turns : document_of new ≡ turned step.forward (document_of old)) (done : journal'.done ≡ journal.done ++ step ∷ []) (none : journal'.undone ≡ []) where
  made : edited e (document_of old) ≡ Ok (document_of new)
  made = is.made ∙ ap (λ (d : Doc). Ok d) (sym turns)

  leads : Leads step (document_of old) (document_of new)
  leads = subst (λ (s : Step). Leads s (document_of old) (document_of new)) (sym is.is) (step_leads e (document_of old) (document_of new) well.sound.valid.shaped change named made)

  new_done : reverse journal'.done ≡ step ∷ reverse journal.done
  new_done = last_first journal.done step journal'.done done

  new_steps : steps_of journal' ≡ with_step step (steps_of journal)
  new_steps = λ i. record { done = new_done i; undone = reverse (none i) }

  pub edits_once : LeavesOthers step.forward old new → EditsOnce e (traced_by old journal) (traced_by new journal')
  edits_once kept =
      record {
        made = made;
        history =
            ap (λ (s : Steps). history_by s (document_of new)) new_steps
            ∙ (λ i. record { past = leads.back i ∷ docs_along back_of (reverse journal.done) (leads.back i); doc = document_of new; future = [] });
        steps = new_steps ∙ ap (λ (s : Step). with_step s (steps_of journal)) is.is;
        spreads = record {
          kept = subst (λ (c : Change). LeavesOthers c old new) (ap (λ (s : Step). s.forward) is.is) kept;
          up = edit_touched_up e (document_of old) (document_of new) well.sound.valid.shaped named made;
        };
      }

  pub well_edited : IsRight new.nodes.tree → AreFound (bare new.nodes.tree) (kept_at new.nodes.tree) last' → IsWell new last' (steps_of journal')
  well_edited right found =
      record {
        sound = record { valid = edited_valid (document_of old) (document_of new) e well.sound.valid named told made; right = right };
        found = found;
        led = subst (λ (s : Steps). HaveLed s (document_of new)) (sym new_steps) (record {
          past = (
            record {
              goes = leads.returns;
              valid = subst IsValid (sym leads.back) well.sound.valid;
              returns = subst (CanTurn step.forward) (sym leads.back) leads.goes;
              back = ap (turned step.forward) leads.back ∙ leads.made;
            },
            subst (LeadAlong back_of forward_of (reverse journal.done)) (sym leads.back) well.led.past,
          );
          future = tt;
        });
      }

-- ---- a step taken back, or made again

no_leaf : (t : Trees Label) → has_leaf_by (λ name. false) t ≡ false
no_leaf leafless = refl
no_leaf (tree x below after) = by_kind (is_leaf x.kind) (no_leaf after)
  where
    by_kind : (b : Bool) → has_leaf_by (λ name. false) after ≡ false → ((b && false) || has_leaf_by (λ name. false) after) ≡ false
    by_kind true e = e
    by_kind false e = e

passes_none : (t : Trees Label) → PassesUp (λ name. false) t
passes_none leafless = tt
passes_none (tree x below after) = ((λ e. absurd (false≢true (sym (no_leaf below) ∙ e))), (passes_none below, passes_none after))

-- where the nodes are the same all that they keep is
keeps_all : (old new : Held) → Stands old.nodes.tree → new.nodes.tree ≡ old.nodes.tree → KeepsUntouched (λ name. false) old new
unfolding kept_at
keeps_all old new stands same =
    subst (EachNode (λ x. KeepsOn false old.nodes.tree x)) (sym same)
    (each_weaker (λ (x : NodeId × Node). value_at old.nodes.tree x.0 ≡ Some x.1) (λ (x : NodeId × Node). KeepsOn false old.nodes.tree x) old.nodes.tree
    (λ x there. record { kept = sym (ap kept_of there); stood = λ e. (x.1, (there, (refl, refl))) }) stands.each)

same_traced : (old new : Held) (journal journal' : Lists) → document_of new ≡ document_of old → steps_of journal' ≡ steps_of journal → history_in (traced_by new journal') ≡ history_in (traced_by old journal)
same_traced old new journal journal' doc steps = λ i. history_by (steps i) (doc i)

module _ (old new : Held) (last last' : List Found) (journal journal' : Lists) (well : IsWell old last (steps_of journal)) (right : IsRight new.nodes.tree) (found : AreFound (bare new.nodes.tree) (kept_at new.nodes.tree) last') where
  -- nothing was changed
  module _ (change : Change) (undone : IsUndone change old new) (same : steps_of journal' ≡ steps_of journal) where
    pub well_unturned : IsWell new last' (steps_of journal')
    well_unturned =
        record {
          sound = record { valid = subst IsValid (sym undone.before.document) well.sound.valid; right = right };
          found = found;
          led = subst (λ (s : Steps). HaveLed s (document_of new)) (sym same) (subst (HaveLed (steps_of journal)) (sym undone.before.document) well.led);
        }

    still : Stands old.nodes.tree → Spreads (λ name. false) old new
    still stands = record { kept = keeps_all old new stands undone.before.tree; up = passes_none (tree_of (document_of new)) }

    pub takes_nothing : Stands old.nodes.tree → TakesBack 0 (traced_by old journal) (traced_by new journal')
    takes_nothing stands = record { history = same_traced old new journal journal' undone.before.document same; steps = same; spreads = still stands }

    pub makes_nothing : Stands old.nodes.tree → MakesAgain 0 (traced_by old journal) (traced_by new journal')
    makes_nothing stands = record { history = same_traced old new journal journal' undone.before.document same; steps = same; spreads = still stands }

  -- the last step was taken back
  module _ (change : Change) (turns : document_of new ≡ turned change (document_of old)) (taken : IsTakenBack journal journal') (last_is : TakesBackLast change journal.done) where
    goes_back : GoesOver back_of forward_of (reverse journal.done) (reverse journal.undone) (reverse journal'.done) (reverse journal'.undone) change
    goes_back =
        record {
          step = taken.step;
          first = last_first journal'.done taken.step journal.done taken.last;
          over = last_first journal.undone taken.step journal'.undone taken.over;
          is = last_is.told ∙ ap back_of (last_same last_is.front journal'.done last_is.step taken.step (sym last_is.last ∙ taken.last));
        }

    lead_back : LeadBoth back_of forward_of (reverse journal.done) (reverse journal.undone) (document_of old)
    lead_back = record { near = well.led.past; far = well.led.future; valid = well.sound.valid }

    pub well_back : IsWell new last' (steps_of journal')
    well_back =
        let led = led_over back_of forward_of (reverse journal.done) (reverse journal.undone) (reverse journal'.done) (reverse journal'.undone) change goes_back (document_of old) (document_of new) turns lead_back in
        record { sound = record { valid = led.valid; right = right }; found = found; led = record { past = led.near; future = led.far } }

    pub takes_one : LeavesOthers change old new → TakesBack 1 (traced_by old journal) (traced_by new journal')
    takes_one kept =
        let done = reverse journal.done in
        let back = reverse journal.undone in
        let done' = reverse journal'.done in
        let back' = reverse journal'.undone in
        let past = goes_first back_of forward_of done back done' back' change goes_back (document_of old) (document_of new) turns in
        let future = back_again back_of forward_of done back done' back' change goes_back (document_of old) (document_of new) turns lead_back in
        record {
          history = (λ i. record { past = docs_along back_of done' (document_of new); doc = document_of new; future = future i }) ∙ (λ i. undone 1 (sym past i) (document_of old) (docs_along forward_of back (document_of old)));
          steps = (λ i. record { done = done'; undone = goes_back.over i }) ∙ (λ i. taken_back 1 (sym goes_back.first i) back);
          spreads = spreads_one back_of forward_of done back done' back' change goes_back old new turns lead_back kept;
        }

  -- the last step that was taken back was made again
  module _ (change : Change) (turns : document_of new ≡ turned change (document_of old)) (again : IsMadeAgain journal journal') (last_is : MakesLastAgain change journal.undone) where
    goes_forth : GoesOver forward_of back_of (reverse journal.undone) (reverse journal.done) (reverse journal'.undone) (reverse journal'.done) change
    goes_forth =
        record {
          step = again.step;
          first = last_first journal'.undone again.step journal.undone again.last;
          over = last_first journal.done again.step journal'.done again.over;
          is = last_is.told ∙ ap forward_of (last_same last_is.front journal'.undone last_is.step again.step (sym last_is.last ∙ again.last));
        }

    lead_forth : LeadBoth forward_of back_of (reverse journal.undone) (reverse journal.done) (document_of old)
    lead_forth = record { near = well.led.future; far = well.led.past; valid = well.sound.valid }

    pub well_again : IsWell new last' (steps_of journal')
    well_again =
        let led = led_over forward_of back_of (reverse journal.undone) (reverse journal.done) (reverse journal'.undone) (reverse journal'.done) change goes_forth (document_of old) (document_of new) turns lead_forth in
        record { sound = record { valid = led.valid; right = right }; found = found; led = record { past = led.far; future = led.near } }

    pub makes_one : LeavesOthers change old new → MakesAgain 1 (traced_by old journal) (traced_by new journal')
    makes_one kept =
        let done = reverse journal.done in
        let back = reverse journal.undone in
        let done' = reverse journal'.done in
        let back' = reverse journal'.undone in
        let future = goes_first forward_of back_of back done back' done' change goes_forth (document_of old) (document_of new) turns in
        let past = back_again forward_of back_of back done back' done' change goes_forth (document_of old) (document_of new) turns lead_forth in
        record {
          history = (λ i. record { past = past i; doc = document_of new; future = docs_along forward_of back' (document_of new) }) ∙ (λ i. redone 1 (docs_along back_of done (document_of old)) (document_of old) (sym future i));
          steps = (λ i. record { done = goes_forth.over i; undone = back' }) ∙ (λ i. made_again 1 done (sym goes_forth.first i));
          spreads = spreads_one forward_of back_of back done back' done' change goes_forth old new turns lead_forth kept;
        }

-- a step that was moved over and back again
pub back_and_forth : (journal moved restored : Lists) → IsTakenBack journal moved → IsMadeAgain moved restored → steps_of restored ≡ steps_of journal
back_and_forth journal moved restored taken again =
    let step : again.step ≡ taken.step = last_same restored.undone journal.undone again.step taken.step (sym again.last ∙ taken.over) in
    let undone : reverse restored.undone ≡ reverse journal.undone = rest_same restored.undone journal.undone again.step taken.step (sym again.last ∙ taken.over) in
    let done : restored.done ≡ journal.done = again.over ∙ ap (λ (s : Step). moved.done ++ s ∷ []) step ∙ sym taken.last in
    λ i. record { done = reverse (done i); undone = undone i }

pub forth_and_back : (journal moved restored : Lists) → IsMadeAgain journal moved → IsTakenBack moved restored → steps_of restored ≡ steps_of journal
forth_and_back journal moved restored again taken =
    let step : taken.step ≡ again.step = last_same restored.done journal.done taken.step again.step (sym taken.last ∙ again.over) in
    let done : reverse restored.done ≡ reverse journal.done = rest_same restored.done journal.done taken.step again.step (sym taken.last ∙ again.over) in
    let undone : restored.undone ≡ journal.undone = taken.over ∙ ap (λ (s : Step). moved.undone ++ s ∷ []) step ∙ sym again.last in
    λ i. record { done = done i; undone = reverse (undone i) }

-- nothing yet
pub takes_start : (page : Held) (journal : Lists) → Stands page.nodes.tree → TakesBack 0 (traced_by page journal) (traced_by page journal)
takes_start page journal stands = record { history = refl; steps = refl; spreads = record { kept = keeps_all page page stands refl; up = passes_none (tree_of (document_of page)) } }

pub makes_start : (page : Held) (journal : Lists) → Stands page.nodes.tree → MakesAgain 0 (traced_by page journal) (traced_by page journal)
makes_start page journal stands = record { history = refl; steps = refl; spreads = record { kept = keeps_all page page stands refl; up = passes_none (tree_of (document_of page)) } }

-- while fewer were taken back than there were some are left
pub some_back : (n count : ℕ) (old new : Held) (journal journal' : Lists) → TakesBack n (traced_by old journal) (traced_by new journal') → n < count → count ≤ length journal.done → 0 < length journal'.done
some_back n count old new journal journal' p few many =
    let left : length (reverse journal'.done) ≡ length (drop n (reverse journal.done)) = ap (λ (s : Steps). length s.done) p.steps ∙ ap (λ (l : List Step). length l) (back_left n (reverse journal.done) (reverse journal.undone)) in
    omega (arith, few, many, left, length-drop n (reverse journal.done), length-reverse journal.done, length-reverse journal'.done)

pub some_again : (n count : ℕ) (old new : Held) (journal journal' : Lists) → MakesAgain n (traced_by old journal) (traced_by new journal') → n < count → count ≤ length journal.undone → 0 < length journal'.undone
some_again n count old new journal journal' p few many =
    let left : length (reverse journal'.undone) ≡ length (drop n (reverse journal.undone)) = ap (λ (s : Steps). length s.undone) p.steps ∙ ap (λ (l : List Step). length l) (again_left n (reverse journal.done) (reverse journal.undone)) in
    omega (arith, few, many, left, length-drop n (reverse journal.undone), length-reverse journal.undone, length-reverse journal'.undone)

-- one more, of a page with its journal
pub back_further : (n count : ℕ) (old now new : Held) (last : List Found) (journal moved journal' : Lists) → IsWell now last (steps_of moved) → n < count → count ≤ length journal.done
    → TakesBack n (traced_by old journal) (traced_by now moved) → TakesBack 1 (traced_by now moved) (traced_by new journal') → TakesBack (n + 1) (traced_by old journal) (traced_by new journal')
back_further n count old now new last journal moved journal' well few many p q =
    let some : 0 < length (reverse moved.done) = omega (arith, some_back n count old now journal moved p few many, length-reverse moved.done) in
    takes_more n (traced_by old journal) (traced_by now moved) (traced_by new journal') well.sound.valid well.led some p q

pub again_further : (n count : ℕ) (old now new : Held) (last : List Found) (journal moved journal' : Lists) → IsWell now last (steps_of moved) → n < count → count ≤ length journal.undone
    → MakesAgain n (traced_by old journal) (traced_by now moved) → MakesAgain 1 (traced_by now moved) (traced_by new journal') → MakesAgain (n + 1) (traced_by old journal) (traced_by new journal')
again_further n count old now new last journal moved journal' well few many p q =
    let some : 0 < length (reverse moved.undone) = omega (arith, some_again n count old now journal moved p few many, length-reverse moved.undone) in
    makes_more n (traced_by old journal) (traced_by now moved) (traced_by new journal') well.sound.valid well.led some p q

pub failing : {T E P : Type 0} (r : Result T E) → P → OnErr r P
failing (Ok x) p = tt
failing (Err e) p = p

-- memory was wanting in between
pub stops_back : (n count : ℕ) (old now new : Held) (journal moved journal' : Lists) → n < count → TakesBack n (traced_by old journal) (traced_by now moved) → TakesBack 0 (traced_by now moved) (traced_by new journal')
    → StopsShort TakesBack count (traced_by old journal) (traced_by new journal')
stops_back n count old now new journal moved journal' few p q = record { count = n; fewer = few; moved = takes_none n (traced_by old journal) (traced_by now moved) (traced_by new journal') p q }

pub stops_again : (n count : ℕ) (old now new : Held) (journal moved journal' : Lists) → n < count → MakesAgain n (traced_by old journal) (traced_by now moved) → MakesAgain 0 (traced_by now moved) (traced_by new journal')
    → StopsShort MakesAgain count (traced_by old journal) (traced_by new journal')
stops_again n count old now new journal moved journal' few p q = record { count = n; fewer = few; moved = makes_none n (traced_by old journal) (traced_by now moved) (traced_by new journal') p q }

-- what the journal is once the change that it gave was read
pub taken_is : {E : Type 0} (r : Result (Bor Change) E) (change : Bor Change) (a b : Lists) → r ≡ Ok change → MatchResult r (λ _. IsTakenBack a b) (λ _. b ≡ a) → IsTakenBack a b
taken_is (Ok x) change a b e h = h
taken_is (Err x) change a b e h = absurd cc

pub again_is : {E : Type 0} (r : Result (Bor Change) E) (change : Bor Change) (a b : Lists) → r ≡ Ok change → MatchResult r (λ _. IsMadeAgain a b) (λ _. b ≡ a) → IsMadeAgain a b
again_is (Ok x) change a b e h = h
again_is (Err x) change a b e h = absurd cc

-- there was a change to give
last_some : (front : List Step) (step : Step) → [] ≡ front ++ step ∷ [] → ⊥
last_some [] step e = cc
last_some (first ∷ front) step e = cc

pub back_given : {E : Type 0} (r : Result (Bor Change) E) (journal moved restored : Lists) → IsTakenBack journal moved → OnErr r (moved.undone ≡ []) → MatchResult r (λ _. IsMadeAgain moved restored) (λ _. restored ≡ moved) → steps_of restored ≡ steps_of journal
back_given (Ok x) journal moved restored taken none h = back_and_forth journal moved restored taken h
back_given (Err x) journal moved restored taken none h = absurd (last_some journal.undone taken.step (sym none ∙ taken.over))

pub again_given : {E : Type 0} (r : Result (Bor Change) E) (journal moved restored : Lists) → IsMadeAgain journal moved → OnErr r (moved.done ≡ []) → MatchResult r (λ _. IsTakenBack moved restored) (λ _. restored ≡ moved) → steps_of restored ≡ steps_of journal
again_given (Ok x) journal moved restored again none h = forth_and_back journal moved restored again h
again_given (Err x) journal moved restored again none h = absurd (last_some journal.done again.step (sym none ∙ again.over))

-- the change that takes a step back fits, and so does the one that makes it again
pub can_take_back : (change : Change) (page : Held) (last : List Found) (journal : Lists) → IsWell page last (steps_of journal) → TakesBackLast change journal.done → CanTurn change (document_of page)
can_take_back change page last journal well is =
    subst (λ (c : Change). CanTurn c (document_of page)) (sym is.told)
    (subst (λ (l : List Step). LeadAlong back_of forward_of l (document_of page)) (last_first is.front is.step journal.done is.last) well.led.past).0.goes

pub can_make_again : (change : Change) (page : Held) (last : List Found) (journal : Lists) → IsWell page last (steps_of journal) → MakesLastAgain change journal.undone → CanTurn change (document_of page)
can_make_again change page last journal well is =
    subst (λ (c : Change). CanTurn c (document_of page)) (sym is.told)
    (subst (λ (l : List Step). LeadAlong forward_of back_of l (document_of page)) (last_first is.front is.step journal.undone is.last) well.led.future).0.goes

-- ---- an engine

-- a change by itself makes the next history of the edited document
change_history : (e : Edit) (h : History) → IsChange e → edited_history e h ≡ (edited e h.doc >>= λ doc. Ok (with_edited h doc))
change_history (edit.Set named settings) h c = refl
change_history (edit.Unset named props) h c = refl
change_history (edit.Insert parent index at named node) h c = refl
change_history (edit.Remove named) h c = refl
change_history (edit.Move named parent index at) h c = refl
change_history (edit.Content named kind) h c = refl
change_history (edit.Viewport width height) h c = refl
change_history (edit.Undo n at) h c = absurd c
change_history (edit.Redo n at) h c = absurd c
change_history (edit.Hit x y) h c = absurd c

pub change_steps : (e : Edit) (doc : Doc) (steps : Steps) → IsChange e → next_steps e doc steps ≡ with_step (step_for doc e) steps
change_steps (edit.Set named settings) doc steps c = refl
change_steps (edit.Unset named props) doc steps c = refl
change_steps (edit.Insert parent index at named node) doc steps c = refl
change_steps (edit.Remove named) doc steps c = refl
change_steps (edit.Move named parent index at) doc steps c = refl
change_steps (edit.Content named kind) doc steps c = refl
change_steps (edit.Viewport width height) doc steps c = refl
change_steps (edit.Undo n at) doc steps c = absurd c
change_steps (edit.Redo n at) doc steps c = absurd c
change_steps (edit.Hit x y) doc steps c = absurd c

pub change_touches : (e : Edit) (steps : Steps) (old new : Doc) → IsChange e → is_touched e old new ≡ touched_between e steps old new
change_touches (edit.Set named settings) steps old new c = refl
change_touches (edit.Unset named props) steps old new c = refl
change_touches (edit.Insert parent index at named node) steps old new c = refl
change_touches (edit.Remove named) steps old new c = refl
change_touches (edit.Move named parent index at) steps old new c = refl
change_touches (edit.Content named kind) steps old new c = refl
change_touches (edit.Viewport width height) steps old new c = refl
change_touches (edit.Undo n at) steps old new c = absurd c
change_touches (edit.Redo n at) steps old new c = absurd c
change_touches (edit.Hit x y) steps old new c = absurd c

pub change_stops : (e : Edit) (old new : Standing) → IsChange e → IsAsBefore old new → StopsAt e old new
change_stops (edit.Set named settings) old new c a = a
change_stops (edit.Unset named props) old new c a = a
change_stops (edit.Insert parent index at named node) old new c a = a
change_stops (edit.Remove named) old new c a = a
change_stops (edit.Move named parent index at) old new c a = a
change_stops (edit.Content named kind) old new c a = a
change_stops (edit.Viewport width height) old new c a = a
change_stops (edit.Undo n at) old new c a = absurd c
change_stops (edit.Redo n at) old new c a = absurd c
change_stops (edit.Hit x y) old new c a = absurd c

module _ (e : Edit) (old new : Standing) (c : IsChange e) where
  pub applies_edit : EditsOnce e (traced old) (traced new) → new.laid ≡ false → IsEdited e old new
  applies_edit p laid =
      record {
        history = change_history e (history_of old) c ∙ ap (λ (r : Result Doc Fault). r >>= λ doc. Ok (with_edited (history_of old) doc)) p.made ∙ ap (λ (h : History). Ok h) (sym p.history);
        steps = p.steps ∙ sym (change_steps e (doc_of old) old.steps c);
        spreads = subst (λ (f : List ℕ → Bool). Spreads f old.page new.page) (change_touches e old.steps (doc_of old) (doc_of new) c) p.spreads;
        laid = laid;
      }

  as_before : traced new ≡ traced old → new.laid ≡ old.laid → IsAsBefore old new
  as_before same laid = record { page = ap (λ (t : Traced). t.page) same; steps = ap (λ (t : Traced). t.steps) same; laid = laid }

  pub applies_none : (error : EditError) → Edits (Err error) e (traced old) (traced new) → new.laid ≡ old.laid → Applies (Err error) e old new
  applies_none (error.Refused fault) p laid =
      (change_history e (history_of old) c ∙ ap (λ (r : Result Doc Fault). r >>= λ doc. Ok (with_edited (history_of old) doc)) p.0, as_before p.1 laid)
  applies_none error.NoMemory p laid = change_stops e old new c (as_before p laid)

along_length : (change : Step → Change) (steps : List Step) (doc : Doc) → length (docs_along change steps doc) ≡ length steps
along_length change [] doc = refl
along_length change (step ∷ steps) doc = ap suc (along_length change steps (turned (change step) doc))

-- as many documents as the journal has steps
many : (change : Step → Change) (steps : List Step) (doc : Doc) → length (docs_along change (reverse steps) doc) ≡ length steps
many change steps doc = along_length change (reverse steps) doc ∙ length-reverse steps

module _ (n : ℕ) (at : Place) (page : Held) (journal : Lists) where
  abbrev held : History
  held = history_by (steps_of journal) (document_of page)

  pub too_many_back : length journal.done < n → edited_history (edit.Undo n at) held ≡ Err (fault_at 25 at)
  too_many_back few =
      ap (λ (b : Bool). cond b (Err (fault_at 25 at)) (Ok (undone n held.past held.doc held.future))) (ap (λ (l : ℕ). nat_lt l n) (many back_of journal.done (document_of page)) ∙ lt-ltb (length journal.done) n few)

  pub enough_back : n ≤ length journal.done → edited_history (edit.Undo n at) held ≡ Ok (undone n held.past held.doc held.future)
  enough_back few =
      ap (λ (b : Bool). cond b (Err (fault_at 25 at)) (Ok (undone n held.past held.doc held.future))) (ap (λ (l : ℕ). nat_lt l n) (many back_of journal.done (document_of page)) ∙ le-ltb (length journal.done) n few)

  pub too_many_again : length journal.undone < n → edited_history (edit.Redo n at) held ≡ Err (fault_at 26 at)
  too_many_again few =
      ap (λ (b : Bool). cond b (Err (fault_at 26 at)) (Ok (redone n held.past held.doc held.future))) (ap (λ (l : ℕ). nat_lt l n) (many forward_of journal.undone (document_of page)) ∙ lt-ltb (length journal.undone) n few)

  pub enough_again : n ≤ length journal.undone → edited_history (edit.Redo n at) held ≡ Ok (redone n held.past held.doc held.future)
  enough_again few =
      ap (λ (b : Bool). cond b (Err (fault_at 26 at)) (Ok (redone n held.past held.doc held.future))) (ap (λ (l : ℕ). nat_lt l n) (many forward_of journal.undone (document_of page)) ∙ le-ltb (length journal.undone) n few)

module _ (n : ℕ) (at : Place) (old new : Standing) (journal : Lists) (is : old.steps ≡ steps_of journal) where
  pub undoes : n ≤ length journal.done → TakesBack n (traced old) (traced new) → new.laid ≡ false → IsEdited (edit.Undo n at) old new
  undoes few p laid =
      record {
        history =
            ap (λ (s : Steps). edited_history (edit.Undo n at) (history_by s (doc_of old))) is ∙ enough_back n at old.page journal few
            ∙ ap (λ (s : Steps). Ok (undone n (docs_along back_of s.done (doc_of old)) (doc_of old) (docs_along forward_of s.undone (doc_of old)))) (sym is) ∙ ap (λ (h : History). Ok h) (sym p.history);
        steps = p.steps;
        spreads = p.spreads;
        laid = laid;
      }

  pub redoes : n ≤ length journal.undone → MakesAgain n (traced old) (traced new) → new.laid ≡ false → IsEdited (edit.Redo n at) old new
  redoes few p laid =
      record {
        history =
            ap (λ (s : Steps). edited_history (edit.Redo n at) (history_by s (doc_of old))) is ∙ enough_again n at old.page journal few
            ∙ ap (λ (s : Steps). Ok (redone n (docs_along back_of s.done (doc_of old)) (doc_of old) (docs_along forward_of s.undone (doc_of old)))) (sym is) ∙ ap (λ (h : History). Ok h) (sym p.history);
        steps = p.steps;
        spreads = p.spreads;
        laid = laid;
      }

pub ruleset editing = (not_edited, not_made, well_same, edits_once, well_edited, unturned)

-- ---- an edit that is made up

ok_history : (a b : History) → ◌≡◌ {A = Result History Fault} (Ok a) (Ok b) → a ≡ b
ok_history a b e = cc

module _ (e : Edit) (old new : Standing) (c : IsChange e) where
  made_history : edited e (doc_of old) ≡ Ok (applied e (doc_of old)) → edited_history e (history_of old) ≡ Ok (with_edited (history_of old) (applied e (doc_of old)))
  made_history made = change_history e (history_of old) c ∙ ap (λ (r : Result Doc Fault). r >>= λ doc. Ok (with_edited (history_of old) doc)) made

  pub made_doc : edited e (doc_of old) ≡ Ok (applied e (doc_of old)) → IsEdited e old new → doc_of new ≡ applied e (doc_of old)
  made_doc made a = ap (λ (h : History). h.doc) (ok_history (history_of new) (with_edited (history_of old) (applied e (doc_of old))) (sym a.history ∙ made_history made))

  pub made_spreads : IsEdited e old new → Spreads (is_touched e (doc_of old) (doc_of new)) old.page new.page
  made_spreads a = subst (λ (f : List ℕ → Bool). Spreads f old.page new.page) (sym (change_touches e old.steps (doc_of old) (doc_of new) c)) a.spreads

  pub not_refused : (fault : Fault) → edited e (doc_of old) ≡ Ok (applied e (doc_of old)) → (edited_history e (history_of old) ≡ Err fault) × IsAsBefore old new → ⊥
  not_refused fault made p = ok-not-err (with_edited (history_of old) (applied e (doc_of old))) fault (sym p.0 ∙ made_history made)

-- each is an edit
pub change_is_edit : (e : Edit) → IsChange e → IsEdit e
change_is_edit (edit.Set named settings) c = tt
change_is_edit (edit.Unset named props) c = tt
change_is_edit (edit.Insert parent index at named node) c = tt
change_is_edit (edit.Remove named) c = tt
change_is_edit (edit.Move named parent index at) c = tt
change_is_edit (edit.Content named kind) c = tt
change_is_edit (edit.Viewport width height) c = tt
change_is_edit (edit.Undo n at) c = absurd c
change_is_edit (edit.Redo n at) c = absurd c
change_is_edit (edit.Hit x y) c = absurd c

pub ruleset making = (made_doc, made_spreads, not_refused, change_is_edit)
