-- Calls on an engine one after another, edits and layouts in any order, and what each of them
-- touches (own rule).
use Rattle.std.specs.Prelude.{◌≡◌, ℕ, ◌||◌, Bool, false, List, [], ◌∷◌, Option, Result, Ok, Err, ⊤}
use Rattle.lunit.specs.declared.errors.NoMemory.{NoMemory}
use Rattle.outside.specs.declared.event.Event.{Event}
use Rattle.doc_text.specs.declared.edit.Edit.{Edit}
use Rattle.doc_text.specs.declared.edit.Edit.TheVariants as edit
use Rattle.page_tree.specs.declared.error.EditError.{EditError}
use Rattle.page_tree.specs.declared.error.EditError.TheVariants as error
use Rattle.sparing.specs.Sparing.{Touches}
use Rattle.session.specs.declared.engine.Layout.{Layout}
use Rattle.session.specs.Courses.{back_of, forward_of, touched_along, touched_between}
use Rattle.session.specs.Engine.{Applies}
use Rattle.session.specs.Spares.{SparesAfter, SparesDue}
use Rattle.session.specs.Standing.{Standing, doc_of}

-- A call of `apply`, its answer and the engine after it; or one of `layout` with this number, its
-- answer, the engine after it, and what the ruler was told by then.
pub data Call : Type 0 where
  applied : Edit → Result (Unit {0}) EditError → Standing → Call
  laid : ℕ → Result Layout NoMemory → Standing → Option (List Event) → Call

-- What a call of `apply` touched that answered as its contract says: with Ok what the edit touches;
-- where it was refused nothing. Where memory was wanting, what those changes of `undo` and `redo`
-- touch that were made, and of other edits nothing.
abbrev pub touched_in : (r : Result (Unit {0}) EditError) (e : Edit) (old new : Standing) → Applies r e old new → List ℕ → Bool
touched_in (Ok done) e old new a name = touched_between e old.steps (doc_of old) (doc_of new) name
touched_in (Err (error.Refused fault)) e old new a name = false
touched_in (Err error.NoMemory) (edit.Undo n at) old new a name = touched_along back_of a.0.count old.steps.done (doc_of old) name
touched_in (Err error.NoMemory) (edit.Redo n at) old new a name = touched_along forward_of a.0.count old.steps.undone (doc_of old) name
touched_in (Err error.NoMemory) e old new a name = false

-- what the clause `spares` of `layout` says, of a call with the number k that answered so
abbrev pub SparesBy : ℕ → Result Layout NoMemory → (log log' : Option (List Event)) (old new : Standing) → Type 0
SparesBy k r log log' old new =
    (touches : Touches) (before : Option (List Event)) → SparesDue touches before log k old.page → SparesAfter touches before log' new.page r

-- Calls one after another, each as its contract says, from an engine and a log on; these names were
-- touched since the layout before. What `touches` says of the number of a layout is what was
-- touched since the layout before it. Only the last layout may have wanted memory.
abbrev pub AreCalls : Touches → (List ℕ → Bool) → Standing → Option (List Event) → List Call → Type 0
AreCalls touches touched s log [] = ⊤
AreCalls touches touched s log (applied e r next ∷ calls) =
    (a : Applies r e s next) × AreCalls touches (λ name. touched name || touched_in r e s next a name) next log calls
AreCalls touches touched s log (laid k (Ok layout) next log' ∷ calls) =
    ((name : List ℕ) → touches k name ≡ touched name) × (SparesBy k (Ok layout) log log' s next × AreCalls touches (λ name. false) next log' calls)
AreCalls touches touched s log (laid k (Err error) next log' ∷ calls) =
    ((name : List ℕ) → touches k name ≡ touched name) × (SparesBy k (Err error) log log' s next × (calls ≡ []))

-- what the ruler was told by their end
abbrev pub log_after : Option (List Event) → List Call → Option (List Event)
log_after log [] = log
log_after log (applied e r next ∷ calls) = log_after log calls
log_after log (laid k r next log' ∷ calls) = log_after log' calls
