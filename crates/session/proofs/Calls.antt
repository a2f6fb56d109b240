-- What calls on an engine leave for the leaves, one after another.
use Rattle.std.proofs.Common.{◌≡◌, refl, ap, sym, subst, ◌∙◌, ℕ, ◌||◌, Bool, true, false, List, [], ◌∷◌, ◌++◌, Option, Some, None, Result, Ok, Err, inl, inr}
use Rattle.std.proofs.lemmas.Bool.{false≢true}
use Rattle.std.specs.Prelude.{◌⊎◌, map}
use Rattle.outside.specs.declared.event.Event.{Event}
use Rattle.outside.specs.declared.event.Event.TheVariants.{Begin}
use Rattle.outside.specs.declared.event.Width.{Width}
use Rattle.outside.proofs.Laws.{adds_none}
use Rattle.doc_text.specs.declared.edit.Edit.{Edit}
use Rattle.doc_text.specs.declared.edit.Edit.TheVariants as edit
use Rattle.node_arena.specs.declared.number.NodeId.{NodeId}
use Rattle.node_arena.specs.Numbers.{Part, part_at, value_of}
use Rattle.placing.specs.declared.node.Answer.{Answer}
use Rattle.placing.specs.declared.node.Node.{Node}
use Rattle.placing.specs.Keeping.{KeepsNone}
use Rattle.placing.specs.Kept.{kept_at, kept_of}
use Rattle.placing.specs.Nodes.{bare, sight_at}
use Rattle.page_tree.specs.Pages.{Held}
use Rattle.page_tree.specs.declared.error.EditError.{EditError}
use Rattle.page_tree.specs.declared.error.EditError.TheVariants as error
use Rattle.sparing.specs.Memory.{AreLeafQueries, Recalls, Remembers, since, width_of}
use Rattle.sparing.specs.Sparing.{Touches}
use Rattle.sparing.proofs.Layouts.{edit_recalls}
use Rattle.sparing.proofs.Memory.{remembers_none}
use Rattle.tree_rules.specs.declared.query.Query.{Query}
use Rattle.session.specs.Calls.{Call, AreCalls, applied, laid, log_after, touched_in}
use Rattle.session.specs.Engine.{Applies, KeepsUntouched}
use Rattle.session.specs.Spares.{Spares, SparesDue, SparesPage}
use Rattle.session.specs.Standing.{Standing}
use Rattle.session.proofs.LeafNames.{each_there}
use Rattle.session.proofs.Spares.{spares_due_by, spares_some}
use Rattle.session.proofs.Traces.{keeps_both}

or_false : (a : Bool) → (a || false) ≡ a
or_false true = refl
or_false false = refl

-- an engine that kept nothing
none_kept : (page : Held) → KeepsNone page.nodes.tree → (n : NodeId) → kept_at page.nodes.tree n ≡ []
unfolding kept_at
none_kept page none n = at (part_at page.nodes.tree n) refl
  where
    at : (o : Option (Part Node)) → part_at page.nodes.tree n ≡ o → kept_at page.nodes.tree n ≡ []
    at None e = ap (λ (o : Option (Part Node)). kept_of (value_of o)) e
    at (Some q) e = ap (λ (o : Option (Part Node)). kept_of (value_of o)) e ∙ each_there (λ x. x.1.kept ≡ []) page.nodes.tree n q none e

nothing_told : (touches : Touches) (name : List ℕ) → Remembers (since touches name [] []) []
unfolding since
nothing_told touches name = remembers_none

spares_first : (touches : Touches) (log : Option (List Event)) (page : Held) → KeepsNone page.nodes.tree → SparesPage touches log log page
spares_first touches log page none =
    record {
      events = [];
      added = adds_none log;
      sparing = tt;
      recalls = λ n leaf.
          record {
            widths = subst (λ (l : List (Query × Answer)). Remembers (since touches (sight_at (bare page.nodes.tree) n).label.name [] []) (map width_of l)) (sym (none_kept page none n)) (nothing_told touches (sight_at (bare page.nodes.tree) n).label.name);
            queries = subst (λ (l : List (Query × Answer)). AreLeafQueries l) (sym (none_kept page none n)) tt;
          };
    }

module _ (touches : Touches) (before : Option (List Event)) where
  -- What is known between two calls: of the page as it was laid out last, and that what was touched
  -- since then is let go and no more. Nothing was where it is the same page.
  record Since (now : Option (List Event)) (touched : List ℕ → Bool) (page : Held) : Type 0 where
    last : Held
    spares : SparesPage touches before now last
    kept : ((last ≡ page) × ((name : List ℕ) → touched name ≡ false)) ⊎ KeepsUntouched touched last page

  since_laid : (now : Option (List Event)) (page : Held) → SparesPage touches before now page → Since now (λ name. false) page
  since_laid now page p = record { last = page; spares = p; kept = inl (refl, λ name. refl) }

  module _ (now : Option (List Event)) (touched : List ℕ → Bool) (old new : Held) (p : Since now touched old) where
    since_more : (more : List ℕ → Bool) → KeepsUntouched more old new → Since now (λ name. touched name || more name) new
    since_more more k = record { last = p.last; spares = p.spares; kept = inr (by_kept p.kept) }
      where
        by_kept : ((p.last ≡ old) × ((name : List ℕ) → touched name ≡ false)) ⊎ KeepsUntouched touched p.last old → KeepsUntouched (λ name. touched name || more name) p.last new
        by_kept (inl s) = subst (λ (f : List ℕ → Bool). KeepsUntouched f p.last new) (λ i. λ (name : List ℕ). sym (s.1 name) i || more name) (subst (λ (h : Held). KeepsUntouched more h new) (sym s.0) k)
        by_kept (inr s) = keeps_both touched more p.last old new s k

    since_same : new ≡ old → Since now (λ name. touched name || false) new
    since_same e = subst (λ (f : List ℕ → Bool). Since now f new) (λ i. λ (name : List ℕ). sym (or_false (touched name)) i) (subst (Since now touched) (sym e) p)

  -- a layout is due
  since_due : (now : Option (List Event)) (touched : List ℕ → Bool) (k : ℕ) (page : Held) → Since now touched page → ((name : List ℕ) → touches k name ≡ touched name) → SparesDue touches before now k page
  since_due now touched k page p agrees = by_kept p.kept
    where
      untouched : ((name : List ℕ) → touched name ≡ false) → SparesDue touches before now k p.last
      untouched none =
          record {
            events = p.spares.events;
            added = p.spares.added;
            sparing = p.spares.sparing;
            recalls = edit_recalls touches (bare p.last.nodes.tree) (bare p.last.nodes.tree) (kept_at p.last.nodes.tree) (kept_at p.last.nodes.tree) p.spares.events k p.spares.recalls
                (λ n leaf. ((λ t. absurd (false≢true (sym (agrees (sight_at (bare p.last.nodes.tree) n).label.name ∙ none (sight_at (bare p.last.nodes.tree) n).label.name) ∙ t))), (λ t. ((leaf, refl), refl))));
          }

      by_kept : ((p.last ≡ page) × ((name : List ℕ) → touched name ≡ false)) ⊎ KeepsUntouched touched p.last page → SparesDue touches before now k page
      by_kept (inl s) = subst (SparesDue touches before now k) s.0 (untouched s.1)
      by_kept (inr s) = spares_due_by touches before now k p.last page touched p.spares agrees s

  -- ---- one call after another

  since_applied : (r : Result (Unit {0}) EditError) (e : Edit) (old new : Standing) (now : Option (List Event)) (touched : List ℕ → Bool) → Since now touched old.page → (a : Applies r e old new) → Since now (λ name. touched name || touched_in r e old new a name) new.page
  since_applied (Ok done) e old new now touched p a = since_more now touched old.page new.page p (touched_in (Ok done) e old new a) a.spreads.kept
  since_applied (Err (error.Refused fault)) e old new now touched p a = since_same now touched old.page new.page p a.1.page
  since_applied (Err error.NoMemory) (edit.Undo n at) old new now touched p a = since_more now touched old.page new.page p (touched_in (Err error.NoMemory) (edit.Undo n at) old new a) a.0.moved.spreads.kept
  since_applied (Err error.NoMemory) (edit.Redo n at) old new now touched p a = since_more now touched old.page new.page p (touched_in (Err error.NoMemory) (edit.Redo n at) old new a) a.0.moved.spreads.kept
  since_applied (Err error.NoMemory) (edit.Set named settings) old new now touched p a = since_same now touched old.page new.page p a.page
  since_applied (Err error.NoMemory) (edit.Unset named props) old new now touched p a = since_same now touched old.page new.page p a.page
  since_applied (Err error.NoMemory) (edit.Insert parent index at named node) old new now touched p a = since_same now touched old.page new.page p a.page
  since_applied (Err error.NoMemory) (edit.Remove named) old new now touched p a = since_same now touched old.page new.page p a.page
  since_applied (Err error.NoMemory) (edit.Move named parent index at) old new now touched p a = since_same now touched old.page new.page p a.page
  since_applied (Err error.NoMemory) (edit.Content named kind) old new now touched p a = since_same now touched old.page new.page p a.page
  since_applied (Err error.NoMemory) (edit.Viewport width height) old new now touched p a = since_same now touched old.page new.page p a.page
  since_applied (Err error.NoMemory) (edit.Hit x y) old new now touched p a = since_same now touched old.page new.page p a.page

  since_calls : (calls : List Call) (s : Standing) (now : Option (List Event)) (touched : List ℕ → Bool) → Since now touched s.page → AreCalls touches touched s now calls → Spares touches before (log_after now calls)
  since_calls [] s now touched p a = spares_some touches before now p.last p.spares
  since_calls (applied e r next ∷ calls) s now touched p a = since_calls calls next now (λ name. touched name || touched_in r e s next a.0 name) (since_applied r e s next now touched p a.0) a.1
  since_calls (laid k (Ok layout) next log ∷ calls) s now touched p a = since_calls calls next log (λ name. false) (since_laid log next.page (a.1.0 touches before (since_due now touched k s.page p a.0))) a.1.1
  since_calls (laid k (Err error) next log ∷ calls) s now touched p a = subst (λ (l : List Call). Spares touches before (log_after log l)) (sym a.1.1) (a.1.0 touches before (since_due now touched k s.page p a.0))

pub calls_spare : (touches : Touches) (s : Standing) (log : Option (List Event)) (calls : List Call) → KeepsNone s.page.nodes.tree → AreCalls touches (λ name. false) s log calls → Spares touches log (log_after log calls)
calls_spare touches s log calls none a = since_calls touches log calls s log (λ name. false) (since_laid touches log log s.page (spares_first touches log s.page none)) a
