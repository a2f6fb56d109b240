-- What a run tells its ruler spares the leaves, step by step.
use Rattle.std.proofs.Common.{◌≡◌, refl, ap, sym, subst, ◌∙◌, ℕ, Bool, List, [], ◌∷◌, ◌++◌, Option, Some, None, Result, Ok, Err, IfSome, append-nil}
use Rattle.std.proofs.lemmas.Bool.{false≢true}
use Rattle.std.specs.Prelude.{IsErr, OnOk, OnErr, if◌then◌else◌}
use Rattle.text_scan.specs.declared.line.Line.{Line}
use Rattle.text_scan.specs.Lines.{lines_of}
use Rattle.outside.specs.Told.{Adds, Stays}
use Rattle.outside.specs.declared.event.Event.{Event}
use Rattle.outside.specs.declared.event.Event.TheVariants.{Begin}
use Rattle.outside.specs.declared.tally.Tally.{Tally}
use Rattle.outside.proofs.Laws.{adds_more, adds_none, adds_stays}
use Rattle.node_arena.specs.declared.number.NodeId.{NodeId}
use Rattle.node_arena.specs.Numbers.{IsDistinct, Part, part_at, top_numbers, value_of}
use Rattle.tree_rules.specs.Labels as rules
use Rattle.tree_rules.specs.Queries.{is_container}
use Rattle.doc_text.specs.declared.document.Doc.{Doc}
use Rattle.doc_text.specs.Named as plain
use Rattle.placing.specs.declared.node.Node.{Node}
use Rattle.placing.specs.Keeping.{KeepsNone}
use Rattle.placing.specs.Kept.{kept_at, kept_of}
use Rattle.placing.specs.Nodes.{bare, label_of_bare, sight_at}
use Rattle.placing.specs.Walks.{State, Walk, events_of, state}
use Rattle.placing.proofs.Bares.{distinct_bare}
use Rattle.box_layout.specs.Paths.{IsAsked, IsCutShort}
use Rattle.page_tree.specs.Pages.{Held, document_of}
use Rattle.sparing.specs.Memory.{AreNamed, IsLeaf, Recalls}
use Rattle.sparing.specs.Sparing.{Touches}
use Rattle.sparing.proofs.Entries.{spared_more}
use Rattle.sparing.proofs.Layouts.{IsLeafAfter, edit_recalls, first_recalls, layout_spares, stopped_spares}
use Rattle.session.specs.Input.{AreFirst}
use Rattle.page_tree.specs.Reach.{KeepsOn}
use Rattle.session.specs.Courses.{touched_by}
use Rattle.session.specs.Spares.{Spares, SparesAfter, SparesDue, SparesFirst, SparesInput, SparesPage}
use Rattle.session.specs.Engine.{IsAsBefore, KeepsUntouched, Spreads}
use Rattle.session.specs.Standing.{Standing, IsSound, course_of}
use Rattle.session.specs.Touched.{Agrees, touched_lines}
use Rattle.session.proofs.Follows.{follows_all}
use Rattle.session.proofs.LeafNames.{each_there, label_there, leaf_there, leaves_named}
use Rattle.session.proofs.Measured.{whole_tree}

-- ---- a layout

module _ (touches : Touches) (before log log' : Option (List Event)) (old new : Held) (tally tally' : Tally) (passes passes' : ℕ) (root : NodeId) (top : top_numbers old.nodes.tree ≡ root ∷ []) (distinct : IsDistinct old.nodes.tree) (sound : IsSound old) (p : SparesPage touches before log old) where
  from : State
  from = state old.nodes tally passes log

  to : State
  to = state new.nodes tally' passes' log'

  page_named : AreNamed (bare old.nodes.tree)
  page_named = leaves_named old.nodes.tree (subst plain.IsDistinct (sym (whole_tree old root top)) sound.valid.shaped.distinct)

  page_distinct : IsDistinct (bare old.nodes.tree)
  page_distinct = distinct_bare old.nodes.tree distinct

  spares_walk : Walk (IsAsked (bare old.nodes.tree) old.width old.height) 0 [] (state old.nodes tally passes log) (state new.nodes tally' passes' log') → bare new.nodes.tree ≡ bare old.nodes.tree → SparesPage touches before log' new
  spares_walk w same =
      let found = layout_spares touches (state old.nodes tally passes log) (state new.nodes tally' passes' log') old.width old.height page_named page_distinct p.events p.recalls w in
      let events = events_of (bare old.nodes.tree) w.added in
      record {
        events = p.events ++ events;
        added = adds_more before log log' p.events (events ++ []) (p.events ++ events) p.added w.log (ap (λ (l : List Event). p.events ++ l) (sym (append-nil events)));
        sparing = spared_more touches [] p.events events p.sparing found.spared;
        recalls = subst (λ b. Recalls touches b (p.events ++ events) (kept_at new.nodes.tree)) (sym same) found.recalls;
      }

  spares_cut : IsCutShort (bare old.nodes.tree) old.width old.height (state old.nodes tally passes log) (state new.nodes tally' passes' log') → Spares touches before log'
  spares_cut c =
      let events = events_of (bare old.nodes.tree) c.walk.added ++ c.rest in
      record {
        events = p.events ++ events;
        added = adds_more before log log' p.events events (p.events ++ events) p.added c.walk.log refl;
        sparing = spared_more touches [] p.events events p.sparing (stopped_spares touches (state old.nodes tally passes log) (state new.nodes tally' passes' log') old.width old.height page_named page_distinct p.events p.recalls c);
      }

  pub spares_laid : {T E : Type 0} (r : Result T E) → bare new.nodes.tree ≡ bare old.nodes.tree → OnOk r (Walk (IsAsked (bare old.nodes.tree) old.width old.height) 0 [] (state old.nodes tally passes log) (state new.nodes tally' passes' log'))
      → OnErr r (IsCutShort (bare old.nodes.tree) old.width old.height (state old.nodes tally passes log) (state new.nodes tally' passes' log')) → SparesAfter touches before log' new r
  spares_laid (Ok x) same w c = spares_walk w same
  spares_laid (Err e) same w c = spares_cut c

module _ (touches : Touches) (before log log' : Option (List Event)) (k : ℕ) (page : Held) (p : SparesDue touches before log k page) where
  -- its begin
  pub spares_begun : Adds log log' (Begin k ∷ []) → SparesPage touches before log' page
  spares_begun a =
      record {
        events = p.events ++ Begin k ∷ [];
        added = adds_more before log log' p.events (Begin k ∷ []) (p.events ++ Begin k ∷ []) p.added a refl;
        sparing = spared_more touches [] p.events (Begin k ∷ []) p.sparing (tt, tt);
        recalls = p.recalls;
      }

  pub spares_unbegun : Stays log log' → Spares touches before log'
  spares_unbegun s = record { events = p.events; added = adds_stays before log log' p.events p.added s; sparing = p.sparing }

-- ---- what is left where a run ends

pub spares_some : (touches : Touches) (before now : Option (List Event)) (page : Held) → SparesPage touches before now page → Spares touches before now
spares_some touches before now page p = record { events = p.events; added = p.added; sparing = p.sparing }

-- an answer that is none
pub spares_err : {T E : Type 0} (touches : Touches) (before now : Option (List Event)) (page : Held) (r : Result T E) → IsErr r → Spares touches before now → SparesAfter touches before now page r
spares_err touches before now page (Ok x) e p = absurd (false≢true e)
spares_err touches before now page (Err f) e p = p

pub spares_any : {T E : Type 0} (touches : Touches) (before now : Option (List Event)) (page : Held) (r : Result T E) → SparesPage touches before now page → SparesAfter touches before now page r
spares_any touches before now page (Ok x) p = p
spares_any touches before now page (Err f) p = spares_some touches before now page p

-- the first layout
pub spares_not : {E : Type 0} (touches : Touches) (before now : Option (List Event)) (r : Result Standing E) → IsErr r → Spares touches before now → SparesFirst touches before now r
spares_not touches before now (Ok x) e p = absurd (false≢true e)
spares_not touches before now (Err f) e p = p

pub spares_none : (touches : Touches) (log : Option (List Event)) → Spares touches log log
spares_none touches log = record { events = []; added = adds_none log; sparing = tt }

-- ---- the first layout

pub spares_new : (touches : Touches) (log : Option (List Event)) (page : Held) → KeepsNone page.nodes.tree → SparesDue touches log log 0 page
unfolding kept_at
spares_new touches log page none =
    record { events = []; added = adds_none log; sparing = tt; recalls = first_recalls touches (bare page.nodes.tree) (kept_at page.nodes.tree) 0 (λ n. at n (part_at page.nodes.tree n) refl) }
  where
    at : (n : NodeId) (o : Option (Part Node)) → part_at page.nodes.tree n ≡ o → kept_at page.nodes.tree n ≡ []
    at n None e = ap (λ (o : Option (Part Node)). kept_of (value_of o)) e
    at n (Some q) e = ap (λ (o : Option (Part Node)). kept_of (value_of o)) e ∙ each_there (λ x. x.1.kept ≡ []) page.nodes.tree n q none e

-- ---- an edit

module _ (touches : Touches) (before now : Option (List Event)) (k : ℕ) (old new : Held) (touched : List ℕ → Bool) (p : SparesPage touches before now old) (agrees : (name : List ℕ) → touches k name ≡ touched name) where
  leaf_after : KeepsUntouched touched old new → (n : NodeId) → IsLeaf (bare new.nodes.tree) n
      → IsLeafAfter (touches k (sight_at (bare new.nodes.tree) n).label.name) (bare old.nodes.tree) (bare new.nodes.tree) (kept_at old.nodes.tree) (kept_at new.nodes.tree) n
  unfolding kept_at label_of_bare
  leaf_after kept n leaf =
      let here = leaf_there new.nodes.tree n leaf in
      let v = here.part.0 in
      let on = each_there (λ x. KeepsOn (touched x.1.name) old.nodes.tree x) new.nodes.tree n here.part kept here.there in
      let name : (sight_at (bare new.nodes.tree) n).label.name ≡ v.name = ap (λ (x : rules.Label). x.name) here.label in
      let reached : touches k (sight_at (bare new.nodes.tree) n).label.name ≡ touched v.name = ap (touches k) name ∙ agrees v.name in
      let held : kept_at new.nodes.tree n ≡ (if touched v.name then [] else kept_at old.nodes.tree n) = ap (λ (o : Option (Part Node)). kept_of (value_of o)) here.there ∙ on.kept in (
        (λ t. held ∙ ap (λ (b : Bool). if b then [] else kept_at old.nodes.tree n) (sym reached ∙ t)),
        λ t.
            let stood = on.stood (sym reached ∙ t) in
            let before_label = label_there old.nodes.tree n stood.0 stood.1.0 in (
              (
                ap (λ (x : rules.Label). is_container x.kind) before_label ∙ ap is_container stood.1.1.1 ∙ sym (ap (λ (x : rules.Label). is_container x.kind) here.label) ∙ leaf,
                ap (λ (x : rules.Label). x.name) before_label ∙ stood.1.1.0 ∙ sym name,
              ),
              held ∙ ap (λ (b : Bool). if b then [] else kept_at old.nodes.tree n) (sym reached ∙ t),
            ),
      )

  pub spares_due_by : KeepsUntouched touched old new → SparesDue touches before now k new
  spares_due_by kept =
      record {
        events = p.events;
        added = p.added;
        sparing = p.sparing;
        recalls = edit_recalls touches (bare old.nodes.tree) (bare new.nodes.tree) (kept_at old.nodes.tree) (kept_at new.nodes.tree) p.events k p.recalls (leaf_after kept);
      }

-- that of a line
pub spares_due : (touches : Touches) (before now : Option (List Event)) (k : ℕ) (old new : Standing) (line : Line) → SparesPage touches before now old.page → Agrees touches k (course_of old) line
    → Spreads (touched_by (course_of old) line) old.page new.page → SparesDue touches before now k new.page
spares_due touches before now k old new line p agrees spreads = spares_due_by touches before now k old.page new.page (touched_by (course_of old) line) p agrees spreads.kept

-- where nothing is laid out the page is as it was
pub said_same : (old new : Standing) → IsAsBefore old new → (touches : Touches) (before now : Option (List Event)) → SparesPage touches before now old.page → SparesPage touches before now new.page
said_same old new a touches before now p = subst (SparesPage touches before now) (sym a.page) p

-- ---- the whole input

pub spares_input : (left : Option (List ℕ)) (before now : Option (List Event)) → SparesInput left before now → IfSome left (λ b. Spares (touched_lines (lines_of b)) before now)
spares_input None before now p = tt
spares_input (Some b) before now p = p.spared (touched_lines (lines_of b)) (follows_all p.given p.first.rest (lines_of b) p.first.parts)

-- nothing was told
pub spares_unread : (left : Option (List ℕ)) (log : Option (List Event)) → IfSome left (λ b. Spares (touched_lines (lines_of b)) log log)
spares_unread None log = tt
spares_unread (Some b) log = spares_none (touched_lines (lines_of b)) log

pub input_none : (left : Option (List ℕ)) (before now : Option (List Event)) → ((touches : Touches) → Spares touches before now) → SparesInput left before now
input_none left before now h = record { given = []; first = none left; spared = λ touches f. h touches }
  where
    none : (left : Option (List ℕ)) → AreFirst left []
    none None = tt
    none (Some b) = record { rest = lines_of b; parts = refl }

pub ruleset sparing = (spares_some, spares_none)
