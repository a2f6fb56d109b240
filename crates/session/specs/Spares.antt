-- What a ruler was told spares the leaves, and what the leaves of a document keep is the last of it.
use Rattle.std.specs.Prelude.{ℕ, Bool, List, [], ◌∷◌, ◌++◌, Option, Result, Ok, Err}
use Rattle.text_scan.specs.declared.line.Line.{Line}
use Rattle.outside.specs.Told.{Adds}
use Rattle.outside.specs.declared.event.Event.{Event}
use Rattle.outside.specs.declared.event.Event.TheVariants.{Begin}
use Rattle.placing.specs.Kept.{kept_at}
use Rattle.placing.specs.Nodes.{bare}
use Rattle.page_tree.specs.Pages.{Held}
use Rattle.sparing.specs.Memory.{Recalls}
use Rattle.sparing.specs.Sparing.{Touches, Sparing}
use Rattle.session.specs.declared.answer.Progress.{Progress}
use Rattle.session.specs.Input.{AreFirst}
use Rattle.session.specs.Standing.{Standing}
use Rattle.session.specs.Touched.{FollowsLines}

module _ (touches : Touches) (before now : Option (List Event)) where
  -- no leaf was measured needlessly in what was told
  pub record Spares : Type 0 where
    pub events : List Event
    pub added : Adds before now events
    pub sparing : Sparing touches events

  -- no leaf was measured needlessly in what was told, and what the leaves of a page keep is the last of what was measured for them
  pub record SparesPage (page : Held) : Type 0 where
    pub events : List Event
    pub added : Adds before now events
    pub sparing : Sparing touches events
    pub recalls : Recalls touches (bare page.nodes.tree) events (kept_at page.nodes.tree)

  -- what was told spares the leaves of a page, and they keep the last of it, once the layout with the number k begins
  pub record SparesDue (k : ℕ) (page : Held) : Type 0 where
    pub events : List Event
    pub added : Adds before now events
    pub sparing : Sparing touches events
    pub recalls : Recalls touches (bare page.nodes.tree) (events ++ Begin k ∷ []) (kept_at page.nodes.tree)

  -- what is left of it where memory was wanting
  abbrev pub SparesAfter : {T E : Type 0} → Held → Result T E → Type 0
  SparesAfter page (Ok x) = SparesPage page
  SparesAfter page (Err e) = Spares

  -- what the first layout leaves
  abbrev pub SparesFirst : {E : Type 0} → Result Standing E → Type 0
  SparesFirst (Ok engine) = SparesPage engine.page
  SparesFirst (Err e) = Spares

  -- what is known where a script begins
  abbrev pub SparesStart : {E : Type 0} → Result Progress E → Type 0
  SparesStart (Ok progress) = SparesPage progress.engine.page
  SparesStart (Err e) = Spares

-- what was told in a run that took some lines of its input
pub record SparesInput (left : Option (List ℕ)) (before now : Option (List Event)) : Type 0 where
  pub given : List Line
  pub first : AreFirst left given
  pub spared : (touches : Touches) → FollowsLines touches given → Spares touches before now
