-- Tracks and items of which the steps for groups change nothing.
use Rattle.std.specs.Prelude.{◌≡◌, ℤ, pos, ◌≤ℤ◌, true, false, List, [], ◌∷◌}
use Rattle.lunit.specs.Units.{top}
use Rattle.lunit.specs.declared.item.Item.{Item}
use Rattle.part_rules.specs.Tracks.{Track, close_limit, flexible, limit_of, raise_limit, raised_base}
use Rattle.track_sizing.specs.Here.{IsIdle}
use Rattle.track_sizing.specs.Reached.{Stays}
use Rattle.track_sizing.specs.Spans.{is_wide}

-- a track that stays as it is where its base size and its growth limit are raised, marked and closed
pub record IsSure (t : Track) : Type 0 where
  pub base : raised_base t ≡ t
  pub limit : raise_limit t ≡ t
  pub stays : Stays t
  pub closed : close_limit t ≡ t
  pub base_some : pos 0 ≤ℤ t.base
  pub limit_some : pos 0 ≤ℤ limit_of t

-- a track that stays as it is there, and is not flexible
pub record IsCalm (t : Track) : Type 0 where
  pub sure : IsSure t
  pub fixed : flexible t ≡ false

-- each of them
abbrev pub AreCalm : List Track → Type 0
AreCalm [] = Unit {0}
AreCalm (t ∷ ts) = IsCalm t × AreCalm ts

-- items of which those of two tracks or more ask for nothing
abbrev pub IsQuiet : ℤ → Item → Type 0
IsQuiet gap i = is_wide i ≡ true → IsIdle gap i

abbrev pub AreQuietItems : ℤ → List Item → Type 0
AreQuietItems gap [] = Unit {0}
AreQuietItems gap (i ∷ rest) = IsQuiet gap i × AreQuietItems gap rest

-- a track that is not flexible and keeps its base size and its growth limit in a step that gives it nothing: one without end becomes
-- the base size
pub record IsSteady (t : Track) : Type 0 where
  pub some : pos 0 ≤ℤ t.base
  pub reached : t.base ≤ℤ limit_of t
  pub units : limit_of t ≤ℤ top
  pub planned : t.planned ≡ pos 0
  pub fixed : flexible t ≡ false

abbrev pub AreSteady : List Track → Type 0
AreSteady [] = Unit {0}
AreSteady (t ∷ ts) = IsSteady t × AreSteady ts

-- items and tracks of which the steps for groups change no size
pub record AreUntouched (gap : ℤ) (items : List Item) (ts : List Track) : Type 0 where
  pub quiet : AreQuietItems gap items
  pub steady : AreSteady ts
