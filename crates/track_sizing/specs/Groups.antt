-- The steps for a group of items.
use Rattle.std.specs.Prelude.{◌≡◌, ℤ, Bool, List, [], ◌∷◌, ◌++◌, if◌then◌else◌}
use Rattle.part_rules.specs.Tracks.{BaseStep, Track, close_limit, raise_limit, raised_base, unmarked}
use Rattle.track_sizing.specs.declared.kinds.Kind.{Kind}
use Rattle.track_sizing.specs.declared.kinds.Kind.TheVariants as kind
use Rattle.track_sizing.specs.declared.kinds.Affected.{Affected}
use Rattle.track_sizing.specs.declared.item.Asks.TheVariants as asks
use Rattle.track_sizing.specs.Placed.{base_step_of}

abbrev pub affecting : Kind → Bool → Affected
affecting k crossing = record { kind = k; crossing = crossing }

-- the last steps for base sizes
abbrev pub last_steps_of : Bool → Bool → ℤ → Bool → List BaseStep
last_steps_of definite max gap crossing =
    (if max then base_step_of (affecting kind.AutoOrMaxContentLeast crossing) kind.MaxContentMost definite gap asks.LimitedHigh ∷ [] else [])
    ++ base_step_of (affecting kind.MaxContentLeast crossing) kind.MaxContentMost definite gap asks.High
    ∷ []

-- the steps for base sizes, in their order
abbrev pub base_steps_of : Bool → Bool → ℤ → Bool → List BaseStep
base_steps_of definite max gap crossing =
    base_step_of (affecting kind.IntrinsicLeast crossing) kind.IntrinsicMost definite gap asks.Minimum
    ∷ base_step_of (affecting kind.ContentLeast crossing) kind.IntrinsicMost definite gap asks.Low
    ∷ last_steps_of definite max gap crossing

-- a track after the steps for a group whose items give it nothing
abbrev pub passed : Track → Track
passed t = unmarked (raise_limit (raised_base t))

-- a track after such steps, with a growth limit that has an end
abbrev pub passed_closed : Track → Track
passed_closed t = close_limit (passed t)

-- tracks of which each stays as it is where its base size is raised
abbrev pub AreAtBase : List Track → Type 0
AreAtBase [] = Unit {0}
AreAtBase (t ∷ ts) = (raised_base t ≡ t) × AreAtBase ts
