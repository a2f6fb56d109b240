-- What holds of tracks and items between two steps.
use Rattle.std.specs.Prelude.{◌≡◌, ℕ, ℤ, pos, ◌+ℤ◌, ◌≤ℤ◌, ◌<ℤ◌, Bool, List, [], ◌∷◌, None, if◌then◌else◌}
use Rattle.lunit.specs.declared.item.Item.{Item}
use Rattle.part_rules.specs.Tracks.{Track, BaseStep, LimitStep, minimum, limited, low, high, argument_of, mark_endless, raised_limit_by}
use Rattle.track_sizing.specs.declared.kinds.Affected.{Affected}
use Rattle.track_sizing.specs.declared.kinds.Kind.{Kind}
use Rattle.track_sizing.specs.declared.item.Asks.{Asks}
use Rattle.track_sizing.specs.declared.item.Asks.TheVariants as asks
use Rattle.track_sizing.specs.Kinds.{kind_of, affected_of}
use Rattle.track_sizing.specs.Here.{rises_of}

-- tracks that follow each other from this coordinate
abbrev pub ArePlaced : ℤ → List Track → Type 0
ArePlaced first [] = Unit {0}
ArePlaced first (t ∷ rest) = (t.at ≡ first) × ArePlaced (first +ℤ pos 1) rest

-- nothing that the item at hand has given, and no planned increase below 0
abbrev pub IsReady : Track → Type 0
IsReady t = (t.incurred ≡ pos 0) × (pos 0 ≤ℤ t.planned)

abbrev pub AreReady : List Track → Type 0
AreReady [] = Unit {0}
AreReady (t ∷ rest) = IsReady t × AreReady rest

-- an item that spans some of so many tracks from this coordinate, and no others
pub record IsIn (first : ℤ) (n : ℕ) (i : Item) : Type 0 where
  pub start : first ≤ℤ i.span.start
  pub some : i.span.start <ℤ i.span.end
  pub end : i.span.end ≤ℤ (first +ℤ pos n)

abbrev pub AreIn : ℤ → ℕ → List Item → Type 0
AreIn first n [] = Unit {0}
AreIn first n (i ∷ rest) = IsIn first n i × AreIn first n rest

-- what an item asks for, from all tracks
abbrev pub asks_in : Bool → ℤ → Asks → List Track → Item → ℤ
asks_in definite gap asks.Minimum = λ ts i. if definite then minimum gap ts i else limited gap low ts i
asks_in definite gap asks.Low = λ ts. low
asks_in definite gap asks.LimitedHigh = limited gap high
asks_in definite gap asks.High = λ ts. high

-- a step on base sizes
abbrev pub base_step_of : Affected → Kind → Bool → ℤ → Asks → BaseStep
base_step_of a receives definite gap asks = record
    { crossing = a.crossing; affected = affected_of a; receives = kind_of receives; asks = asks_in definite gap asks }

-- a step on growth limits
abbrev pub limit_step_in : Affected → Bool → LimitStep
limit_step_in a second =
    record {
      crossing = a.crossing;
      affected = affected_of a;
      rises = rises_of second;
      end = λ t. if second then argument_of t else None;
      asks = λ (i : Item). if second then i.high else i.low;
    }

-- tracks from this coordinate on, between two items
abbrev pub AreSet : ℤ → List Track → Type 0
AreSet first [] = Unit {0}
AreSet first (t ∷ rest) = ((t.at ≡ first) × IsReady t) × AreSet (first +ℤ pos 1) rest

-- a growth limit that is raised, with its mark for the next step
abbrev pub marked_limit_by : (Track → Bool) → List Item → Track → Track
marked_limit_by affected items t = mark_endless t (raised_limit_by affected items t)
