-- A group whose items span all tracks, of which none has another function than `auto` or a growth limit: the tracks gain in equal parts.
use Rattle.std.specs.Prelude.{◌≡◌, ◌≤ℤ◌, ◌-◌, ℤ, pos, ◌+ℤ◌, ◌-ℤ◌, ◌*ℤ◌, Bool, true, false, List, [], ◌∷◌, map, length, Some, None, if◌then◌else◌}
use Rattle.std.specs.Int.{int_max}
use Rattle.lunit.specs.Units.{IsUnits, clamp}
use Rattle.lunit.specs.declared.item.Item.{Item}
use Rattle.part_rules.specs.declared.track.Least.TheVariants as least
use Rattle.part_rules.specs.declared.track.Most.TheVariants as most
use Rattle.part_rules.specs.Lists.{sum_of, zipped}
use Rattle.part_rules.specs.Sharing.{shares}
use Rattle.part_rules.specs.Tracks.{Track, base_of, grow_base, limit_of, without_end}
use Rattle.track_sizing.specs.declared.even.Gains.{Gains}
use Rattle.track_sizing.specs.declared.even.Gains.TheVariants as gains
use Rattle.track_sizing.specs.declared.item.Asks.{Asks}
use Rattle.track_sizing.specs.declared.item.Asks.TheVariants as asks
use Rattle.track_sizing.specs.Alone.{plain_asks, plain_least}

-- a track that has no other function than `auto`
pub record IsPlain (t : Track) : Type 0 where
  pub min : t.rule.least ≡ least.Auto
  pub max : t.rule.most ≡ most.Auto

-- a track that has no other function than `auto`, no growth limit, no planned increase and no mark
pub record IsOpen (t : Track) : Type 0 where
  pub plain : IsPlain t
  pub limit : t.limit ≡ None
  pub planned : t.planned ≡ pos 0
  pub units : IsUnits t.base
  pub unmarked : t.endless ≡ false

abbrev pub AreOpen : List Track → Type 0
AreOpen [] = Unit {0}
AreOpen (t ∷ ts) = IsOpen t × AreOpen ts

-- a track that is so and has the base size 0
pub record IsFresh (t : Track) : Type 0 where
  pub opens : IsOpen t
  pub none : t.base ≡ pos 0

abbrev pub AreFresh : List Track → Type 0
AreFresh [] = Unit {0}
AreFresh (t ∷ ts) = IsFresh t × AreFresh ts

-- ---- sums of sizes

-- sizes that are not below 0
abbrev pub AreSome : (Track → ℤ) → List Track → Type 0
AreSome size [] = Unit {0}
AreSome size (t ∷ ts) = (pos 0 ≤ℤ size t) × AreSome size ts

-- the sum of such sizes, which is a length
pub record HaveSum (size : Track → ℤ) (ts : List Track) (sum : ℤ) : Type 0 where
  pub some : AreSome size ts
  pub same : sum ≡ sum_of (map size ts)
  pub units : IsUnits sum

-- ---- what the items of the group need

-- what an item asks for of such tracks
abbrev pub even_asks : Bool → Asks → Item → ℤ
even_asks definite asks.Minimum i = plain_asks definite i
even_asks definite asks.Low i = i.low
even_asks definite asks.LimitedHigh i = int_max (plain_least i.floor) i.high
even_asks definite asks.High i = i.high

-- the space that it needs beyond the sum of the sizes and the gutters
abbrev pub space_for : Bool → Asks → ℤ → ℤ → Item → ℤ
space_for definite k sum gutters i = clamp (int_max (pos 0) (even_asks definite k i -ℤ sum -ℤ gutters))

-- the greatest of a number and those of items
abbrev pub greatest_of : (Item → ℤ) → ℤ → List Item → ℤ
greatest_of f best [] = best
greatest_of f best (i ∷ rest) = greatest_of f (int_max (f i) best) rest

-- the gutters between these tracks
abbrev pub gutters_in : ℤ → List Track → ℤ
gutters_in gap ts = gap *ℤ pos (length ts - 1)

-- the greatest space that an item of the group needs
abbrev pub greatest_space : Bool → Asks → (Track → ℤ) → ℤ → List Item → List Track → ℤ
greatest_space definite k size gap items ts = greatest_of (space_for definite k (sum_of (map size ts)) (gutters_in gap ts)) (pos 0) items

-- ---- what the tracks gain

-- the equal parts of a space
abbrev pub even_shares : ℤ → List Track → List ℤ
even_shares space ts = shares space (map without_end ts)

-- a track with a growth limit that is greater by a share; one without end counts as the base size
abbrev pub lifted : Track → ℤ → Track
lifted t share = let limit = clamp (limit_of t +ℤ share) in record t { limit = Some limit; planned = pos 0 }

-- a track that stays as it is where its growth limit gains nothing
pub record IsEnded (t : Track) : Type 0 where
  pub same : lifted t (pos 0) ≡ t

abbrev pub AreEnded : List Track → Type 0
AreEnded [] = Unit {0}
AreEnded (t ∷ ts) = IsEnded t × AreEnded ts

-- a track that is lifted so and is infinitely growable
abbrev pub ended : Track → ℤ → Track
ended t share = record (lifted t share) { endless = true }

-- a track with its share
abbrev pub gain_of : Gains → Track → ℤ → Track
gain_of gains.Base = grow_base
gain_of gains.Limit = lifted

abbrev pub gained : Gains → ℤ → Track → Track
gained g share t = gain_of g t share

-- the tracks with their parts
abbrev pub gained_evenly : Gains → ℤ → List Track → List Track
gained_evenly g space ts = zipped (gain_of g) ts (even_shares space ts)

-- the steps on base sizes and on growth limits
abbrev pub with_bases : Bool → Asks → ℤ → List Item → List Track → List Track
with_bases definite k gap items ts = gained_evenly gains.Base (greatest_space definite k base_of gap items ts) ts

abbrev pub all_bases : Bool → Bool → ℤ → List Item → List Track → List Track
all_bases definite max gap items ts =
    let bases = with_bases definite asks.Minimum gap items ts in
    if max then with_bases definite asks.LimitedHigh gap items bases else bases

abbrev pub with_ends : ℤ → List Item → List Track → List Track
with_ends gap items ts = zipped ended ts (even_shares (greatest_space true asks.Low limit_of gap items ts) ts)

-- the first of the steps on growth limits without its marks, which only the next step reads
abbrev pub with_lows : ℤ → List Item → List Track → List Track
with_lows gap items ts = gained_evenly gains.Limit (greatest_space true asks.Low limit_of gap items ts) ts

abbrev pub with_limits : ℤ → List Item → List Track → List Track
with_limits gap items ts = gained_evenly gains.Limit (greatest_space true asks.High limit_of gap items ts) ts
