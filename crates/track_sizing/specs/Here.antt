-- Steps of distribution for the tracks that one item spans: an item asks for nothing of other tracks.
use Rattle.std.specs.Prelude.{◌≡◌, ℕ, ◌==◌, ℤ, pos, ◌+ℤ◌, ◌-ℤ◌, ◌≤ℤ◌, ◌^◌, Bool, not, ◌&&◌, ◌||◌, List, [], ◌∷◌, map, Option, Some, None, option_map, is_none, unwrap_or, if◌then◌else◌}
use Rattle.std.specs.Int.{int_max}
use Rattle.std.specs.List.{list_any}
use Rattle.std.specs.Ordering.{int_eq}
use Rattle.lunit.specs.Units.{clamp, IsUnits}
use Rattle.lunit.specs.declared.item.Item.{Item}
use Rattle.lunit.specs.declared.item.Floor.{Floor}
use Rattle.lunit.specs.declared.item.Floor.TheVariants.{Known, Content}
use Rattle.part_rules.specs.Lists.{sum_of, total_of, zipped, at_most, sum_of_known}
use Rattle.part_rules.specs.Sharing.{apportioned_whole}
use Rattle.part_rules.specs.Tracks.{Track, is_auto_least, flexible, span_length, inner_gutters, fixed_most, capped_most, fit_argument, factor_of, in_turns, incur, plan, only, without_end, base_of, limit_of, base_to_limit, other_to_limit, base_to_argument, limit_so_far, up_to, is_without_limit, is_endless, argument_of, to_limit, auto_room, grow_base}
use Rattle.part_rules.specs.declared.share.Share.{Share}
use Rattle.track_sizing.specs.declared.kinds.Affected.{Affected}
use Rattle.track_sizing.specs.declared.kinds.Kind.{Kind}
use Rattle.track_sizing.specs.declared.item.Asks.{Asks}
use Rattle.track_sizing.specs.declared.item.Asks.TheVariants as asks
use Rattle.track_sizing.specs.declared.rooms.Rooms.{Rooms}
use Rattle.track_sizing.specs.declared.rooms.Rooms.TheVariants as rooms
use Rattle.track_sizing.specs.Kinds.{kind_of, affected_of}

-- ---- ranges

-- gutters between the tracks of an item
abbrev pub IsSpan : ℤ → Type 0
IsSpan z = ((pos 0 -ℤ pos (2 ^ 62)) ≤ℤ z) × (z ≤ℤ pos (2 ^ 62))

-- the sum of some lengths
abbrev pub IsSum : ℤ → Type 0
IsSum z = ((pos 0 -ℤ pos (2 ^ 94)) ≤ℤ z) × (z ≤ℤ pos (2 ^ 94))

-- ---- what an item asks for

-- whether the automatic minimum is content-based (CSS Grid 2, 6.6)
abbrev pub is_content_based_of : List Track → Item → Bool
is_content_based_of mine i = list_any (λ (t : Track). is_auto_least t.rule.least) mine && (int_eq (span_length i) (pos 1) || not (list_any flexible mine))

-- the fixed max functions
abbrev pub fixed_of : List Track → Option ℤ
fixed_of mine = sum_of_known (map (λ (t : Track). fixed_most t.rule.most) mine)

-- the sum of the max functions where each is fixed, as which the argument of `fit-content` counts
abbrev pub capped_of : List Track → Option ℤ
capped_of mine = sum_of_known (map (λ (t : Track). capped_most t.rule.most) mine)

-- the automatic minimum, where it is content-based
abbrev pub content_based_of : ℤ → List Track → Item → ℤ → ℤ → ℤ
content_based_of gap mine i size margins =
    int_max (pos 0) (at_most (option_map (λ s. s -ℤ margins) (option_map (λ s. s +ℤ inner_gutters gap i) (fixed_of mine))) size)

-- the automatic minimum
abbrev pub automatic_of : ℤ → List Track → Item → ℤ → ℤ → ℤ
automatic_of gap mine i size margins = if is_content_based_of mine i then content_based_of gap mine i size margins else pos 0

-- the minimum contribution
abbrev pub minimum_by_of : ℤ → List Track → Item → Floor → ℤ
minimum_by_of gap mine i (Known x) = x
minimum_by_of gap mine i (Content size margins inner) = clamp (margins +ℤ int_max inner (automatic_of gap mine i size margins))

abbrev pub minimum_of : ℤ → List Track → Item → ℤ
minimum_of gap mine i = minimum_by_of gap mine i i.floor

-- a limited contribution
abbrev pub limited_of : ℤ → ℤ → List Track → Item → ℤ
limited_of gap contribution mine i = int_max (minimum_of gap mine i) (at_most (capped_of mine) contribution)

-- what the item asks for in a step
abbrev pub asked_of : Bool → ℤ → Asks → List Track → Item → ℤ
asked_of definite gap asks.Minimum mine i = if definite then minimum_of gap mine i else limited_of gap i.low mine i
asked_of definite gap asks.Low mine i = i.low
asked_of definite gap asks.LimitedHigh mine i = limited_of gap i.high mine i
asked_of definite gap asks.High mine i = i.high

-- the space that it needs
abbrev pub needed_of : (Track → ℤ) → ℤ → ℤ → List Track → Item → ℤ
needed_of size gap asked mine i = clamp (int_max (pos 0) (asked -ℤ sum_of (map size mine) -ℤ inner_gutters gap i))

-- ---- the rooms of its tracks

-- a receiver that is no `fit-content` track
abbrev pub open_of : Affected → Kind → Track → Bool
open_of a receives t = (affected_of a t && kind_of receives t) && is_none (fit_argument t.rule.most)

-- which growth limits rise first
abbrev pub rises_of : Bool → Track → Bool
rises_of second t = if second then is_endless t else is_without_limit t

-- the room of a growth limit that rises
abbrev pub limit_room_of : Bool → Track → Option ℤ
limit_room_of second t = up_to (limit_so_far t) (if second then argument_of t else None)

-- the room of a track in a turn
abbrev pub room_of : Rooms → Track → Option ℤ
room_of (rooms.ToLimit a) = only (affected_of a) base_to_limit
room_of (rooms.Others a) = only (λ t. not (affected_of a t)) other_to_limit
room_of (rooms.ToArgument a receives) = only (λ t. affected_of a t && kind_of receives t) base_to_argument
room_of (rooms.Open a receives) = only (open_of a receives) without_end
room_of (rooms.All a) = only (affected_of a) without_end
room_of (rooms.Rising a second) = only (affected_of a) (λ t. if rises_of second t then limit_room_of second t else Some (pos 0))
room_of (rooms.ToEnd a second) = only (affected_of a) (limit_room_of second)
room_of rooms.Growth = to_limit
room_of rooms.Stretch = auto_room

-- a room below 0 takes as little as none
abbrev pub floored : Option ℤ → Option ℤ
floored = option_map (int_max (pos 0))

-- a track as a row that takes part
abbrev pub share_of : Rooms → Track → Share
share_of r t = record { room = floored (room_of r t); got = pos 0 }

-- a track with what a row has got
abbrev pub incur_share : Track → Share → Track
incur_share t s = incur t s.got

-- ---- one item

-- the last turn of base sizes
abbrev pub last_of : Affected → Kind → List Track → Rooms
last_of a receives mine = if list_any (open_of a receives) mine then rooms.Open a receives else rooms.All a

-- the turns of base sizes
abbrev pub base_rooms_of : Affected → Kind → List Track → List (Track → Option ℤ)
base_rooms_of a receives mine =
    room_of (rooms.ToLimit a) ∷ room_of (rooms.Others a) ∷ room_of (rooms.ToArgument a receives) ∷ room_of (last_of a receives mine) ∷ []

-- the turns of growth limits
abbrev pub limit_rooms_of : Affected → Bool → List (Track → Option ℤ)
limit_rooms_of a second = room_of (rooms.Rising a second) ∷ room_of (rooms.ToEnd a second) ∷ []

-- the factor of an affected track
abbrev pub weight_of : Affected → Track → ℕ
weight_of a t = if affected_of a t then unwrap_or (factor_of t.rule.most) 0 else 0

-- a space that is given by the factors, or where they are all 0 in equal parts
abbrev pub by_factors_of : Affected → ℤ → List Track → List Track
by_factors_of a space mine =
    let weights = map (weight_of a) mine in
    if total_of weights == 0 then in_turns (room_of (rooms.All a) ∷ []) space mine else zipped incur mine (apportioned_whole space weights)

abbrev pub base_given_of : Affected → Kind → ℤ → List Track → List Track
base_given_of a receives space mine = if a.crossing then by_factors_of a space mine else in_turns (base_rooms_of a receives mine) space mine

abbrev pub limit_given_of : Affected → Bool → ℤ → List Track → List Track
limit_given_of a second space mine = if a.crossing then by_factors_of a space mine else in_turns (limit_rooms_of a second) space mine

-- what an item gives its tracks in a step on base sizes
abbrev pub base_planned_of : Affected → Kind → Bool → ℤ → Asks → Item → List Track → List Track
base_planned_of a receives definite gap asks i mine =
    if list_any (affected_of a) mine then map plan (base_given_of a receives (needed_of base_of gap (asked_of definite gap asks mine i) mine i) mine) else mine

-- what an item gives its tracks in a step on growth limits
abbrev pub limit_planned_of : Affected → Bool → ℤ → Item → List Track → List Track
limit_planned_of a second gap i mine =
    if list_any (affected_of a) mine then map plan (limit_given_of a second (needed_of limit_of gap (if second then i.high else i.low) mine i) mine) else mine

-- ---- items that ask for nothing

-- a minimum contribution that is known and not above 0
abbrev pub IsIdleFloor : Floor → Type 0
IsIdleFloor (Known x) = x ≤ℤ pos 0
IsIdleFloor (Content size margins inner) = ⊥

-- No contribution of the item is above 0, and no gutter is below 0.
pub record IsIdle (gap : ℤ) (i : Item) : Type 0 where
  pub gutters : pos 0 ≤ℤ gap
  pub low : i.low ≤ℤ pos 0
  pub high : i.high ≤ℤ pos 0
  pub floor : IsIdleFloor i.floor

-- tracks of which no length is below 0
abbrev pub HaveLengths : List Track → Type 0
HaveLengths [] = Unit {0}
HaveLengths (t ∷ rest) = ((pos 0 ≤ℤ t.base) × (pos 0 ≤ℤ limit_of t)) × HaveLengths rest

-- tracks of which each base size is in the range of lengths
abbrev pub HaveUnits : List Track → Type 0
HaveUnits [] = Unit {0}
HaveUnits (t ∷ rest) = IsUnits t.base × HaveUnits rest

-- a base size in the range that is the growth limit
pub record IsFilled (t : Track) : Type 0 where
  pub units : IsUnits t.base
  pub limit : t.limit ≡ Some t.base

abbrev pub AreFilled : List Track → Type 0
AreFilled [] = Unit {0}
AreFilled (t ∷ rest) = IsFilled t × AreFilled rest

-- ---- what is kept

-- a track to which the item at hand has given at most so much
abbrev pub IsBelow : ℤ → Track → Type 0
IsBelow most t = (pos 0 ≤ℤ t.incurred) × (t.incurred ≤ℤ most)

abbrev pub AreBelow : ℤ → List Track → Type 0
AreBelow most [] = Unit {0}
AreBelow most (t ∷ rest) = IsBelow most t × AreBelow most rest

-- shares that the tracks can take
abbrev pub AreFitting : List Track → List Share → Type 0
AreFitting [] ss = Unit {0}
AreFitting (t ∷ ts) [] = ⊥
AreFitting (t ∷ ts) (s ∷ ss) = ((pos 0 ≤ℤ s.got) × IsUnits (t.incurred +ℤ s.got)) × AreFitting ts ss

-- tracks to which the item at hand has given nothing
abbrev pub AreQuiet : List Track → Type 0
AreQuiet [] = Unit {0}
AreQuiet (t ∷ rest) = (t.incurred ≡ pos 0) × AreQuiet rest

-- no share below 0
abbrev pub HaveShares : List Share → Type 0
HaveShares [] = Unit {0}
HaveShares (s ∷ rest) = (pos 0 ≤ℤ s.got) × HaveShares rest

-- a track whose base size grows by what a row has got
abbrev pub grow_share : Track → Share → Track
grow_share t s = grow_base t s.got
