-- Which tracks of an axis the areas of its items cover, and the rules of its tracks, as the code finds them.
use Rattle.std.specs.Prelude.{◌≡◌, ℕ, ◌+◌, ◌<◌, nat_le, nat_lt, ℤ, pos, neg_ℤ, ◌+ℤ◌, ◌≤ℤ◌, int_le, int_lt, Bool, false, not, ◌&&◌, List, [], ◌∷◌, length, take, get_or, Option}
use Rattle.std.specs.List.{list_any}
use Rattle.std.specs.Option.{unwrap_or}
use Rattle.lunit.specs.declared.geometry.Span.{Span}
use Rattle.part_rules.specs.declared.track.Rule.{Rule}
use Rattle.part_rules.specs.Repetition.{covers, size_at}
use Rattle.style_types.specs.Table.{auto_track}
use Rattle.style_types.specs.declared.track.TrackFn.{TrackFn}
use Rattle.tree_rules.specs.TrackRules.{rule_of}

-- the lines of an axis lie so near that they can be told from each other
pub record IsNear (s : Span) : Type 0 where
  pub low : neg_ℤ (pos 536870912) ≤ℤ s.start
  pub first : s.start ≤ℤ pos 536870912
  pub high : s.end ≤ℤ pos 536870912

-- a track told from the first one lies between these two
abbrev pub is_on : ℕ → ℕ → ℕ → Bool
is_on at start end = nat_le start at && nat_lt at end

-- How far the areas reach that begin at each track or, at the first one, before it. One that begins no later than a track and reaches past it covers it.
pub record AreMarked (first : ℤ) (areas : List Span) (count : ℕ) (marks : List ℕ) : Type 0 where
  pub counted : length marks ≡ count
  pub told : (at : ℕ) → at < count → list_any (nat_lt at) (take (at + 1) marks) ≡ list_any (covers (first +ℤ pos at)) areas

-- a list of so many flags, each as a function gives it for its place
pub record AreFlags (flag : ℕ → Bool) (count : ℕ) (flags : List Bool) : Type 0 where
  pub counted : length flags ≡ count
  pub told : (at : ℕ) → at < count → get_or flags at false ≡ flag at

-- whether an area covers the track so many after this one
abbrev pub is_covered : ℤ → List Span → ℕ → Bool
is_covered first areas at = list_any (covers (first +ℤ pos at)) areas

-- whether one of the marks up to a track reaches past it
abbrev pub is_reached : List ℕ → ℕ → Bool
is_reached marks at = list_any (nat_lt at) (take (at + 1) marks)

-- whether a repeated track has no such flag
abbrev pub is_left : ℕ → ℕ → ℤ → List Bool → ℕ → Bool
is_left from to first covered at = (int_le (pos from) (first +ℤ pos at) && int_lt (first +ℤ pos at) (pos to)) && not (get_or covered at false)

-- the farthest of the first so many marks, and the flags by these
pub record IsSwept (marks : List ℕ) (count farthest : ℕ) (flags : List Bool) : Type 0 where
  pub reach : (at : ℕ) → nat_lt at farthest ≡ list_any (nat_lt at) (take count marks)
  pub swept : AreFlags (is_reached marks) count flags

-- the rules of the tracks from this one on, where these say whether each collapses
abbrev pub rules_by : Option ℤ → List TrackFn → List TrackFn → ℤ → List Bool → List Rule
rules_by base sizes autos at [] = []
rules_by base sizes autos at (c ∷ rest) = rule_of base (unwrap_or (size_at sizes autos at) auto_track) c ∷ rules_by base sizes autos (at +ℤ pos 1) rest
