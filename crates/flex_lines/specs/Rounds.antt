-- The rounds in which a line is resolved, over the items that are not frozen yet.
use Rattle.std.specs.Prelude.{◌≡◌, ℕ, suc, ◌+◌, ◌^◌, ◌==◌, ◌≤ℤ◌, nat_lt, ℤ, pos, ◌+ℤ◌, ◌-ℤ◌, ◌*ℤ◌, Bool, List, [], ◌∷◌, map, set, length, None, if◌then◌else◌}
use Rattle.std.specs.Int.{int_max, int_min}
use Rattle.lunit.specs.Units.{clamp, floor_div}
use Rattle.part_rules.specs.declared.flex.FlexItem.{FlexItem}
use Rattle.part_rules.specs.Lists.{sum_of, total_of, zipped}
use Rattle.part_rules.specs.Sharing.{part}
use Rattle.part_rules.specs.FlexLines.{Piece, free_factor, freezes, gaps, is_free, limited_main, outer_now, size_of, tried, violation, weight_of}
use Rattle.flex_lines.specs.declared.flexible.Flexible.{Flexible}

-- an item that is not frozen
abbrev pub free_item : FlexItem → Piece
free_item i = record { item = i; frozen = None }

-- the item as a piece of its line
abbrev pub piece : Flexible → Piece
piece f = free_item f.item

abbrev pub pieces : List Flexible → List Piece
pieces fs = map piece fs

-- the items of a line that are not frozen, from a place on
abbrev pub flexible_from : ℕ → List Piece → List Flexible
flexible_from place [] = []
flexible_from place (p ∷ rest) = if is_free p then record { place = place; item = p.item } ∷ flexible_from (suc place) rest else flexible_from (suc place) rest

-- the outer sizes of the items that are frozen
abbrev pub held_by : List Piece → ℤ
held_by [] = pos 0
held_by (p ∷ rest) = (if is_free p then pos 0 else outer_now p) +ℤ held_by rest

-- what items of so much weight make of the space; nothing where the whole weight is 0
abbrev pub reach : ℤ → ℕ → ℕ → ℤ
reach space whole weight = if whole == 0 then pos 0 else part space whole weight

-- what an item gets that has items of so much weight before it
abbrev pub given : ℤ → ℕ → ℕ → ℕ → ℤ
given space whole before weight = reach space whole (before + weight) -ℤ reach space whole before

-- the sizes that are tried
abbrev pub tries : Bool → ℤ → ℕ → ℕ → List Piece → List ℤ
tries grow space whole before [] = []
tries grow space whole before (p ∷ rest) = tried grow p (given space whole before (weight_of grow p)) ∷ tries grow space whole (before + weight_of grow p) rest

-- the item is frozen, where the changes of all items have this sum
abbrev pub stops : ℤ → Flexible → ℤ → Bool
stops sum f size = freezes sum (violation (piece f) size)

-- the size that it is frozen at
abbrev pub stopped : Flexible → ℤ → ℤ
stopped f size = clamp (limited_main f.item size)

-- the items that are still not frozen
abbrev pub left : ℤ → List Flexible → List ℤ → List Flexible
left sum [] sizes = []
left sum (f ∷ fs) [] = []
left sum (f ∷ fs) (size ∷ sizes) = if stops sum f size then left sum fs sizes else f ∷ left sum fs sizes

-- the outer sizes of those that are frozen now
abbrev pub newly_held : ℤ → List Flexible → List ℤ → ℤ
newly_held sum [] sizes = pos 0
newly_held sum (f ∷ fs) [] = pos 0
newly_held sum (f ∷ fs) (size ∷ sizes) = (if stops sum f size then stopped f size +ℤ f.item.margins else pos 0) +ℤ newly_held sum fs sizes

-- all sizes, with those that are frozen now at their places
abbrev pub settled : ℤ → List Flexible → List ℤ → List ℤ → List ℤ
settled sum [] sizes all = all
settled sum (f ∷ fs) [] all = all
settled sum (f ∷ fs) (size ∷ sizes) all = settled sum fs sizes (if stops sum f size then set all f.place (stopped f size) else all)

-- What is kept of a line: its items that are not frozen, what gaps and frozen items take, and the sizes so far.
pub record IsKeptOf (gap : ℤ) (line : List Piece) (free : List Flexible) (taken : ℤ) (all : List ℤ) : Type 0 where
  pub flexible : free ≡ flexible_from 0 line
  pub held : taken ≡ gaps gap (length line) +ℤ held_by line
  pub sizes : all ≡ map size_of line

-- ---- one round, from what is kept

-- what the line leaves of the main size, or what it lacks where the items shrink
abbrev pub space_left : Bool → ℤ → ℤ → ℤ → ℤ
space_left grow main taken outer =
    let rest = main -ℤ taken -ℤ outer in
    clamp (int_max (pos 0) (if grow then rest else pos 0 -ℤ rest))

-- where the factors sum to less than 1 (1000 thousandths), at most that part of the initial space
abbrev pub space_given : ℤ → ℤ → ℕ → ℤ
space_given initial whole factors = if nat_lt factors 1000 then int_min whole (floor_div (initial *ℤ pos factors) 1000) else whole

-- the space that a round gives
unfoldable pub round_space : Bool → ℤ → ℤ → ℤ → List Flexible → ℤ
round_space grow main initial taken fs =
    space_given initial (space_left grow main taken (sum_of (map outer_now (pieces fs)))) (total_of (map (free_factor grow) (pieces fs)))

-- the sizes that a round tries
unfoldable pub round_sizes : Bool → ℤ → ℤ → ℤ → List Flexible → List ℤ
round_sizes grow main initial taken fs = tries grow (round_space grow main initial taken fs) (total_of (map (weight_of grow) (pieces fs))) 0 (pieces fs)

-- what the limits of the items change of these sizes
abbrev pub change_of : List Flexible → List ℤ → ℤ
change_of fs sizes = sum_of (zipped violation (pieces fs) sizes)

-- What is kept of a line after a round.
pub record IsRoundOf (grow : Bool) (main initial : ℤ) (fs : List Flexible) (taken : ℤ) (all : List ℤ) (rest : List Flexible) (held : ℤ) (sizes : List ℤ) : Type
    0 where
  pub flexible : rest ≡ left (change_of fs (round_sizes grow main initial taken fs)) fs (round_sizes grow main initial taken fs)
  pub taken_is : held ≡ taken +ℤ newly_held (change_of fs (round_sizes grow main initial taken fs)) fs (round_sizes grow main initial taken fs)
  pub sizes_are : sizes ≡ settled (change_of fs (round_sizes grow main initial taken fs)) fs (round_sizes grow main initial taken fs) all
  pub low : (taken -ℤ pos (2 ^ 63)) ≤ℤ held
  pub high : held ≤ℤ (taken +ℤ pos (2 ^ 63))
