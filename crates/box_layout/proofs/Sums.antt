-- Sums of lengths within limits.
use Rattle.std.proofs.Common.{arith, ℕ, ℤ, pos, negsuc, ◌+◌, ◌-◌, ◌*◌, ◌≤◌, ◌+ℤ◌, ◌-ℤ◌, ◌*ℤ◌}
use Rattle.std.proofs.lemmas.Int.{ints}
use Rattle.lunit.specs.Units.{IsUnits}
use Rattle.inline_sizes.specs.Sums.{IsPair}
use Rattle.box_layout.specs.Ranges.{IsAlong, IsFree, IsGaps, IsLineRest, IsNearTo, IsOuter, IsOuterSum, IsReach, IsRest, IsRoom, IsSpot, IsStep, IsSum}

pub room_is : (a b c : ℤ) → IsUnits a → IsUnits b → IsPair c → IsRoom (a -ℤ b -ℤ c)
room_is a b c h k l = (omega (arith, ints, h.0, h.1, k.0, k.1, l.0, l.1), omega (arith, ints, h.0, h.1, k.0, k.1, l.0, l.1))

pub rest_is : (a b c : ℤ) → IsRoom a → IsRoom b → IsRoom c → IsRest (a -ℤ b -ℤ c)
rest_is a b c h k l = (omega (arith, ints, h.0, h.1, k.0, k.1, l.0, l.1), omega (arith, ints, h.0, h.1, k.0, k.1, l.0, l.1))

pub spot_is : (at z : ℤ) → IsReach at → IsNearTo at z → IsSpot z
spot_is at z h k = (omega (arith, ints, h.0, h.1, k.low, k.high), omega (arith, ints, h.0, h.1, k.low, k.high))

pub outer_is : (a b : ℤ) → IsUnits a → IsPair b → IsOuter (a +ℤ b)
outer_is a b h k = (omega (arith, ints, h.0, h.1, k.0, k.1), omega (arith, ints, h.0, h.1, k.0, k.1))

pub start_is : (a b c d : ℤ) → IsAlong a → IsFree b → IsUnits c → IsUnits d → IsSpot (a +ℤ b +ℤ c +ℤ d)
start_is a b c d h k l m = (omega (arith, ints, h.0, h.1, k.0, k.1, l.0, l.1, m.0, m.1), omega (arith, ints, h.0, h.1, k.0, k.1, l.0, l.1, m.0, m.1))

pub step_is : (a b c d : ℤ) → IsUnits a → IsUnits b → IsOuter c → IsUnits d → IsStep (a +ℤ b +ℤ c +ℤ d)
step_is a b c d h k l m = (omega (arith, ints, h.0, h.1, k.0, k.1, l.0, l.1, m.0, m.1), omega (arith, ints, h.0, h.1, k.0, k.1, l.0, l.1, m.0, m.1))

-- ---- products

less : (a b m n : ℕ) → a ≤ b → m ≤ n → a * m ≤ b * n
less a b m n h k = grind arith

pub gaps_are : (gap : ℤ) (n : ℕ) → IsUnits gap → n ≤ 65536 → IsGaps (gap *ℤ pos (n - 1))
gaps_are (pos a) n h k =
    let few : a * (n - 1) ≤ 1073741824 * 65536 = less a 1073741824 (n - 1) 65536 (omega (arith, ints, h.1)) (omega (arith, k)) in
    (omega (arith, ints, few), omega (arith, ints, few))
gaps_are (negsuc a) n h k =
    let few : (a + 1) * (n - 1) ≤ 1073741824 * 65536 = less (a + 1) 1073741824 (n - 1) 65536 (omega (arith, ints, h.0)) (omega (arith, k)) in
    (omega (arith, ints, few), omega (arith, ints, few))

-- ---- what is left

pub line_rest_is : (main gaps outer : ℤ) (n : ℕ) → IsUnits main → IsGaps gaps → IsOuterSum n outer → n ≤ 65536 → IsLineRest (main -ℤ gaps -ℤ outer)
line_rest_is main gaps outer n h k l few = (omega (arith, ints, h.0, h.1, k.0, k.1, l.0, l.1, few), omega (arith, ints, h.0, h.1, k.0, k.1, l.0, l.1, few))

pub cross_left_is : (cross gaps sum : ℤ) (n : ℕ) → IsUnits cross → IsGaps gaps → IsSum n sum → n ≤ 65536 → IsFree (cross -ℤ gaps -ℤ sum)
cross_left_is cross gaps sum n h k l few = (omega (arith, ints, h.0, h.1, k.0, k.1, l.0, l.1, few), omega (arith, ints, h.0, h.1, k.0, k.1, l.0, l.1, few))

pub free_is : (rest taken : ℤ) (n : ℕ) → IsLineRest rest → IsSum n taken → n ≤ 131072 → IsFree (rest -ℤ taken)
free_is rest taken n h k few = (omega (arith, ints, h.0, h.1, k.0, k.1, few), omega (arith, ints, h.0, h.1, k.0, k.1, few))
