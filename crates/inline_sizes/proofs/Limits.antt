-- Numbers within limits.
use Rattle.std.proofs.Common.{arith, ◌≡◌, ℤ, pos, ◌+ℤ◌, ◌-ℤ◌, ◌≤ℤ◌, Option, Some, None, false, ◌||◌, true≢false}
use Rattle.std.specs.Prelude.{IfSome, is_some, unwrap_or}
use Rattle.std.specs.Int.{int_max, int_min}
use Rattle.std.proofs.lemmas.Int.{ints, int_max_is, int_min_is}
use Rattle.lunit.specs.Units.{IsUnits, bottom, top, clamp}
use Rattle.part_rules.specs.Lists.{at_most}
use Rattle.tree_rules.specs.NodeSizes.{Bounds, fitted}
use Rattle.inline_sizes.specs.Bounded.{IsBorderSize, IsBound}
use Rattle.inline_sizes.specs.Sums.{IsPair, IsSum}

-- a length is within the limits
pub clamp_units : (z : ℤ) → IsUnits z → clamp z ≡ z
unfolding clamp
clamp_units z h = omega (arith, ints, h.0, h.1, int_min_is top z, int_max_is bottom (int_min top z))

-- a number that is at least 0 is so as a length
pub some_size : (z : ℤ) → pos 0 ≤ℤ clamp (int_max (pos 0) z)
unfolding clamp
some_size z = omega (arith, ints, int_max_is (pos 0) z, int_min_is top (int_max (pos 0) z), int_max_is bottom (int_min top (int_max (pos 0) z)))

-- a length that is at most a number is at most that number as a length
pub least_clamped : (p z : ℤ) → IsUnits p → p ≤ℤ z → p ≤ℤ clamp z
unfolding clamp
least_clamped p z h l = omega (arith, ints, h.0, h.1, l, int_min_is top z, int_max_is bottom (int_min top z))

-- ---- declared sizes

pub content_box_size : (v inner : ℤ) → IsUnits v → IsUnits inner → IsBorderSize inner (v +ℤ inner)
content_box_size v inner h k = record {
  content = (omega (arith, ints, h.0, h.1), omega (arith, ints, h.0, h.1));
  sum = (omega (arith, ints, h.0, h.1, k.0, k.1), omega (arith, ints, h.0, h.1, k.0, k.1));
}

pub border_box_size : (v inner : ℤ) → IsUnits v → IsUnits inner → pos 0 ≤ℤ inner → IsBorderSize inner (int_max v inner)
border_box_size v inner h k some = record {
  content = (omega (arith, ints, h.0, h.1, k.0, k.1, some, int_max_is v inner), omega (arith, ints, h.0, h.1, k.0, k.1, some, int_max_is v inner));
  sum = (omega (arith, ints, h.0, h.1, k.0, k.1, int_max_is v inner), omega (arith, ints, h.0, h.1, k.0, k.1, int_max_is v inner));
}

pub bound_sum : (inner : ℤ) (size : Option ℤ) → IsBound inner size → IfSome size IsSum
bound_sum inner None h = tt
bound_sum inner (Some v) h = h.sum

-- ---- sums

pub units_sum : (z : ℤ) → IsUnits z → IsSum z
units_sum z h = (omega (arith, ints, h.0, h.1), omega (arith, ints, h.0, h.1))

pub min_sum : (a b : ℤ) → IsSum a → IsSum b → IsSum (int_min a b)
min_sum a b h k = (omega (arith, ints, h.0, h.1, k.0, k.1, int_min_is a b), omega (arith, ints, h.0, h.1, k.0, k.1, int_min_is a b))

pub max_sum : (a b : ℤ) → IsSum a → IsSum b → IsSum (int_max a b)
max_sum a b h k = (omega (arith, ints, h.0, h.1, k.0, k.1, int_max_is a b), omega (arith, ints, h.0, h.1, k.0, k.1, int_max_is a b))

pub first_least : (a b : ℤ) → a ≤ℤ int_max a b
first_least a b = omega (arith, ints, int_max_is a b)

max_over : (inner x : ℤ) → pos 0 ≤ℤ inner → int_max inner x ≡ int_max inner (int_max (pos 0) x)
max_over inner x h = omega (arith, ints, h, int_max_is inner x, int_max_is (pos 0) x, int_max_is inner (int_max (pos 0) x))

free_by : (inner : ℤ) (least most : Option ℤ) (x : ℤ) → pos 0 ≤ℤ inner → (is_some least || is_some most) ≡ false → int_max inner x ≡ int_max inner (int_max (unwrap_or least (pos 0)) (at_most most x))
free_by inner None None x h free = max_over inner x h
free_by inner None (Some most) x h free = absurd (true≢false free)
free_by inner (Some least) most x h free = absurd (true≢false free)

-- a size without a minimum and a maximum is at least borders and paddings, and these are at least 0
pub free_fitted : (b : Bounds) (x : ℤ) → pos 0 ≤ℤ b.inner → (is_some b.least || is_some b.most) ≡ false → int_max b.inner x ≡ fitted b x
free_fitted b x h free = free_by b.inner b.least b.most x h free

pub both_sum : (a b : ℤ) → IsUnits a → IsUnits b → IsSum (a +ℤ b)
both_sum a b h k = (omega (arith, ints, h.0, h.1, k.0, k.1), omega (arith, ints, h.0, h.1, k.0, k.1))

pub both_pair : (a b : ℤ) → IsUnits a → IsUnits b → IsPair (a +ℤ b)
both_pair a b h k = (omega (arith, ints, h.0, h.1, k.0, k.1), omega (arith, ints, h.0, h.1, k.0, k.1))

pub with_pair : (a b : ℤ) → IsUnits a → IsPair b → IsSum (a +ℤ b)
with_pair a b h k = (omega (arith, ints, h.0, h.1, k.0, k.1), omega (arith, ints, h.0, h.1, k.0, k.1))

pub difference_sum : (a b : ℤ) → IsUnits a → IsUnits b → IsSum (a -ℤ b)
difference_sum a b h k = (omega (arith, ints, h.0, h.1, k.0, k.1), omega (arith, ints, h.0, h.1, k.0, k.1))

pub content_some : (inner size : ℤ) → inner ≤ℤ size → pos 0 ≤ℤ clamp (size -ℤ inner)
unfolding clamp
content_some inner size h = omega (arith, ints, h, int_min_is top (size -ℤ inner), int_max_is bottom (int_min top (size -ℤ inner)))

-- what is at least a length is so as a length
pub box_least : (p z : ℤ) → IsUnits p → p ≤ℤ clamp (int_max p z)
unfolding clamp
box_least p z h = omega (arith, ints, h.0, h.1, int_max_is p z, int_min_is top (int_max p z), int_max_is bottom (int_min top (int_max p z)))
