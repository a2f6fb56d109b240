-- What the comparisons of numbers answer.
use Rattle.std.proofs.Common.{arith, ◌≡◌, refl, ℤ, Bool, true, false, int_le, int_lt, cond, Less, Equal, Greater}
use Rattle.std.proofs.lemmas.Int.{ints}
use Rattle.std.specs.Ordering.{int_cmp, is_le, is_lt}

pub le_is : (x y : ℤ) → int_le x y ≡ is_le (int_cmp x y)
le_is x y = by (int_lt x y) (int_lt y x) (int_le x y) refl refl refl
  where
    by : (s t u : Bool) → int_lt x y ≡ s → int_lt y x ≡ t → int_le x y ≡ u → u ≡ is_le (cond s Less (cond t Greater Equal))
    by true true u a b c = absurd (omega (arith, ints))
    by true false true a b c = refl
    by true false false a b c = absurd (omega (arith, ints))
    by false true true a b c = absurd (omega (arith, ints))
    by false true false a b c = refl
    by false false true a b c = refl
    by false false false a b c = absurd (omega (arith, ints))

pub lt_is : (x y : ℤ) → int_lt x y ≡ is_lt (int_cmp x y)
lt_is x y = by (int_lt x y) (int_lt y x) refl refl
  where
    by : (s t : Bool) → int_lt x y ≡ s → int_lt y x ≡ t → s ≡ is_lt (cond s Less (cond t Greater Equal))
    by true t a b = refl
    by false true a b = refl
    by false false a b = refl
