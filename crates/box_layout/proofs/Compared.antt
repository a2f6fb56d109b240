-- What the comparison of two numbers answers.
use Rattle.std.proofs.Common.{◌≡◌, refl, ℤ, Bool, true, false, int_lt, cond, Less, Equal, Greater}
use Rattle.std.specs.Ordering.{int_cmp, is_lt}

pub lt_is : (x y : ℤ) → int_lt x y ≡ is_lt (int_cmp x y)
lt_is x y = by (int_lt x y) (int_lt y x) refl refl
  where
    by : (s t : Bool) → int_lt x y ≡ s → int_lt y x ≡ t → s ≡ is_lt (cond s Less (cond t Greater Equal))
    by true t a b = refl
    by false true a b = refl
    by false false a b = refl
