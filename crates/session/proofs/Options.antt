-- Parts of optional values.
use Rattle.std.proofs.Common.{◌≡◌, ap, sym, subst, Option, Some, None}
use Rattle.std.specs.Prelude.{unwrap_or}

IsThere : {A : Type 0} → Option A → Type 0
IsThere None = ⊥
IsThere (Some x) = Unit {0}

pub none_is_no : {A B : Type 0} (x : A) → None ≡ Some x → B
unfolding IsThere
none_is_no x e = absurd (subst IsThere (sym e) tt)

pub some_same : {A : Type 0} (x y : A) → Some x ≡ Some y → x ≡ y
some_same x y e = ap (λ o. unwrap_or o y) e
