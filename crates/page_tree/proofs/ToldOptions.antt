-- What holds of an optional value where it is there, and of each element of a list.
use Rattle.std.proofs.Common.{◌≡◌, refl, sym, ap, ◌∙◌, true≢false, not, ◌&&◌, ◌||◌, ℕ, zero, suc, Bool, true, false, List, [], ◌∷◌, ◌++◌, take, Option, Some, None, if◌then◌else◌}
use Rattle.std.specs.Prelude.{IfSome, ⊤, replicate}
use Rattle.std.specs.Option.{option_map}
use Rattle.track_text.specs.Words.{bind}
use Rattle.track_text.specs.Repeats.{joined, times}

-- ---- options

pub some_if : {A : Type 0} (P : A → Type 0) (b : Bool) (x y : Option A) → IfSome x P → IfSome y P → IfSome (if b then x else y) P
some_if P true x y h k = h
some_if P false x y h k = k

-- a value that is there only where the test passes
pub some_where : {A : Type 0} (P : A → Type 0) (b : Bool) (x : Option A) → (b ≡ true → IfSome x P) → IfSome (if b then x else None) P
some_where P true x h = h refl
some_where P false x h = tt

pub some_unless : {A : Type 0} (P : A → Type 0) (b : Bool) (x : Option A) → (b ≡ false → IfSome x P) → IfSome (if b then None else x) P
some_unless P true x h = tt
some_unless P false x h = h refl

pub some_map : {A B : Type 0} (P : B → Type 0) (f : A → B) (o : Option A) → IfSome o (λ a. P (f a)) → IfSome (option_map f o) P
some_map P f None h = tt
some_map P f (Some a) h = h

pub some_bind : {A B : Type 0} (P : B → Type 0) (o : Option A) (next : A → Option B) → IfSome o (λ a. IfSome (next a) P) → IfSome (bind o next) P
some_bind P None next h = tt
some_bind P (Some a) next h = h

pub some_weaker : {A : Type 0} (P Q : A → Type 0) (o : Option A) → ((a : A) → P a → Q a) → IfSome o P → IfSome o Q
some_weaker P Q None w h = tt
some_weaker P Q (Some a) w h = w a h

pub some_any : {A : Type 0} (P : A → Type 0) (o : Option A) → ((a : A) → P a) → IfSome o P
some_any P None h = tt
some_any P (Some a) h = h a

-- ---- lists

abbrev pub Each : {A : Type 0} → (A → Type 0) → List A → Type 0
Each P [] = ⊤
Each P (x ∷ xs) = P x × Each P xs

pub each_append : {A : Type 0} (P : A → Type 0) (xs ys : List A) → Each P xs → Each P ys → Each P (xs ++ ys)
each_append P [] ys h k = k
each_append P (x ∷ xs) ys h k = (h.0, each_append P xs ys h.1 k)

pub each_take : {A : Type 0} (P : A → Type 0) (n : ℕ) (xs : List A) → Each P xs → Each P (take n xs)
each_take P zero xs h = tt
each_take P (suc n) [] h = tt
each_take P (suc n) (x ∷ xs) h = (h.0, each_take P n xs h.1)

each_replicate : {A : Type 0} (P : A → Type 0) (n : ℕ) (x : A) → P x → Each P (replicate n x)
each_replicate P zero x h = tt
each_replicate P (suc n) x h = (h, each_replicate P n x h)

pub each_joined : {A : Type 0} (P : A → Type 0) (xss : List (List A)) → Each (Each P) xss → Each P (joined xss)
each_joined P [] h = tt
each_joined P (xs ∷ xss) h = each_append P xs (joined xss) h.0 (each_joined P xss h.1)

pub each_times : {A : Type 0} (P : A → Type 0) (count : ℕ) (xs : List A) → Each P xs → Each P (times count xs)
each_times P count xs h = each_joined P (replicate count xs) (each_replicate (Each P) count xs h)

-- ---- tests

pub both_true : (a b : Bool) → (a && b) ≡ true → (a ≡ true) × (b ≡ true)
both_true true b h = (refl, h)
both_true false b h = absurd (true≢false (sym h))

pub and_true : (a b : Bool) → a ≡ true → b ≡ true → (a && b) ≡ true
and_true a b p q = ap (λ x. x && b) p ∙ q

pub not_true : (b : Bool) → not b ≡ true → b ≡ false
not_true true h = absurd (true≢false (sym h))
not_true false h = refl

pub other_true : (a b : Bool) → (a || b) ≡ true → a ≡ false → b ≡ true
other_true true b h e = absurd (true≢false e)
other_true false b h e = h
