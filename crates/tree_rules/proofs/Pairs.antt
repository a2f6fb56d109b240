-- Lists whose items belong together one by one.
use Rattle.std.specs.Prelude.{◌≡◌, List, [], ◌∷◌, ◌++◌, map, length}
use Rattle.std.proofs.Common.{arith}
use Rattle.part_rules.specs.Lists.{zipped}
use Rattle.tree_rules.proofs.Sorted.{EachTwo}

pub each_mapped : {A B : Type 0} (R : A → B → Type 0) (f : A → B) → ((a : A) → R a (f a)) → (xs : List A) → EachTwo R xs (map f xs)
each_mapped R f h [] = tt
each_mapped R f h (x ∷ rest) = (h x, each_mapped R f h rest)

pub each_zipped : {A B C : Type 0} (R : A → C → Type 0) (f : A → B → C) → ((a : A) (b : B) → R a (f a b)) → (xs : List A) (ys : List B) → length ys ≡ length xs → EachTwo R xs (zipped f xs ys)
each_zipped R f h [] ys e = tt
each_zipped R f h (x ∷ xs) [] e = absurd (omega arith)
each_zipped R f h (x ∷ xs) (y ∷ ys) e = (h x y, each_zipped R f h xs ys (omega arith))

pub each_through : {A B C : Type 0} (R : A → B → Type 0) (S : B → C → Type 0) (T : A → C → Type 0) → ((a : A) (b : B) (c : C) → R a b → S b c → T a c) → (xs : List A) (ys : List B) (zs : List C) → EachTwo R xs ys → EachTwo S ys zs → EachTwo T xs zs
each_through R S T h [] [] [] r s = tt
each_through R S T h [] [] (z ∷ zs) r s = absurd s
each_through R S T h [] (y ∷ ys) zs r s = absurd r
each_through R S T h (x ∷ xs) [] zs r s = absurd r
each_through R S T h (x ∷ xs) (y ∷ ys) [] r s = absurd s
each_through R S T h (x ∷ xs) (y ∷ ys) (z ∷ zs) r s = (h x y z r.0 s.0, each_through R S T h xs ys zs r.1 s.1)

pub each_weaker : {A B : Type 0} (R S : A → B → Type 0) → ((a : A) (b : B) → R a b → S a b) → (xs : List A) (ys : List B) → EachTwo R xs ys → EachTwo S xs ys
each_weaker R S h [] [] r = tt
each_weaker R S h [] (y ∷ ys) r = absurd r
each_weaker R S h (x ∷ xs) [] r = absurd r
each_weaker R S h (x ∷ xs) (y ∷ ys) r = (h x y r.0, each_weaker R S h xs ys r.1)

pub each_joined : {A B : Type 0} (R : A → B → Type 0) (xs us : List A) (ys vs : List B) → EachTwo R xs ys → EachTwo R us vs → EachTwo R (xs ++ us) (ys ++ vs)
each_joined R [] us [] vs r s = s
each_joined R [] us (y ∷ ys) vs r s = absurd r
each_joined R (x ∷ xs) us [] vs r s = absurd r
each_joined R (x ∷ xs) us (y ∷ ys) vs r s = (r.0, each_joined R xs us ys vs r.1 s)
