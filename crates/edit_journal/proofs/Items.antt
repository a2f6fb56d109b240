-- Values that are set one after another, and lists that are made item by item.
use Rattle.std.proofs.Common.{◌≡◌, ℕ, suc, ◌+◌, ◌<◌, ◌≤◌, Bool, true, false, cond, not, ◌==◌, ◌&&◌, ◌||◌, List, [], ◌∷◌, ◌++◌, drop, drop-cons, get_or, length, add-one, Option, ap, refl, sym, ◌∙◌, arith}
use Rattle.std.specs.Prelude.{map}
use Rattle.std.specs.List.{list_any, filter}
use Rattle.std.proofs.lemmas.List.Folds.{list_any-append}
use Rattle.std.proofs.lemmas.Bool.Decides.{nat_tests}
use Rattle.std.specs.FinMap as finite
use Rattle.std.proofs.lemmas.List.{append_assoc, append-nil, drop_all}
use Rattle.style_types.specs.declared.prop.Prop.{Prop}
use Rattle.style_types.specs.Order.{place_of}
use Rattle.style_types.specs.declared.declared.DeclaredValue.{DeclaredValue}
use Rattle.doc_text.specs.Label.{DeclaredMap}
use Rattle.edit_journal.specs.Changes.{Values, with_value, with_values}
use Rattle.edit_journal.specs.Steps.{is_other, once}

pub set_one : (xs : Values) (i : ℕ) (m : DeclaredMap) (d : Prop × Option DeclaredValue) → i < length xs → with_values (drop i xs) m ≡ with_values (drop (i + 1) xs) (with_value (get_or xs i d).0 (get_or xs i d).1 m)
set_one xs i m d h = rw add-one (ap (λ l. with_values l m) (drop-cons xs i d h))

pub set_all : (xs : Values) (i : ℕ) (m : DeclaredMap) → length xs ≤ i → with_values (drop i xs) m ≡ m
set_all xs i m h = rw (drop_all i xs h) refl

-- the values of these properties in a style
abbrev pub from_style : DeclaredMap → List Prop → Values
from_style style props = map (λ p. (p, finite.get style p)) props

-- ---- lists

pub mapped_one : {A B : Type 0} (f : A → B) (made : List B) (xs : List A) (i : ℕ) (d : A) → i < length xs → made ++ map f (drop i xs) ≡ (made ++ f (get_or xs i d) ∷ []) ++ map f (drop (i + 1) xs)
mapped_one f made xs i d h = rw add-one (ap (λ l. made ++ map f l) (drop-cons xs i d h) ∙ sym (append_assoc made (f (get_or xs i d) ∷ []) (map f (drop (suc i) xs))))

pub mapped_all : {A B : Type 0} (f : A → B) (made : List B) (xs : List A) (i : ℕ) → length xs ≤ i → made ++ map f (drop i xs) ≡ made
mapped_all f made xs i h = rw (drop_all i xs h) (append-nil made)

abbrev pub is_among : List Prop → Prop → Bool
is_among all q = list_any (λ p. place_of p == place_of q) all

-- the property is not among these
abbrev pub is_new : List Prop → Prop → Bool
is_new all q = not (is_among all q)

-- ---- each property once

all_new : (props : List Prop) → filter (is_new []) props ≡ props
all_new [] = refl
all_new (p ∷ props) = ap (λ l. p ∷ l) (all_new props)

pub once_first : (props : List Prop) → [] ++ filter (is_new []) (once (drop 0 props)) ≡ once props
once_first props = all_new (once props)

-- a filter of a filter is the one of both
two_filters : (f g h : Prop → Bool) → ((q : Prop) → (g q && f q) ≡ h q) → (props : List Prop) → filter f (filter g props) ≡ filter h props
two_filters f g h e [] = refl
two_filters f g h e (p ∷ props) = by_test (g p) (h p) (e p) (two_filters f g h e props)
  where
    by_test : (b c : Bool) → (b && f p) ≡ c → filter f (filter g props) ≡ filter h props → filter f (cond b (p ∷ filter g props) (filter g props)) ≡ cond c (p ∷ filter h props) (filter h props)
    by_test true c k rest = (λ i. cond (k i) (p ∷ rest i) (rest i))
    by_test false c k rest = rest ∙ ap (λ b. cond b (p ∷ filter h props) (filter h props)) k

-- a property that is named before adds nothing
named_before : (all : List Prop) (p : Prop) → is_new all p ≡ false → (q : Prop) → (is_other p q && is_new all q) ≡ is_new all q
named_before all p h q = by_test (place_of p == place_of q) refl
  where
    by_test : (b : Bool) → (place_of p == place_of q) ≡ b → (not b && is_new all q) ≡ is_new all q
    by_test false e = refl
    by_test true e =
        let same : place_of p ≡ place_of q = grind (arith, nat_tests) in
        sym h ∙ ap (λ n. not (list_any (λ r. place_of r == n) all)) same

dropped : (props : List Prop) (i : ℕ) (d : Prop) → i < length props → drop i props ≡ get_or props i d ∷ drop (i + 1) props
dropped props i d h = rw add-one (drop-cons props i d h)

both_new : (all : List Prop) (p q : Prop) → (is_other p q && is_new all q) ≡ is_new (all ++ p ∷ []) q
both_new all p q = by_tests (place_of p == place_of q) (list_any (λ r. place_of r == place_of q) all) ∙ ap not (sym (list_any-append (λ r. place_of r == place_of q) all (p ∷ [])))
  where
    by_tests : (b c : Bool) → (not b && not c) ≡ not (c || (b || false))
    by_tests true true = refl
    by_tests true false = refl
    by_tests false true = refl
    by_tests false false = refl

kept : (all props : List Prop) (p : Prop) → is_among all p ≡ true → all ++ filter (is_new all) (once (p ∷ props)) ≡ all ++ filter (is_new all) (once props)
kept all props p e =
    ap (λ b. all ++ cond b (p ∷ filter (is_new all) (filter (is_other p) (once props))) (filter (is_new all) (filter (is_other p) (once props)))) (ap not e)
    ∙ ap (λ l. all ++ l) (two_filters (is_new all) (is_other p) (is_new all) (named_before all p (ap not e)) (once props))

added : (all props : List Prop) (p : Prop) → is_among all p ≡ false → all ++ filter (is_new all) (once (p ∷ props)) ≡ (all ++ p ∷ []) ++ filter (is_new (all ++ p ∷ [])) (once props)
added all props p e =
    ap (λ b. all ++ cond b (p ∷ filter (is_new all) (filter (is_other p) (once props))) (filter (is_new all) (filter (is_other p) (once props)))) (ap not e)
    ∙ sym (append_assoc all (p ∷ []) (filter (is_new all) (filter (is_other p) (once props)))) ∙ ap (λ l. (all ++ p ∷ []) ++ l) (two_filters (is_new all) (is_other p) (is_new (all ++ p ∷ [])) (both_new all p) (once props))

one_more : (all more props : List Prop) (p : Prop) → more ≡ cond (is_among all p) all (all ++ p ∷ []) → all ++ filter (is_new all) (once (p ∷ props)) ≡ more ++ filter (is_new more) (once props)
one_more all more props p e = by_test (is_among all p) refl e
  where
    by_test : (b : Bool) → is_among all p ≡ b → more ≡ cond b all (all ++ p ∷ []) → all ++ filter (is_new all) (once (p ∷ props)) ≡ more ++ filter (is_new more) (once props)
    by_test true f e = kept all props p f ∙ ap (λ l. l ++ filter (is_new l) (once props)) (sym e)
    by_test false f e = added all props p f ∙ ap (λ l. l ++ filter (is_new l) (once props)) (sym e)

pub once_next : (all more props : List Prop) (i : ℕ) (d : Prop) → i < length props → more ≡ cond (is_among all (get_or props i d)) all (all ++ get_or props i d ∷ [])
    → all ++ filter (is_new all) (once (drop i props)) ≡ more ++ filter (is_new more) (once (drop (i + 1) props))
once_next all more props i d h e = ap (λ l. all ++ filter (is_new all) (once l)) (dropped props i d h) ∙ one_more all more (drop (i + 1) props) (get_or props i d) e

pub once_all : (all props : List Prop) (i : ℕ) → length props ≤ i → all ++ filter (is_new all) (once (drop i props)) ≡ all
once_all all props i h = rw (drop_all i props h) (append-nil all)

pub ruleset once_laws = (once_first, once_next, once_all)

pub ruleset value_laws = (set_one, set_all, mapped_one, mapped_all)
