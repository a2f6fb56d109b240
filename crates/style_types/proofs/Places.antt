-- Entries as the map that they stand for: a look-up by place, a write, an entry at the end, and entries taken out.
use Rattle.std.proofs.Common.{◌≡◌, ℕ, suc, ◌+◌, ◌<◌, Bool, true, false, cond, ◌==◌, List, [], ◌∷◌, ◌++◌, length, Option, Some, None, get_or, slice_set, refl, ap, sym, subst, ◌∙◌, arith}
use Rattle.std.proofs.lemmas.Bool.Decides.{nat_tests}
use Rattle.std.specs.List.{position_from}
use Rattle.std.specs.Option.{unwrap_or}
use Rattle.std.specs.Ordering.{eq_by_cmp, nat_cmp, is_eq}
use Rattle.std.specs.FinMap as map
use Rattle.style_types.specs.Entries.{is_entry_of}
use Rattle.style_types.specs.Order.{place_of, prop_cmp, prop_cmp_total, prop_cmp-IsAntisymmetric}
use Rattle.style_types.specs.Styles.{StyleMap, value_of}
use Rattle.style_types.specs.Table.{initial}
use Rattle.style_types.specs.declared.prop.Prop.{Prop}

abbrev pub Entries : Type 0 → Type 0
Entries V = List (Prop × V)

abbrev PropMapOf : Type 0 → Type 0
PropMapOf V = map.FinMap prop_cmp V

-- the value of the first entry of the property
abbrev pub value_in : {V : Type 0} → Prop → Entries V → Option V
value_in q [] = None
value_in q (e ∷ es) = cond (is_entry_of q e) (Some e.1) (value_in q es)

-- ---- tests of places

-- two properties tie where they have one place
ties : (m n : ℕ) → is_eq (nat_cmp m n) ≡ (n == m)
ties m n = grind (arith, nat_tests)

same_place : (m : ℕ) → (m == m) ≡ true
same_place m = grind (arith, nat_tests)

-- a value at k in front of one at the same place hides it
hidden : {A : Type 0} (m k n : ℕ) (x y z : A) → (m == k) ≡ true → cond (k == n) x z ≡ cond (k == n) x (cond (m == n) y z)
hidden m k n x y z h = grind (arith, nat_tests)

-- values at two places may be looked for in either order
swapped : {A : Type 0} (m k n : ℕ) (x y z : A) → (m == k) ≡ false → cond (m == n) y (cond (k == n) x z) ≡ cond (k == n) x (cond (m == n) y z)
swapped m k n x y z h = grind (arith, nat_tests)

-- ---- a place that was found

-- the place of the property's first entry: its value, and what a write there changes
pub record IsPlace {V : Type 0} (p : Prop) (es : Entries V) (i : ℕ) : Type 0 where
  pub within : i < length es
  pub value : (d : Prop × V) → value_in p es ≡ Some (get_or es i d).1
  pub write : (v : V) (q : Prop) → value_in q (slice_set es i (p, v)) ≡ cond (place_of p == place_of q) (Some v) (value_in q es)

-- an entry of the property in front
first : {V : Type 0} → (p : Prop) (e : Prop × V) (es : Entries V) → is_entry_of p e ≡ true → IsPlace p (e ∷ es) 0
first p e es h = record {
  within = omega arith;
  value = λ d. ap (λ b. cond b (Some e.1) (value_in p es)) h;
  write = λ v q. hidden (place_of e.0) (place_of p) (place_of q) (Some v) (Some e.1) (value_in q es) h;
}

-- an entry of another property in front
later : {V : Type 0} → (p : Prop) (e : Prop × V) (es : Entries V) (k : ℕ) → is_entry_of p e ≡ false → IsPlace p es k → IsPlace p (e ∷ es) (suc k)
later p e es k h at = record {
  within = omega (arith, at.within);
  value = λ d. ap (λ b. cond b (Some e.1) (value_in p es)) h ∙ at.value d;
  write = λ v q. ap (cond (is_entry_of q e) (Some e.1)) (at.write v q) ∙ swapped (place_of e.0) (place_of p) (place_of q) (Some v) (Some e.1) (value_in q es) h;
}

-- the two ways to find a place in a list that is not empty
either_way : {C : Type 0} (b : Bool) (n i : ℕ) (r : Option ℕ) → cond b (Some n) r ≡ Some i → (b ≡ true → i ≡ n → C) → (b ≡ false → r ≡ Some i → C) → C
either_way true n i r h here there = here refl (cc)
either_way false n i r h here there = there refl h

found_from : {V : Type 0} → (n : ℕ) (p : Prop) (es : Entries V) (i : ℕ) → position_from (is_entry_of p) n es ≡ Some i → (k : ℕ) × (i ≡ n + k) × IsPlace p es k
found_from n p [] i h = absurd (cc)
found_from n p (e ∷ es) i h = either_way (is_entry_of p e) n i (position_from (is_entry_of p) (n + 1) es) h
    (λ b at. (0, omega (arith, at), first p e es b))
    (λ b r. let rest = found_from (n + 1) p es i r in (suc rest.0, omega (arith, rest.1), later p e es rest.0 b rest.2))

pub found : {V : Type 0} → (p : Prop) (es : Entries V) (i : ℕ) → position_from (is_entry_of p) 0 es ≡ Some i → IsPlace p es i
found p es i h = let at = found_from 0 p es i h in let e : at.0 ≡ i = omega (arith, at.1) in subst (IsPlace p es) e at.2

-- ---- no place

neither_way : {A : Type 0} (b : Bool) (n : ℕ) (r : Option ℕ) (x z : Option A) → cond b (Some n) r ≡ None → (r ≡ None → z ≡ None) → cond b x z ≡ None
neither_way true n r x z h rest = absurd (cc)
neither_way false n r x z h rest = rest h

pub absent_from : {V : Type 0} → (n : ℕ) (p : Prop) (es : Entries V) → position_from (is_entry_of p) n es ≡ None → value_in p es ≡ None
absent_from n p [] h = refl
absent_from n p (e ∷ es) h = neither_way (is_entry_of p e) n (position_from (is_entry_of p) (n + 1) es) (Some e.1) (value_in p es) h (absent_from (n + 1) p es)

-- ---- as maps

abbrev pub map_of : {V : Type 0} → Entries V → PropMapOf V
map_of es = map.from_entries es

find_is : {V : Type 0} → (q : Prop) (es : Entries V) → map.find prop_cmp q es ≡ value_in q es
find_is q [] = refl
find_is q (e ∷ es) = ap (λ b. cond b (Some e.1) (map.find prop_cmp q es)) (ties (place_of q) (place_of e.0)) ∙ ap (cond (is_entry_of q e) (Some e.1)) (find_is q es)

pub get_is : {V : Type 0} → (es : Entries V) (q : Prop) → map.get (map_of es) q ≡ value_in q es
get_is es q = map.get-from_entries prop_cmp_total es q ∙ find_is q es

pub at_place : {A : Type 0} (p q : Prop) (x y : A) → cond (eq_by_cmp prop_cmp q p) x y ≡ cond (place_of p == place_of q) x y
at_place p q x y = ap (λ b. cond b x y) (ties (place_of q) (place_of p))

-- entries whose values are those of a map with one written make that map
same_as_insert : {V : Type 0} → (es fs : Entries V) (p : Prop) (v : V) → ((q : Prop) → value_in q fs ≡ cond (place_of p == place_of q) (Some v) (value_in q es)) → map_of fs ≡ map.insert (map_of es) p v
same_as_insert es fs p v h = map.same_map prop_cmp_total prop_cmp-IsAntisymmetric (map_of fs) (map.insert (map_of es) p v) (λ q.
    get_is fs q ∙ h q ∙ sym (map.get-insert prop_cmp_total (map_of es) p v q ∙ at_place p q (Some v) (map.get (map_of es) q) ∙ ap (cond (place_of p == place_of q) (Some v)) (get_is es q)))

pub get_found : {V : Type 0} → (es : Entries V) (p : Prop) (i : ℕ) (d : Prop × V) → position_from (is_entry_of p) 0 es ≡ Some i → map.get (map_of es) p ≡ Some (get_or es i d).1
get_found es p i d h = get_is es p ∙ (found p es i h).value d

pub get_absent : {V : Type 0} → (es : Entries V) (p : Prop) → position_from (is_entry_of p) 0 es ≡ None → map.get (map_of es) p ≡ None
get_absent es p h = get_is es p ∙ absent_from 0 p es h

pub place_within : {V : Type 0} → (es : Entries V) (p : Prop) (i : ℕ) → position_from (is_entry_of p) 0 es ≡ Some i → i < length es
place_within es p i h = (found p es i h).within

pub insert_found : {V : Type 0} → (es : Entries V) (p : Prop) (i : ℕ) (v : V) → position_from (is_entry_of p) 0 es ≡ Some i → map_of (slice_set es i (p, v)) ≡ map.insert (map_of es) p v
insert_found es p i v h = same_as_insert es (slice_set es i (p, v)) p v ((found p es i h).write v)

pub insert_absent : {V : Type 0} → (es : Entries V) (p : Prop) (v : V) → position_from (is_entry_of p) 0 es ≡ None → map_of (es ++ (p, v) ∷ []) ≡ map.insert (map_of es) p v
insert_absent es p v h = map.from_entries_push prop_cmp_total prop_cmp-IsAntisymmetric es p v (find_is p es ∙ absent_from 0 p es h)

-- a property that is taken out has its initial value
pub value_of_removed : (m : StyleMap) (p : Prop) → value_of (map.remove m p) p ≡ initial p
value_of_removed m p = ap (λ o. unwrap_or o (initial p)) (map.get-remove prop_cmp_total m p p ∙ at_place p p None (map.get m p) ∙ ap (λ b. cond b None (map.get m p)) (same_place (place_of p)))

pub ruleset found_laws = (get_found, get_absent, place_within, insert_found, insert_absent)
