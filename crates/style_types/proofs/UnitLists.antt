-- Units of which those of px at the front are counted, and parts of units.
use Rattle.std.proofs.Common.{◌≡◌, ℕ, zero, suc, ◌+◌, ◌-◌, ◌<◌, ◌==◌, Bool, true, false, ◌&&◌, ◌||◌, ℤ, Option, Some, None, List, [], ◌∷◌, ◌++◌, length, length-append, refl, sym, ap, ◌∙◌, arith, append_assoc}
use Rattle.std.specs.Prelude.{slice_get}
use Rattle.std.specs.List.{list_all}
use Rattle.std.specs.Option.{unwrap_or}
use Rattle.std.proofs.lemmas.Bool.{ne_eqb, true≢false}
use Rattle.std.proofs.lemmas.Option.{none-some}
use Rattle.runs.specs.Times.{items_of, times}
use Rattle.style_types.specs.Computed.{are_px, next_length}
use Rattle.style_types.specs.UnitLists.{part_is_px, units_in}
use Rattle.style_types.specs.Units.{length_of}
use Rattle.style_types.specs.declared.unit.Unit.{Unit}
use Rattle.style_types.specs.declared.unit.Unit.TheVariants as unit

-- ---- a unit behind the others

behind : (n : ℕ) (others : List Unit) (u : Unit) → units_in n (others ++ u ∷ []) ≡ units_in n others ++ u ∷ []
behind zero others u = refl
behind (suc n) others u = ap (λ (units : List Unit). unit.Px ∷ units) (behind n others u)

pub behind_parts : (n : ℕ) (parts others : List Unit) (u : Unit) → units_in n (parts ++ (others ++ u ∷ [])) ≡ units_in n (parts ++ others) ++ u ∷ []
behind_parts n parts others u = ap (units_in n) (sym (append_assoc parts others (u ∷ []))) ∙ behind n (parts ++ others) u

-- one of px behind others of px
px_more : (n : ℕ) → units_in (suc n) [] ≡ units_in n [] ++ unit.Px ∷ []
px_more zero = refl
px_more (suc n) = ap (λ (units : List Unit). unit.Px ∷ units) (px_more n)

px_behind : (n : ℕ) (others : List Unit) → others ≡ [] → units_in (n + 1) others ≡ units_in n others ++ unit.Px ∷ []
px_behind n others e =
    let next : n + 1 ≡ suc n = omega arith in
    ap (λ (m : ℕ). units_in m others) next
    ∙ ap (units_in (suc n)) e
    ∙ px_more n
    ∙ ap (λ (units : List Unit). units_in n units ++ unit.Px ∷ []) (sym e)

pub px_behind_parts : (n : ℕ) (parts others : List Unit) → parts ≡ [] → others ≡ [] → units_in (n + 1) (parts ++ others) ≡ units_in n (parts ++ others) ++ unit.Px ∷ []
px_behind_parts n parts others p o = px_behind n (parts ++ others) (ap (λ (xs : List Unit). xs ++ others) p ∙ o)

pub ruleset adding = (behind_parts, px_behind_parts)

-- ---- the first unit

pub px_got : (n : ℕ) (others : List Unit) → 0 < n → Some unit.Px ≡ slice_get (units_in n others) 0
px_got zero others h = absurd (omega arith)
px_got (suc n) others h = refl

pub part_got : (n : ℕ) (parts others : List Unit) (u : Unit) → n ≡ 0 → Some u ≡ slice_get parts 0 → Some u ≡ slice_get (units_in n (parts ++ others)) 0
part_got n [] others u z e = absurd (none-some u (sym e))
part_got n (v ∷ parts) others u z e = e ∙ ap (λ (m : ℕ). slice_get (units_in m ((v ∷ parts) ++ others)) 0) (sym z)

pub other_got : (n : ℕ) (parts others : List Unit) → n ≡ 0 → None ≡ slice_get parts 0 → slice_get others 0 ≡ slice_get (units_in n (parts ++ others)) 0
other_got n [] others z e = ap (λ (m : ℕ). slice_get (units_in m others) 0) (sym z)
other_got n (v ∷ parts) others z e = absurd (none-some v e)

pub ruleset reading = (px_got, part_got, other_got)

pub first_is : (em rem px : ℤ) (units : List Unit) (u : Unit) → Some u ≡ slice_get units 0 → length_of em rem u px ≡ (next_length em rem px units).0
first_is em rem px [] u e = absurd (none-some u (sym e))
first_is em rem px (v ∷ units) u e = ap (λ (o : Option Unit). length_of em rem (unwrap_or o v) px) e

pub none_is : (em rem px : ℤ) (units : List Unit) → None ≡ slice_get units 0 → px ≡ (next_length em rem px units).0
none_is em rem px [] e = refl
none_is em rem px (v ∷ units) e = absurd (none-some v e)

pub ruleset first_read = (first_is, none_is)

-- ---- px alone

px_both : (xs ys : List Unit) → are_px (xs ++ ys) ≡ (are_px xs && are_px ys)
px_both [] ys = refl
px_both (unit.Px ∷ xs) ys = px_both xs ys
px_both (unit.Em m ∷ xs) ys = refl
px_both (unit.Rem m ∷ xs) ys = refl

absorbed : (a z : Bool) → (a && (z || a)) ≡ a
absorbed true true = refl
absorbed true false = refl
absorbed false z = refl

px_times : (n : ℕ) (xs : List Unit) → are_px (times n xs) ≡ (n == 0 || are_px xs)
px_times zero xs = refl
px_times (suc n) xs =
    px_both xs (times n xs)
    ∙ ap (λ (b : Bool). are_px xs && b) (px_times n xs)
    ∙ absorbed (are_px xs) (n == 0)
    ∙ ap (λ (z : Bool). z || are_px xs) (sym (ne_eqb (suc n) 0 (λ e. omega (arith, e))))

px_items : (parts : List (ℕ × List Unit)) → are_px (items_of parts) ≡ list_all part_is_px parts
px_items [] = refl
px_items (part ∷ parts) =
    px_both (times part.0 part.1) (items_of parts)
    ∙ ap (λ (b : Bool). b && are_px (items_of parts)) (px_times part.0 part.1)
    ∙ ap (λ (b : Bool). part_is_px part && b) (px_items parts)

pub parts_px : (units : List Unit) (parts : List (ℕ × List Unit)) (b : Bool) → units ≡ items_of parts → b ≡ list_all part_is_px parts → b ≡ are_px units
parts_px units parts b e h = h ∙ sym (px_items parts) ∙ ap are_px (sym e)

pub ruleset px_parts = (parts_px)

px_in : (n : ℕ) (parts others : List Unit) → are_px (units_in n (parts ++ others)) ≡ (are_px parts && are_px others)
px_in zero parts others = px_both parts others
px_in (suc n) parts others = px_in n parts others

pub px_then : (n : ℕ) (parts others : List Unit) (b : Bool) → are_px parts ≡ true → b ≡ are_px others → b ≡ are_px (units_in n (parts ++ others))
px_then n parts others b h k = k ∙ sym (px_in n parts others ∙ ap (λ (a : Bool). a && are_px others) h)

pub px_else : (n : ℕ) (parts others : List Unit) → are_px parts ≡ false → false ≡ are_px (units_in n (parts ++ others))
px_else n parts others h = sym (px_in n parts others ∙ ap (λ (a : Bool). a && are_px others) h)

pub ruleset px_found = (px_then, px_else)

both_hold : (a b : Bool) → a ≡ true → b ≡ true → (a && b) ≡ true
both_hold true b h k = k
both_hold false b h k = absurd (true≢false (sym h))

counted : (xs : List Unit) → are_px xs ≡ true → units_in (length xs) [] ≡ xs
counted [] h = refl
counted (unit.Px ∷ xs) h = ap (λ (units : List Unit). unit.Px ∷ units) (counted xs h)
counted (unit.Em m ∷ xs) h = absurd (true≢false (sym h))
counted (unit.Rem m ∷ xs) h = absurd (true≢false (sym h))

pub both_counted : (n : ℕ) (parts others : List Unit) → are_px parts ≡ true → are_px others ≡ true → n ≡ length parts + length others → units_in n [] ≡ parts ++ others
both_counted n parts others h k e =
    ap (λ (m : ℕ). units_in m []) (e ∙ sym (length-append parts others)) ∙ counted (parts ++ others) (px_both parts others ∙ both_hold (are_px parts) (are_px others) h k)

pub ruleset all_counted = (both_counted)

-- ---- written out

-- one more of px, behind those before
pub px_written_more : (n : ℕ) → units_in (n + 1) [] ≡ units_in n [] ++ unit.Px ∷ []
px_written_more n = px_behind n [] refl

px_all : (n : ℕ) (others : List Unit) → units_in n [] ++ others ≡ units_in n others
px_all zero others = refl
px_all (suc n) others = ap (λ (units : List Unit). unit.Px ∷ units) (px_all n others)

pub all_written : (n : ℕ) (parts others : List Unit) → (units_in n [] ++ parts) ++ others ≡ units_in n (parts ++ others)
all_written n parts others = append_assoc (units_in n []) parts others ∙ px_all n (parts ++ others)

pub ruleset px_written = (px_written_more, all_written)
