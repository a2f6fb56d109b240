-- Named areas along an axis.
use Rattle.std.proofs.Common.{◌≡◌, refl, sym, ap, ◌∙◌, arith, ℕ, ◌≤◌, ◌==◌, ℤ, pos, int_le, int_lt, ◌&&◌, Bool, true, false, List, [], ◌∷◌, length, map, Option, Some, None, if◌then◌else◌, true≢false}
use Rattle.std.specs.Prelude.{IsTrue, nat_le}
use Rattle.std.proofs.lemmas.Int.{ints}
use Rattle.lunit.specs.declared.geometry.Area.{Area}
use Rattle.part_rules.specs.LineNames.{NamedSpan}
use Rattle.style_types.specs.declared.value.Areas.{Areas}
use Rattle.line_names.specs.Tables.{are_areas, is_area}
use Rattle.tree_rules.specs.Contexts.{column_cells, named_columns, named_rows, row_cells}
use Rattle.placing.specs.Along.{cells_along, name_along, named_along}
use Rattle.placing.specs.Ranges.{AreAreas}

by_test : Bool → List ℕ × Area → NamedSpan
by_test b n = (n.0, if b then n.1.columns else n.1.rows)

pub named_is : (axis : ℕ) (a : Areas) → map (name_along axis) a.named ≡ named_along axis (Some a)
unfolding by_test
named_is axis a = go (axis == 0)
  where
    go : (b : Bool) → map (by_test b) a.named ≡ (if b then named_columns (Some a) else named_rows (Some a))
    go true = refl
    go false = refl

-- ---- areas in more tracks

and_first : (a b : Bool) → (a && b) ≡ true → a ≡ true
and_first true b h = refl
and_first false b h = absurd (true≢false (sym h))

and_second : (a b : Bool) → (a && b) ≡ true → b ≡ true
and_second true b h = h
and_second false b h = absurd (true≢false (sym h))

both : (a b : Bool) → a ≡ true → b ≡ true → (a && b) ≡ true
both a b p q = ap (λ x. x && b) p ∙ q

le_more : (x : ℤ) (m n : ℕ) → m ≤ n → int_le x (pos m) ≡ true → int_le x (pos n) ≡ true
le_more x m n h e = go (int_le x (pos n)) refl
  where
    go : (t : Bool) → int_le x (pos n) ≡ t → t ≡ true
    go true q = refl
    go false q = absurd (omega (arith, ints, e, q))

area_more : (m n : ℕ) (a : NamedSpan) → m ≤ n → is_area m a ≡ true → is_area n a ≡ true
area_more m n a h e =
    let name = and_first (nat_le (length a.0) 58) (int_le (pos 0) a.1.start && (int_lt a.1.start a.1.end && int_le a.1.end (pos m))) e in
    let lines = and_second (nat_le (length a.0) 58) (int_le (pos 0) a.1.start && (int_lt a.1.start a.1.end && int_le a.1.end (pos m))) e in
    let low = and_first (int_le (pos 0) a.1.start) (int_lt a.1.start a.1.end && int_le a.1.end (pos m)) lines in
    let more = and_second (int_le (pos 0) a.1.start) (int_lt a.1.start a.1.end && int_le a.1.end (pos m)) lines in
    let some = and_first (int_lt a.1.start a.1.end) (int_le a.1.end (pos m)) more in
    let high = and_second (int_lt a.1.start a.1.end) (int_le a.1.end (pos m)) more in
    both (nat_le (length a.0) 58) (int_le (pos 0) a.1.start && (int_lt a.1.start a.1.end && int_le a.1.end (pos n))) name
    (both (int_le (pos 0) a.1.start) (int_lt a.1.start a.1.end && int_le a.1.end (pos n)) low
    (both (int_lt a.1.start a.1.end) (int_le a.1.end (pos n)) some (le_more a.1.end m n h high)))

pub areas_more : (m n : ℕ) (xs : List NamedSpan) → m ≤ n → IsTrue (are_areas m xs) → IsTrue (are_areas n xs)
areas_more m n [] h e = refl
areas_more m n (a ∷ rest) h e = both (is_area n a) (are_areas n rest) (area_more m n a h (and_first (is_area m a) (are_areas m rest) e)) (areas_more m n rest h (and_second (is_area m a) (are_areas m rest) e))

pub in_cells : (axis : ℕ) (areas : Option Areas) → AreAreas areas → IsTrue (are_areas (cells_along axis areas) (named_along axis areas))
in_cells axis areas h = go (axis == 0) areas h
  where
    go : (b : Bool) (o : Option Areas) → AreAreas o → IsTrue (are_areas (if b then column_cells o else row_cells o) (if b then named_columns o else named_rows o))
    go true None h = refl
    go false None h = refl
    go true (Some a) h = h.in_columns
    go false (Some a) h = h.in_rows

pub few_cells : (axis : ℕ) (areas : Option Areas) → AreAreas areas → cells_along axis areas ≤ 65536
few_cells axis areas h = go (axis == 0) areas h
  where
    go : (b : Bool) (o : Option Areas) → AreAreas o → (if b then column_cells o else row_cells o) ≤ 65536
    go true None h = omega arith
    go false None h = omega arith
    go true (Some a) h = h.columns
    go false (Some a) h = h.rows
