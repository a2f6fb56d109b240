-- Points in boxes.
use Rattle.std.proofs.Common.{◌∙◌, rules, refl, sym, ap, ◌≡◌, ℕ, ◌<◌, ℤ, ◌+ℤ◌, ◌≤ℤ◌, ◌<ℤ◌, true, false, List, length, get_or, int_le, int_lt}
use Rattle.std.specs.Prelude.{Option, Some, None, slice_get}
use Rattle.std.specs.Option.{option_map_or}
use Rattle.std.proofs.lemmas.Bool.{and_parts, and_from, false_from_ne_true}
use Rattle.std.proofs.Math.Bool.{false≢true}
use Rattle.std.proofs.lemmas.Option.{slice_get_read, get_or_from_slice_get}
use Rattle.lunit.specs.declared.geometry.Rect.{Rect}
use Rattle.hit_index.specs.Hits.{contains, hits, is_within}
use Rattle.hit_index.specs.Columns.{reaches_column, TellColumn}
use Rattle.hit_index.specs.declared.columns.ColumnRange.{ColumnRange}

-- ---- tests

lt_from : (a b : ℤ) → int_lt a b ≡ true → a <ℤ b
lt_from a b h = search rules

le_from : (a b : ℤ) → int_le a b ≡ true → a ≤ℤ b
le_from a b h = search rules

to_lt : (a b : ℤ) → a <ℤ b → int_lt a b ≡ true
to_lt a b h = search rules

to_le : (a b : ℤ) → a ≤ℤ b → int_le a b ≡ true
to_le a b h = search rules

-- ---- boxes

-- the point lies in the box
pub record Holds (x y : ℤ) (box : Rect) : Type 0 where
  pub left : box.x ≤ℤ x
  pub right : x <ℤ (box.x +ℤ box.width)
  pub top : box.y ≤ℤ y
  pub bottom : y <ℤ (box.y +ℤ box.height)

within_from : (start length place : ℤ) → is_within start length place ≡ true → (start ≤ℤ place) × (place <ℤ (start +ℤ length))
within_from start length place h =
    let parts : (int_le start place ≡ true) × (int_lt place (start +ℤ length) ≡ true) = and_parts (int_le start place) (int_lt place (start +ℤ length)) h in
    (le_from start place parts.0, lt_from place (start +ℤ length) parts.1)

to_within : (start length place : ℤ) → start ≤ℤ place → place <ℤ (start +ℤ length) → is_within start length place ≡ true
to_within start length place h k = and_from (int_le start place) (int_lt place (start +ℤ length)) (to_le start place h) (to_lt place (start +ℤ length) k)

pub holds_from : (x y : ℤ) (box : Rect) → contains x y box ≡ true → Holds x y box
holds_from x y box h =
    let parts : (is_within box.x box.width x ≡ true) × (is_within box.y box.height y ≡ true) = and_parts (is_within box.x box.width x) (is_within box.y box.height y) h in
    let across = within_from box.x box.width x parts.0 in
    let down = within_from box.y box.height y parts.1 in
    record { left = across.0; right = across.1; top = down.0; bottom = down.1 }

pub to_contains : (x y : ℤ) (box : Rect) → Holds x y box → contains x y box ≡ true
to_contains x y box h = and_from (is_within box.x box.width x) (is_within box.y box.height y) (to_within box.x box.width x h.left h.right) (to_within box.y box.height y h.top h.bottom)

-- the box that was read is the one with the number
pub hits_at : (boxes : List Rect) (x y : ℤ) (number : ℕ) (box : Rect) → number < length boxes → box ≡ get_or boxes number box → contains x y box ≡ hits boxes x y number
unfolding hits
hits_at boxes x y number box h e = ap (λ (o : Option Rect). option_map_or (contains x y) o false) (sym (slice_get_read boxes (length boxes) number box refl h e))

-- a box that is passed by for its columns is not hit
pub passed_by : (boxes : List Rect) (x y : ℤ) (ranges : List ColumnRange) (column number : ℕ) (d : ColumnRange) → number < length boxes → TellColumn x y boxes ranges column → reaches_column (get_or ranges number d) column ≡ false → false ≡ hits boxes x y number
unfolding hits
passed_by boxes x y ranges column number d h t out = sym (false_from_ne_true (hits boxes x y number) (by (slice_get boxes number) refl))
  where
    by : (o : Option Rect) → slice_get boxes number ≡ o → option_map_or (contains x y) o false ≡ true → ⊥
    by None s c = false≢true c
    by (Some box) s c =
        let is : get_or boxes number box ≡ box = get_or_from_slice_get boxes number box box s in
        let reached : reaches_column (get_or ranges number d) column ≡ true = t.told number box d h (ap (contains x y) is ∙ c) in
        false≢true (sym out ∙ reached)
