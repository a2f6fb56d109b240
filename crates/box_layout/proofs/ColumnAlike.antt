-- The items of a column of a tree are those of the definitions, and there are no more lines than items.
use Rattle.std.proofs.Common.{arith, ap, ◌≡◌, refl, ℕ, ◌+◌, ◌≤◌, ℤ, Bool, true, false, List, [], ◌∷◌, ◌++◌, length, map, Some, if◌then◌else◌}
use Rattle.part_rules.specs.declared.flex.FlexItem.{FlexItem}
use Rattle.part_rules.specs.FlexLines.{line_length, line_ranges, lines_of, ranges_from}
use Rattle.part_rules.specs.Lists.{filled_from, zipped}
use Rattle.std.specs.Prelude.{int_le}
use Rattle.placing.specs.Nodes.{BareTrees}
use Rattle.tree_rules.specs.FlexSizes as rules
use Rattle.inline_sizes.specs.Flexes.{member_of}
use Rattle.placing.specs.declared.lined.Member.{Member}
use Rattle.box_layout.specs.FlexFrames.{block_of, member_item, settled_by}

pub items_alike : (b : BareTrees) (height : ℤ) (members : List Member) (boxes : List ℤ) → zipped (member_item b height) members (map block_of (settled_by b members boxes)) ≡ map (rules.column_item (Some height)) (settled_by b members boxes)
items_alike b height [] boxes = refl
items_alike b height (m ∷ members) [] = refl
items_alike b height (m ∷ members) (box ∷ boxes) = ap (λ is. rules.column_item (Some height) (rules.settled_at (member_of b m) box) ∷ is) (items_alike b height members boxes)

-- ---- lines

filled_few : {A : Type 0} → (fits : List A → Bool) (rest line : List A) → length (filled_from fits line rest) ≤ length rest + 1
filled_few fits [] line = omega arith
filled_few {A} fits (x ∷ rest) line = go (fits (line ++ x ∷ [])) (filled_few fits rest (line ++ x ∷ [])) (filled_few fits rest (x ∷ []))
  where
    go : (t : Bool) → length (filled_from fits (line ++ x ∷ []) rest) ≤ length rest + 1 → length (filled_from fits (x ∷ []) rest) ≤ length rest + 1 → length (if t then filled_from fits (line ++ x ∷ []) rest else line ∷ filled_from fits (x ∷ []) rest) ≤ length (x ∷ rest) + 1
    go true h k = omega (arith, h)
    go false h k = omega (arith, k)

lines_few : (main gap : ℤ) (wrap : Bool) (items : List FlexItem) → length (lines_of main gap wrap items) ≤ length items
lines_few main gap true [] = omega arith
lines_few main gap true (x ∷ rest) = omega (arith, filled_few (λ line. int_le (line_length gap line) main) rest (x ∷ []))
lines_few main gap false [] = omega arith
lines_few main gap false (x ∷ rest) = omega arith

ranges_count : {A : Type 0} → (n : ℕ) (lines : List (List A)) → length (ranges_from n lines) ≡ length lines
ranges_count n [] = refl
ranges_count n (line ∷ rest) = omega (arith, ranges_count (n + length line) rest)

-- no more lines than items
pub ranges_few : (main gap : ℤ) (wrap : Bool) (items : List FlexItem) → length (line_ranges main gap wrap items) ≤ length items
ranges_few main gap wrap items = omega (arith, ranges_count 0 (lines_of main gap wrap items), lines_few main gap wrap items)
