-- The outer hypothetical sizes of items, added up.
use Rattle.std.proofs.Common.{arith, ap, ◌≡◌, ◌∙◌, ℕ, ◌+◌, ◌<◌, ◌≤◌, ℤ, pos, ◌+ℤ◌, List, drop, get_or, length, map}
use Rattle.std.proofs.lemmas.Int.{ints}
use Rattle.std.proofs.lemmas.List.{drop_all, drop_more}
use Rattle.part_rules.specs.declared.flex.FlexItem.{FlexItem}
use Rattle.part_rules.specs.FlexLines.{outer_hypothetical}
use Rattle.part_rules.specs.Lists.{sum_of}

abbrev outers : List FlexItem → ℤ
outers items = sum_of (map outer_hypothetical items)

-- one item more
pub sum_next : (items : List FlexItem) (i : ℕ) (item : FlexItem) (sum outer next : ℤ) → i < length items → item ≡ get_or items i item → outer ≡ outer_hypothetical item → next ≡ sum +ℤ outer
    → sum +ℤ outers (drop i items) ≡ outers items → next +ℤ outers (drop (i + 1) items) ≡ outers items
sum_next items i item sum outer next h is o n e =
    let more : outers (drop i items) ≡ outer_hypothetical (get_or items i item) +ℤ outers (drop (i + 1) items) = ap outers (drop_more items i item h) in
    let same : outer ≡ outer_hypothetical (get_or items i item) = o ∙ ap outer_hypothetical is in
    omega (arith, ints, more, same, n, e)

-- the sum so far is the whole sum at the end
pub all_summed : (items : List FlexItem) (i : ℕ) (sum : ℤ) → length items ≤ i → sum +ℤ outers (drop i items) ≡ outers items → sum ≡ outers items
all_summed items i sum h e = let none : outers (drop i items) ≡ pos 0 = ap outers (drop_all i items h) in omega (arith, ints, e, none)
