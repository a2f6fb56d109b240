-- Items of which no min-content contribution is above the max-content contribution.
use Rattle.std.proofs.Common.{subst, ◌≡◌, sym, ℕ, ◌+◌, ◌<◌, ◌≤◌, ◌≤ℤ◌, List, [], drop, length, get_or}
use Rattle.std.proofs.Math.ListN.{drop_of_length-le}
use Rattle.lunit.specs.declared.item.Item.{Item}
use Rattle.track_sizing.specs.Again.{AreOrdered}
use Rattle.track_sizing.proofs.Sums.{drop_item}

-- Where those from this place on are ordered, all are.
pub record IsOrderedTo (items : List Item) (i : ℕ) : Type 0 where
  pub whole : AreOrdered (drop i items) → AreOrdered items

pub ordered_start : (items : List Item) → IsOrderedTo items 0
ordered_start items = record { whole = λ h. h }

pub ordered_more : (items : List Item) (k : ℕ) (i : Item) → IsOrderedTo items k → k < length items → i ≡ get_or items k i → i.low ≤ℤ i.high → IsOrderedTo items (k + 1)
ordered_more items k i so h e o = record { whole = λ rest. so.whole (subst AreOrdered (sym (drop_item items k i h e)) (o, rest)) }

pub ordered_all : (items : List Item) (k : ℕ) → IsOrderedTo items k → length items ≤ k → AreOrdered items
ordered_all items k so h = let none : drop k items ≡ [] = drop_of_length-le items h in so.whole (subst AreOrdered (sym none) tt)

pub ruleset items_ordered = (ordered_start, ordered_more, ordered_all)
