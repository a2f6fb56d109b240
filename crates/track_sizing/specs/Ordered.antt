-- Items in the order of how many tracks they span, and runs of those that span as many.
use Rattle.std.specs.Prelude.{◌≡◌, ℕ, ℤ, pos, ◌+ℤ◌, ◌≤ℤ◌, Bool, List, [], ◌∷◌, filter, take, drop}
use Rattle.std.specs.Ordering.{int_eq}
use Rattle.lunit.specs.declared.item.Item.{Item}
use Rattle.part_rules.specs.Tracks.{span_length}
use Rattle.track_sizing.specs.Placed.{AreIn}

-- an item that spans so many tracks
abbrev pub has : ℤ → Item → Bool
has k i = int_eq (span_length i) k

-- none spans fewer
abbrev pub AreFrom : ℤ → List Item → Type 0
AreFrom k [] = Unit {0}
AreFrom k (i ∷ rest) = (k ≤ℤ span_length i) × AreFrom k rest

-- none spans fewer than one before it
abbrev pub AreRising : List Item → Type 0
AreRising [] = Unit {0}
AreRising (i ∷ rest) = AreFrom (span_length i) rest × AreRising rest

-- each spans so many
abbrev pub AreOf : ℤ → List Item → Type 0
AreOf k [] = Unit {0}
AreOf k (i ∷ rest) = (span_length i ≡ k) × AreOf k rest

-- the items in order, those that span as many as they were
pub record IsInOrder (items sorted : List Item) : Type 0 where
  pub same : (k : ℤ) → filter (has k) sorted ≡ filter (has k) items
  pub rising : AreRising sorted
  pub from : (k : ℤ) → AreFrom k items → AreFrom k sorted
  pub in_them : (first : ℤ) (n : ℕ) → AreIn first n items → AreIn first n sorted

-- what is left of them from a number on
pub record IsLeft (k : ℤ) (items left : List Item) : Type 0 where
  pub same : (j : ℤ) → k ≤ℤ j → filter (has j) left ≡ filter (has j) items
  pub rising : AreRising left
  pub from : AreFrom k left

-- The first so many of them are those that span so many.
pub record IsRun (k : ℤ) (left : List Item) (n : ℕ) : Type 0 where
  pub each : AreOf k (take n left)
  pub own : filter (has k) (take n left) ≡ filter (has k) left
  pub others : (j : ℤ) → (k +ℤ pos 1) ≤ℤ j → filter (has j) (drop n left) ≡ filter (has j) left
  pub rising : AreRising (drop n left)
  pub from : AreFrom (k +ℤ pos 1) (drop n left)
