-- What a list ends as, where a `&mut` to an item or to all of them is returned.
use Rattle.std.specs.Prelude.{ℕ, List, Option, slice_set, length}
use Rattle.std.specs.List.{refill}
use Rattle.std.specs.Borrow.{Lends, LendsIf, Fml, RattleType, MutBor, Array}
use Rattle.lunit.specs.contracts.sequence.Sequence.{the_row}

module _ (T : RattleType) (v : MutBor (List T.Denot)) where
  -- the list ends as the slice does
  abbrev pub lends_slice : MutBor (List T.Denot) → Fml
  lends_slice r = Lends (the_row T) (Array T 0) v r (refill (length v.now) v.now)

  -- the item at an index ends as what is written there; where there is none the list stays
  abbrev pub lends_item : ℕ → Option (MutBor T.Denot) → Fml
  lends_item i r = LendsIf (the_row T) T v r (slice_set v.now i) v.now
