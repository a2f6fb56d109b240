use Rattle.std.proofs.Common.{ℕ, List, ◌≡◌, drop}
use Rattle.std.specs.BTreeMap.{get}
use Rattle.std.specs.Ordering.{nat_cmp}
use Rattle.std.specs.Cmp.Lexicographic.{slice_cmp}
use Rattle.session.specs.Printing.{Box}
use Rattle.open_document.specs.Apart.{AreApart}
use Rattle.open_document.specs.Changed.{rect_in}
use Rattle.open_document.specs.Steps.{HasStepped}
use Rattle.open_document.proofs.Comparing.{HasNoted}
use Rattle.open_document.proofs.changed.note_others.Given as goal

abbrev pub invariant-loop-index : goal.invariant-loop-index
invariant-loop-index l =
    (before : List Box) → AreApart before → AreApart l.boxes → HasStepped before l.boxes l.count l.fn.changed → ((q : List ℕ) → get (slice_cmp nat_cmp) l.rects q ≡ rect_in (drop l.count before) q) → HasNoted before l.boxes l.index l.changed
