use Rattle.std.proofs.Common.{◌≡◌, ◌+◌, drop}
use Rattle.page_tree.specs.Places.{place_of}
use Rattle.page_tree.proofs.step.place_of.Given as goal

-- the number is none of those so far
abbrev pub invariant-loop-index : goal.invariant-loop-index
invariant-loop-index l = place_of l.id l.numbers ≡ l.index + place_of l.id (drop l.index l.numbers)
