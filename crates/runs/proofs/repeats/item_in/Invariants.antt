use Rattle.std.proofs.Common.{◌≡◌, ◌≤◌, drop, length}
use Rattle.std.specs.Prelude.{slice_get}
use Rattle.runs.specs.Times.{items_of}
use Rattle.runs.proofs.repeats.item_in.Given as goal

-- the item is the one at `left` of the parts that are left
abbrev pub invariant-loop-count : goal.invariant-loop-count
invariant-loop-count g l = record {
  same : slice_get (items_of (drop l.count-index l.parts)) l.left ≡ slice_get (items_of l.parts) l.at;
  few : length (items_of (drop l.count-index l.parts)) ≤ 4294967296;
}
