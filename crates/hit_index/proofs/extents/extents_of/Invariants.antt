use Rattle.std.proofs.Common.{◌≡◌, length}
use Rattle.hit_index.specs.Extents.{AreAround}
use Rattle.hit_index.proofs.extents.extents_of.Given as goal

abbrev pub invariant-loop-run : goal.invariant-loop-run
invariant-loop-run l = record {
  count : length l.extents.items ≡ l.run;
  around : AreAround l.rects l.numbers l.extents.items;
}
