use Rattle.std.proofs.Common.{◌-◌}
use Rattle.hit_index.proofs.Adding.{AddsUpTo}
use Rattle.hit_index.proofs.strips.add_box.Given as goal

abbrev pub invariant-loop-strip : goal.invariant-loop-strip
invariant-loop-strip l = AddsUpTo l.edges l.rect l.number l.fn.strips l.strip l.strips

abbrev pub decreases-loop-strip : goal.decreases-loop-strip
decreases-loop-strip l = 64 - l.strip
