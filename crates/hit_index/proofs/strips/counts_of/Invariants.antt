use Rattle.std.proofs.Common.{◌-◌}
use Rattle.hit_index.proofs.strips.counts_of.Given as goal

abbrev pub decreases-loop-strip : goal.decreases-loop-strip
decreases-loop-strip l = 64 - l.strip
