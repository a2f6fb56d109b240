use Rattle.std.proofs.Common.{◌-ℤ◌}
use Rattle.std.specs.Prelude.{unsigned_abs}
use Rattle.cell_index.specs.Passed.{last_line, moved}
use Rattle.cell_index.proofs.Found.{AreShut}
use Rattle.cell_index.proofs.list.next_listed.Given as goal

abbrev pub invariant-search : goal.invariant-search
invariant-search l = AreShut (moved l.down l.across l.tracks) l.areas l.start l.line

abbrev pub decreases-search : goal.decreases-search
decreases-search l = unsigned_abs (last_line -ℤ l.line)
