use Rattle.part_rules.specs.Tracks.{Track}
use Rattle.track_sizing.proofs.Loops.{IsMapped}
use Rattle.track_sizing.proofs.size.write_bases.Given as goal

abbrev pub invariant-loop-place : goal.invariant-loop-place
invariant-loop-place l = IsMapped (λ (t : Track). t.base) l.rows l.sizes l.place
