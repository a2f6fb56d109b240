use Rattle.std.proofs.Common.{◌≡◌, drop, map}
use Rattle.std.specs.List.{list_any}
use Rattle.part_rules.specs.Fractions.{falls_short, settled}
use Rattle.fr_tracks.proofs.find.some_fall_short.Given as goal

abbrev pub invariant-loop-row : goal.invariant-loop-row
invariant-loop-row l = list_any (falls_short l.next.space l.next.weight) (map (settled l.last.space l.last.weight) (drop l.row-index l.rows)) ≡ list_any (falls_short l.next.space l.next.weight) (map (settled l.last.space l.last.weight) l.rows)
