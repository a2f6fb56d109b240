use Rattle.std.proofs.Common.{◌≡◌, drop, map}
use Rattle.std.specs.List.{list_any}
use Rattle.part_rules.specs.Fractions.{is_flexible, settled}
use Rattle.fr_tracks.proofs.find.some_left.Given as goal

abbrev pub invariant-loop-row : goal.invariant-loop-row
invariant-loop-row l = list_any is_flexible (map (settled l.last.space l.last.weight) (drop l.row-index l.rows)) ≡ list_any is_flexible (map (settled l.last.space l.last.weight) l.rows)
