use Rattle.std.proofs.Common.{◌≡◌, drop}
use Rattle.std.specs.List.{list_any}
use Rattle.part_rules.specs.Tracks.{Track, is_auto_least}
use Rattle.track_sizing.proofs.item.some_auto.Given as goal

abbrev pub invariant-loop-row : goal.invariant-loop-row
invariant-loop-row l = list_any (λ (t : Track). is_auto_least t.rule.least) (drop l.row-index l.rows) ≡ list_any (λ (t : Track). is_auto_least t.rule.least) l.rows
