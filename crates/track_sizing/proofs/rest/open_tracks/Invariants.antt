use Rattle.std.proofs.Common.{◌≡◌, ◌+◌, ◌≤◌, not, drop, length, filter}
use Rattle.part_rules.specs.Tracks.{Track}
use Rattle.track_sizing.proofs.rest.open_tracks.Given as goal

abbrev pub invariant-loop-row : goal.invariant-loop-row
invariant-loop-row l = record { all : l.count + length (filter (λ (t : Track). not t.rule.collapsed) (drop l.row-index l.rows)) ≡ length (filter (λ (t : Track). not t.rule.collapsed) l.rows); few : l.count ≤ l.row-index }
