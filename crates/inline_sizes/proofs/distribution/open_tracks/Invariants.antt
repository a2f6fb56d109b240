use Rattle.std.proofs.Common.{◌≡◌, ◌+◌, ◌≤◌, drop}
use Rattle.tree_rules.specs.Distribution.{open_tracks}
use Rattle.inline_sizes.proofs.distribution.open_tracks.Given as goal

abbrev pub invariant-loop-rule : goal.invariant-loop-rule
invariant-loop-rule l = record {
  so_far : l.count + open_tracks (drop l.rule-index l.rules) ≡ open_tracks l.rules;
  few : l.count ≤ l.rule-index;
}
