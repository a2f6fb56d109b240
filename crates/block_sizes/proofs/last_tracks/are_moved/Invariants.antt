use Rattle.std.proofs.Common.{◌≡◌, drop}
use Rattle.tree_rules.specs.Queries.{same_items}
use Rattle.block_sizes.specs.Sharing.{is_moved}
use Rattle.block_sizes.proofs.last_tracks.are_moved.Given as goal

abbrev pub invariant-loop-index : goal.invariant-loop-index
invariant-loop-index l = same_items (is_moved l.by) (drop l.index l.tracks) (drop l.index l.others) ≡ same_items (is_moved l.by) l.tracks l.others
