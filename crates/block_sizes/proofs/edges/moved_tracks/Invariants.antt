use Rattle.std.proofs.Common.{◌≡◌, ◌+◌, ◌*◌, ◌++◌, ◌≤ℤ◌, pos, neg_ℤ, drop, length}
use Rattle.tree_rules.specs.Distribution.{edges_from, open_tracks}
use Rattle.block_sizes.specs.Moving.{first_place, last_place, moved_by}
use Rattle.placing.specs.Spread.{AreBetween}
use Rattle.block_sizes.proofs.edges.moved_tracks.Given as goal

abbrev pub invariant-loop-at : goal.invariant-loop-at
invariant-loop-at l = record {
  so_far : l.edges ++ edges_from (moved_by l.moving) l.gap l.number l.place (drop l.at l.rules) (drop l.at l.sizes) ≡ edges_from (moved_by l.moving) l.gap 0 (pos 0) l.rules l.sizes;
  made : length l.edges ≡ l.at;
  between : AreBetween first_place last_place l.edges;
  counted : l.number + open_tracks (drop l.at l.rules) ≡ open_tracks l.rules;
  low : neg_ℤ (pos (2147483648 * l.at)) ≤ℤ l.place;
  high : l.place ≤ℤ pos (2147483648 * l.at);
}
