use Rattle.std.proofs.Common.{◌≡◌, ◌-◌, List, length, map}
use Rattle.part_rules.specs.FlexLines.{Piece, begin, resolved}
use Rattle.flex_lines.specs.Ranges.{IsTaken}
use Rattle.flex_lines.specs.Rounds.{IsKeptOf}
use Rattle.flex_lines.proofs.lengths.line_sizes.Given as goal

abbrev pub invariant-loop-round : goal.invariant-loop-round
invariant-loop-round l = record {
  pieces : List Piece;
  same : resolved (length l.items - l._round) l.line.grow l.line.main l.fn.gap l.line.initial pieces ≡ resolved (length l.items) l.line.grow l.line.main l.fn.gap l.line.initial (map (begin l.line.grow) l.items);
  kept : IsKeptOf l.fn.gap pieces l.kept.flexible.items l.kept.taken l.kept.sizes.items;
  count : length pieces ≡ length l.items;
  taken : IsTaken l._round l.kept.taken;
}
