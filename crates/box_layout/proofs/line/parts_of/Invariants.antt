use Rattle.std.proofs.Common.{◌≡◌, map, take}
use Rattle.part_rules.specs.declared.share.Share.{Share}
use Rattle.box_layout.proofs.line.parts_of.Given as goal

abbrev pub invariant-loop-row : goal.invariant-loop-row
invariant-loop-row l = l.parts.items ≡ map (λ (s : Share). s.got) (take l.row-index l.rows)
