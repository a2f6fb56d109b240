use Rattle.std.proofs.Common.{◌≡◌, drop}
use Rattle.std.specs.Prelude.{Contains}
use Rattle.node_arena.specs.Numbers.{is_among}
use Rattle.box_layout.specs.LastBoxes.{Found}
use Rattle.page_tree.proofs.forget.forget_all.Given as goal

-- what is kept then was kept before, and is of none of the numbers so far
abbrev pub invariant-loop-index : goal.invariant-loop-index
invariant-loop-index l = (f : Found) → Contains l.last f → Contains l.fn.last f × (is_among f.id l.ids ≡ is_among f.id (drop l.index l.ids))
