use Rattle.std.proofs.Common.{drop}
use Rattle.runs.specs.Times.{items_of}
use Rattle.style_types.proofs.Parts.{IsWalkedBy}
use Rattle.style_types.proofs.listed.parts_by.Given as goal

-- the parts so far are made
abbrev pub invariant-loop-at : goal.invariant-loop-at
invariant-loop-at l = IsWalkedBy l.em l.rem (items_of l.tracks) (items_of (drop l.at l.tracks)) (items_of l.units) (items_of (drop l.at l.units)) l.made
