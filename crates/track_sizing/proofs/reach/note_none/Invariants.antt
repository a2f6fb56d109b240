use Rattle.std.proofs.Common.{false}
use Rattle.part_rules.specs.declared.share.Share.{Share}
use Rattle.track_sizing.specs.Reached.{note_of}
use Rattle.track_sizing.proofs.Loops.{IsChanged}
use Rattle.track_sizing.proofs.reach.note_none.Given as goal

abbrev pub invariant-loop-row : goal.invariant-loop-row
invariant-loop-row l = IsChanged (λ (s : Share). note_of false) l.fn.notes l.notes l.row-index
