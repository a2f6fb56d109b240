use Rattle.std.proofs.Common.{sym, subst}
use Rattle.tree_rules.specs.Distribution.{is_safe, mode_of}
use Rattle.box_layout.specs.Ranges.{IsRest}
use Rattle.box_layout.proofs.Rooms.{moved_rest}
use Rattle.box_layout.proofs.aligned.moved_in.Goals as goal

pub returns-clause-range : goal.returns-clause-range
returns-clause-range c = subst IsRest (sym c.self_moved.ensures) (moved_rest (mode_of c.args.align.now.mode) (is_safe c.args.align.now) c.args.rest c.requires)
