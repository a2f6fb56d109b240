use Rattle.std.proofs.Common.{sym, subst}
use Rattle.tree_rules.specs.Distribution.{is_safe, mode_of}
use Rattle.box_layout.specs.Ranges.{IsFree}
use Rattle.box_layout.proofs.Reaches.{moved_free}
use Rattle.box_layout.proofs.line.moved_by_rest.Goals as goal

pub returns-clause-range : goal.returns-clause-range
returns-clause-range c = subst IsFree (sym c.content_moved.ensures) (moved_free (mode_of c.args.align.now.mode) (is_safe c.args.align.now) c.args.free c.args.k c.args.n c.requires.subject c.requires.free)
