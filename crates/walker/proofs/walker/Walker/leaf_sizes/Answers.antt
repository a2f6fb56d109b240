use Rattle.std.proofs.Common.{sym, subst}
use Rattle.placing.specs.Ranges.{AreReadable}
use Rattle.placing.proofs.Leaves.{on_err}
use Rattle.walker.proofs.walker.Walker.leaf_sizes.Goals as goal

pub returns-clause-stands : goal.returns-clause-stands
returns-clause-stands g c = record { right = c.leaf_sizes.ensures.right; readable = subst AreReadable (sym (c.in_ok-sizes.ensures.walked c.args.self.now.passes.now).walk.bare_same) c.requires.stands.readable }

pub returns-in_err-sizes-clause-stands : goal.returns-in_err-sizes-clause-stands
returns-in_err-sizes-clause-stands g c = record { right = c.leaf_sizes.ensures.right; readable = subst AreReadable (sym (c.in_err-sizes.ensures.stopped c.args.self.now.passes.now).walk.bare_same) c.requires.stands.readable }

pub leaf_sizes-requires-clause-measurable : goal.leaf_sizes-requires-clause-measurable
leaf_sizes-requires-clause-measurable g c = (c.requires.stands.readable.nodes c.args.id c.requires.live).kind

pub returns-clause-walked : goal.returns-clause-walked
returns-clause-walked g c = c.in_ok-sizes.ensures.walked c.args.self.now.passes.now

pub returns-in_err-sizes-clause-stopped : goal.returns-in_err-sizes-clause-stopped
returns-in_err-sizes-clause-stopped g c = on_err _ _ (c.in_err-sizes.ensures.stopped c.args.self.now.passes.now)
