use Rattle.std.proofs.Common.{sym, subst}
use Rattle.placing.specs.Ranges.{AreReadable}
use Rattle.placing.proofs.Leaves.{on_err}
use Rattle.box_layout.proofs.sizes.height_alone.Goals as goal

pub returns-clause-stands : goal.returns-clause-stands
returns-clause-stands g c = record { right = c.block_of.ensures.right; readable = subst AreReadable (sym c.in_ok-size.ensures.walked.walk.bare_same) c.requires.stands.readable }

pub returns-in_err-size-clause-stands : goal.returns-in_err-size-clause-stands
returns-in_err-size-clause-stands g c = record { right = c.block_of.ensures.right; readable = subst AreReadable (sym c.in_err-size.ensures.stopped.walk.bare_same) c.requires.stands.readable }

pub returns-clause-walked : goal.returns-clause-walked
returns-clause-walked g c = c.in_ok-size.ensures.walked

pub returns-in_err-size-clause-stopped : goal.returns-in_err-size-clause-stopped
returns-in_err-size-clause-stopped g c = on_err _ _ c.in_err-size.ensures.stopped

pub returns-clause-found : goal.returns-clause-found
returns-clause-found g c = c.block_of.ensures.found

pub returns-in_err-size-clause-found : goal.returns-in_err-size-clause-found
returns-in_err-size-clause-found g c = c.block_of.ensures.found

pub returns-clause-own : goal.returns-clause-own
returns-clause-own g c = c.in_ok-size.ensures.own
