use Rattle.std.proofs.Common.{sym, subst}
use Rattle.placing.specs.Ranges.{AreReadable}
use Rattle.placing.proofs.Alike.{then_alike}
use Rattle.walker.proofs.walker.Walker.take_frames.Goals as goal

pub returns-clause-stands : goal.returns-clause-stands
returns-clause-stands g c = record { right = c.take_frames.ensures.right; readable = subst AreReadable (sym c.take_frames.ensures.alike.bare) c.requires.stands.readable }

pub returns-clause-bare : goal.returns-clause-bare
returns-clause-bare g c = c.take_frames.ensures.alike.bare

pub returns-clause-kept : goal.returns-clause-kept
returns-clause-kept g c = c.take_frames.ensures.alike.kept

pub returns-clause-below : goal.returns-clause-below
returns-clause-below g c = λ q more old. then_alike c.args.self.now.tree.now c.take_frames.new.tree c.take_frames.ensures.alike _ _ _ old c.args.id q more

pub returns-in_err-past-clause-stands : goal.returns-in_err-past-clause-stands
returns-in_err-past-clause-stands g c = record { right = c.take_frames.ensures.right; readable = subst AreReadable (sym c.take_frames.ensures.alike.bare) c.requires.stands.readable }

pub returns-in_err-past-clause-bare : goal.returns-in_err-past-clause-bare
returns-in_err-past-clause-bare g c = c.take_frames.ensures.alike.bare

pub returns-in_err-past-clause-kept : goal.returns-in_err-past-clause-kept
returns-in_err-past-clause-kept g c = c.take_frames.ensures.alike.kept

pub returns-in_err-past-clause-below : goal.returns-in_err-past-clause-below
returns-in_err-past-clause-below g c = λ q more old. then_alike c.args.self.now.tree.now c.take_frames.new.tree c.take_frames.ensures.alike _ _ _ old c.args.id q more
