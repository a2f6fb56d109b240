use Rattle.std.proofs.Common.{sym, subst}
use Rattle.placing.specs.Ranges.{AreReadable}
use Rattle.placing.proofs.Alike.{then_alike}
use Rattle.walker.proofs.walker.Walker.keep_wide.Goals as goal

pub returns-clause-stands : goal.returns-clause-stands
returns-clause-stands g c = record { right = c.keep_wide.ensures.right; readable = subst AreReadable (sym c.keep_wide.ensures.alike.bare) c.requires.stands.readable }

pub returns-in_err-keep_wide-clause-stands : goal.returns-in_err-keep_wide-clause-stands
returns-in_err-keep_wide-clause-stands g c = record { right = c.keep_wide.ensures.right; readable = subst AreReadable (sym c.keep_wide.ensures.alike.bare) c.requires.stands.readable }

pub returns-clause-below : goal.returns-clause-below
returns-clause-below g c = λ q more old. then_alike c.args.self.now.tree.now c.keep_wide.new.tree c.keep_wide.ensures.alike _ _ _ old c.args.id q more

pub returns-in_err-keep_wide-clause-below : goal.returns-in_err-keep_wide-clause-below
returns-in_err-keep_wide-clause-below g c = λ q more old. then_alike c.args.self.now.tree.now c.keep_wide.new.tree c.keep_wide.ensures.alike _ _ _ old c.args.id q more
