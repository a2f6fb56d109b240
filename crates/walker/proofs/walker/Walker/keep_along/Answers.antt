use Rattle.std.proofs.Common.{sym, subst}
use Rattle.placing.specs.Ranges.{AreReadable}
use Rattle.placing.proofs.Alike.{then_alike}
use Rattle.walker.proofs.walker.Walker.keep_along.Goals as goal

pub returns-clause-stands : goal.returns-clause-stands
returns-clause-stands g c = record { right = c.keep_along.ensures.right; readable = subst AreReadable (sym c.keep_along.ensures.alike.bare) c.requires.stands.readable }

pub returns-in_err-keep_along-clause-stands : goal.returns-in_err-keep_along-clause-stands
returns-in_err-keep_along-clause-stands g c = record { right = c.keep_along.ensures.right; readable = subst AreReadable (sym c.keep_along.ensures.alike.bare) c.requires.stands.readable }

pub returns-clause-below : goal.returns-clause-below
returns-clause-below g c = λ q more old. then_alike c.args.self.now.tree.now c.keep_along.new.tree c.keep_along.ensures.alike _ _ _ old c.args.id q more

pub returns-in_err-keep_along-clause-below : goal.returns-in_err-keep_along-clause-below
returns-in_err-keep_along-clause-below g c = λ q more old. then_alike c.args.self.now.tree.now c.keep_along.new.tree c.keep_along.ensures.alike _ _ _ old c.args.id q more

pub returns-clause-bare : goal.returns-clause-bare
returns-clause-bare g c = c.keep_along.ensures.alike.bare

pub returns-in_err-keep_along-clause-bare : goal.returns-in_err-keep_along-clause-bare
returns-in_err-keep_along-clause-bare g c = c.keep_along.ensures.alike.bare

pub returns-clause-kept : goal.returns-clause-kept
returns-clause-kept g c = c.keep_along.ensures.alike.kept

pub returns-in_err-keep_along-clause-kept : goal.returns-in_err-keep_along-clause-kept
returns-in_err-keep_along-clause-kept g c = c.keep_along.ensures.alike.kept
