use Rattle.std.proofs.Common.{sym, subst}
use Rattle.placing.specs.Ranges.{AreReadable}
use Rattle.placing.proofs.Alike.{from_alike, from_stopped_alike}
use Rattle.walker.proofs.walker.Walker.take_along.Goals as goal

pub returns-clause-stands : goal.returns-clause-stands
returns-clause-stands g c = record { right = c.take_along.ensures.right; readable = subst AreReadable (sym c.take_along.ensures.alike.bare) c.requires.stands.readable }

pub returns-in_err-past-clause-stands : goal.returns-in_err-past-clause-stands
returns-in_err-past-clause-stands g c = record { right = c.take_along.ensures.right; readable = subst AreReadable (sym c.take_along.ensures.alike.bare) c.requires.stands.readable }

pub returns-clause-below : goal.returns-clause-below
returns-clause-below g c = λ q more new. from_alike c.args.self.now.tree.now c.take_along.new.tree c.take_along.ensures.alike _ _ _ new c.args.id q more

pub returns-in_err-past-clause-below : goal.returns-in_err-past-clause-below
returns-in_err-past-clause-below g c = λ q more new. from_alike c.args.self.now.tree.now c.take_along.new.tree c.take_along.ensures.alike _ _ _ new c.args.id q more

pub returns-clause-stopped : goal.returns-clause-stopped
returns-clause-stopped g c = λ q new. from_stopped_alike c.args.self.now.tree.now c.take_along.new.tree c.take_along.ensures.alike _ _ _ new c.args.id q

pub returns-in_err-past-clause-stopped : goal.returns-in_err-past-clause-stopped
returns-in_err-past-clause-stopped g c = λ q new. from_stopped_alike c.args.self.now.tree.now c.take_along.new.tree c.take_along.ensures.alike _ _ _ new c.args.id q

pub returns-clause-bare : goal.returns-clause-bare
returns-clause-bare g c = c.take_along.ensures.alike.bare

pub returns-in_err-past-clause-bare : goal.returns-in_err-past-clause-bare
returns-in_err-past-clause-bare g c = c.take_along.ensures.alike.bare

pub returns-clause-kept : goal.returns-clause-kept
returns-clause-kept g c = c.take_along.ensures.alike.kept

pub returns-in_err-past-clause-kept : goal.returns-in_err-past-clause-kept
returns-in_err-past-clause-kept g c = c.take_along.ensures.alike.kept
