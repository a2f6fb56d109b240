use Rattle.std.proofs.Common.{sym, subst}
use Rattle.placing.specs.Ranges.{AreReadable}
use Rattle.placing.proofs.Alike.{then_alike}
use Rattle.walker.proofs.walker.Walker.keep_members.Goals as goal

pub returns-clause-stands : goal.returns-clause-stands
returns-clause-stands g c = record { right = c.keep_members.ensures.right; readable = subst AreReadable (sym c.keep_members.ensures.alike.bare) c.requires.stands.readable }

pub returns-in_err-keep_members-clause-stands : goal.returns-in_err-keep_members-clause-stands
returns-in_err-keep_members-clause-stands g c = record { right = c.keep_members.ensures.right; readable = subst AreReadable (sym c.keep_members.ensures.alike.bare) c.requires.stands.readable }

pub returns-clause-below : goal.returns-clause-below
returns-clause-below g c = λ q more old. then_alike c.args.self.now.tree.now c.keep_members.new.tree c.keep_members.ensures.alike _ _ _ old c.args.id q more

pub returns-in_err-keep_members-clause-below : goal.returns-in_err-keep_members-clause-below
returns-in_err-keep_members-clause-below g c = λ q more old. then_alike c.args.self.now.tree.now c.keep_members.new.tree c.keep_members.ensures.alike _ _ _ old c.args.id q more

pub returns-clause-bare : goal.returns-clause-bare
returns-clause-bare g c = c.keep_members.ensures.alike.bare

pub returns-in_err-keep_members-clause-bare : goal.returns-in_err-keep_members-clause-bare
returns-in_err-keep_members-clause-bare g c = c.keep_members.ensures.alike.bare
