use Rattle.std.proofs.Common.{sym, subst}
use Rattle.placing.specs.Ranges.{AreReadable}
use Rattle.placing.proofs.Alike.{then_alike}
use Rattle.walker.proofs.walker.Walker.keep_columns.Goals as goal

pub returns-clause-stands : goal.returns-clause-stands
returns-clause-stands g c = record { right = c.keep_columns.ensures.right; readable = subst AreReadable (sym c.keep_columns.ensures.alike.bare) c.requires.stands.readable }

pub returns-in_err-keep_columns-clause-stands : goal.returns-in_err-keep_columns-clause-stands
returns-in_err-keep_columns-clause-stands g c = record { right = c.keep_columns.ensures.right; readable = subst AreReadable (sym c.keep_columns.ensures.alike.bare) c.requires.stands.readable }

pub returns-clause-below : goal.returns-clause-below
returns-clause-below g c = λ q more old. then_alike c.args.self.now.tree.now c.keep_columns.new.tree c.keep_columns.ensures.alike _ _ _ old c.args.id q more

pub returns-in_err-keep_columns-clause-below : goal.returns-in_err-keep_columns-clause-below
returns-in_err-keep_columns-clause-below g c = λ q more old. then_alike c.args.self.now.tree.now c.keep_columns.new.tree c.keep_columns.ensures.alike _ _ _ old c.args.id q more
