use Rattle.std.proofs.Common.{sym, subst}
use Rattle.placing.specs.Ranges.{AreReadable}
use Rattle.walker.proofs.walker.Walker.keep_base.Goals as goal

pub returns-clause-stands : goal.returns-clause-stands
returns-clause-stands g c = record { right = c.keep_base.ensures.right; readable = subst AreReadable (sym c.keep_base.ensures.same) c.requires.stands.readable }

pub returns-clause-below : goal.returns-clause-below
returns-clause-below g c = λ q more new. c.keep_base.ensures.below q more _ _ _ new

pub returns-clause-stopped : goal.returns-clause-stopped
returns-clause-stopped g c = λ q new. c.keep_base.ensures.stopped q _ _ _ new
