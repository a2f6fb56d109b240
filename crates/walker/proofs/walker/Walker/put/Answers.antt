use Rattle.std.proofs.Common.{ℕ, sym, subst}
use Rattle.placing.specs.Ranges.{AreReadable}
use Rattle.placing.specs.Walks.{State, Stopped, WalkedBelow, state}
use Rattle.walker.specs.Walkers.{seen}
use Rattle.placing.proofs.Leaves.{on_err}
use Rattle.walker.proofs.walker.Walker.put.Goals as goal

pub returns-clause-stands : goal.returns-clause-stands
returns-clause-stands g c = record { right = c.put.ensures.right; readable = subst AreReadable (sym c.put.ensures.same) c.requires.stands.readable }

pub returns-in_err-put-clause-stands : goal.returns-in_err-put-clause-stands
returns-in_err-put-clause-stands g c = record { right = c.put.ensures.right; readable = subst AreReadable (sym c.put.ensures.same) c.requires.stands.readable }

pub returns-clause-joins : goal.returns-clause-joins
returns-clause-joins g c = λ old more few below. c.in_ok-put.ensures.joins old more _ _ few below

pub returns-in_err-put-clause-stopped : goal.returns-in_err-put-clause-stopped
returns-in_err-put-clause-stopped g c =
    let all : (old : State) (more : ℕ) → WalkedBelow c.args.id c.args.query more old (seen g.R.Ruler.log c.args.self.now) →
    Stopped c.args.id c.args.query old (state c.put.new.tree c.put.new.tally c.args.self.now.passes.now (g.R.Ruler.log c.args.self.now.ruler.now)) =
    λ old more below. c.in_err-put.ensures.stopped old more _ _ below in
    on_err _ _ all
