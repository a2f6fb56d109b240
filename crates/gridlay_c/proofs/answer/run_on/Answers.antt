use Rattle.std.proofs.Common.{rules, List, ℕ, sym, subst}
use Rattle.session.specs.declared.status.Status.TheVariants.{NoMemory}
use Rattle.gridlay_c.specs.Program.{IsAnswer}
use Rattle.gridlay_c.proofs.Program.{moved, unanswered}
use Rattle.gridlay_c.proofs.answer.run_on.Goals as goal

pub returns-in_default : goal.returns-in_default
returns-in_default g c = subst (λ (written : List ℕ). IsAnswer c.args.input.now written NoMemory) (sym c.requires.empty) (unanswered c.args.input.now)

pub returns-in_default-from_slice : goal.returns-in_default-from_slice
returns-in_default-from_slice g c = subst (λ (written : List ℕ). IsAnswer c.args.input.now written NoMemory) (sym c.requires.empty) (unanswered c.args.input.now)

pub returns : goal.returns
returns g c = moved c.run_layout.ensures (search rules)
