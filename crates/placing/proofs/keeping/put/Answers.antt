use Rattle.std.proofs.Common.{ℕ, List, Option, None, length, ◌∙◌, ap, arith, subst, sym}
use Rattle.node_arena.specs.Plain.{Nodes}
use Rattle.outside.specs.Told.{Adds}
use Rattle.outside.specs.declared.event.Event.{Event}
use Rattle.placing.specs.declared.node.Node.{Node}
use Rattle.placing.specs.Kept.{IsRight}
use Rattle.placing.specs.Nodes.{bare}
use Rattle.placing.specs.Walks.{State, Stopped, WalkedBelow, rising, state}
use Rattle.placing.proofs.Leaves.{on_err}
use Rattle.placing.proofs.Puts.{keeps_bare, keeps_joins, keeps_own, keeps_right, or_false}
use Rattle.placing.proofs.Walks.{adds_none, stopped}
use Rattle.placing.proofs.keeping.put.Goals as goal

pub returns-in_err-gone-clause-right : goal.returns-in_err-gone-clause-right
returns-in_err-gone-clause-right c = subst (λ (z : Nodes Node). IsRight z.tree) (sym c.in_err-gone.ensures.err) c.requires.right

pub returns-in_err-gone-clause-same : goal.returns-in_err-gone-clause-same
returns-in_err-gone-clause-same c = ap (λ (z : Nodes Node). bare z.tree) c.in_err-gone.ensures.err

pub returns-in_err-gone-clause-stopped : goal.returns-in_err-gone-clause-stopped
returns-in_err-gone-clause-stopped c =
    let all : (old : State) (more passes : ℕ) (log : Option (List Event)) → WalkedBelow c.args.id c.args.query more old (state c.args.tree.now c.args.tally.now passes log) → Stopped c.args.id c.args.query old (state c.keep.new.tree c.args.tally.now passes log) =
    λ old more passes log below. subst (λ (z : Nodes Node). Stopped c.args.id c.args.query old (state z c.args.tally.now passes log)) (sym c.in_err-gone.ensures.err) (stopped c.args.id c.args.query more old (state c.args.tree.now c.args.tally.now passes log) below) in
    on_err _ _ all

pub returns-clause-right : goal.returns-clause-right
returns-clause-right c =
    let before = state c.args.tree.now c.args.tally.now 0 None in
    let after = state c.keep.new.tree c.args.tally.now 0 None in
    keeps_right before after c.args.id c.args.query c.args.answer c.in_ok-gone.ensures.ok c.requires.right c.requires.absent c.requires.fits c.requires.value c.requires.children

pub returns-clause-same : goal.returns-clause-same
returns-clause-same c =
    let before = state c.args.tree.now c.args.tally.now 0 None in
    let after = state c.keep.new.tree c.args.tally.now 0 None in
    keeps_bare before after c.args.id c.args.query c.args.answer c.in_ok-gone.ensures.ok c.requires.right

pub returns-clause-own : goal.returns-clause-own
returns-clause-own c =
    let before = state c.args.tree.now c.args.tally.now 0 None in
    let after = state c.keep.new.tree c.args.tally.now 0 None in
    keeps_own before after c.args.id c.args.query c.args.answer c.in_ok-gone.ensures.ok c.requires.right

pub returns-clause-joins : goal.returns-clause-joins
returns-clause-joins c = λ old more passes log few below.
    keeps_joins (state c.args.tree.now c.args.tally.now passes log) (state c.keep.new.tree c.count_added.new.self passes log) c.args.id c.args.query c.args.answer c.in_ok-gone.ensures.ok c.requires.right old more few below c.requires.absent (omega arith)
    (ap (λ t. t.added) c.count_added.ensures)
    (ap (λ t. t.measured) c.count_added.ensures ∙ ap (λ es. rising c.args.tally.now.measured (length es)) (sym c.requires.quiet))
    (subst (Adds log log) (sym c.requires.quiet) (adds_none log))
    (λ e. let none = or_false c.args.tally.now.lost c.in_ok-gone.gone (sym (ap (λ t. t.lost) c.count_added.ensures) ∙ e) in (none.0, c.in_ok-gone.ensures.all none.1))
