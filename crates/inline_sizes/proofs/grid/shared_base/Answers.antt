use Rattle.std.proofs.Common.{◌∙◌, sym, subst}
use Rattle.std.proofs.lemmas.Result.{IfOk-weaker}
use Rattle.placing.specs.declared.wide.GridBase.{GridBase}
use Rattle.inline_sizes.proofs.Held.{held_places, places_held}
use Rattle.inline_sizes.specs.Grids.{IsBase}
use Rattle.walker.specs.Walkers.{nodes}
use Rattle.inline_sizes.proofs.grid.shared_base.Goals as goal

pub returns-in-Some-clause-value : goal.returns-in-Some-clause-value
returns-in-Some-clause-value g c =
    let base : IsBase (nodes c.args.walk.now) c.args.id c.args.seat.now.reps.now c.args.width.now c.in-Some.base.now =
    held_places (nodes c.args.walk.now) c.args.id c.args.seat.now.reps.now c.args.width.now c.in_ok-counts.counts c.in-Some.base.now c.in_ok-counts.ensures (c.in-Some.ensures.pairs ∙ c.as_slice.ensures) c.in-Some.ensures.holds in
    IfOk-weaker c.again.result _ (IsBase (nodes c.args.walk.now) c.args.id c.args.seat.now.reps.now c.args.width.now)
    (λ (other : GridBase) is. subst (IsBase (nodes c.args.walk.now) c.args.id c.args.seat.now.reps.now c.args.width.now) (sym is) base) c.again.ensures

pub kept_base-requires-clause-holds : goal.kept_base-requires-clause-holds
kept_base-requires-clause-holds g c =
    places_held (nodes c.args.walk.now) c.args.id c.args.seat.now.reps.now c.args.width.now c.in_ok-base.base (c.in_ok-base.ensures c.args.seat.now.reps.now c.args.width.now c.requires.reps c.in_ok-counts.ensures c.requires.seat)
