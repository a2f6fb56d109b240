use Rattle.std.proofs.Common.{sym, ap, subst, ◌∙◌}
use Rattle.std.proofs.lemmas.List.{length-map}
use Rattle.tree_rules.specs.Chains.{is_grid_kind}
use Rattle.placing.specs.Kept.{frame_of}
use Rattle.placing.specs.Nodes.{bare, sight_at}
use Rattle.inline_sizes.specs.Grids.{IsBase}
use Rattle.box_layout.specs.declared.child_seats.ChildSeats.{ChildSeats}
use Rattle.box_layout.proofs.Lower.{none_chained}
use Rattle.box_layout.proofs.Seating.{grid_kind_is, no_seats_by, pairs_made, seats_in_flex, seats_made}
use Rattle.box_layout.proofs.child_seats.seats_below.Goals as goal

pub returns-then-not-has_lower-clause-seats : goal.returns-then-not-has_lower-clause-seats
returns-then-not-has_lower-clause-seats c =
    no_seats_by (bare c.args.tree.now.tree) c.args.id c.root.ensures.tree c.no_seats.result (ap (λ (s : ChildSeats). s.some) c.no_seats.ensures)
    (none_chained (bare c.args.tree.now.tree) c.args.id c.args.frames.now c.root.ensures.tree c.requires.tell (length-map c.args.frames.now frame_of ∙ c.requires.counted) (sym c.has_lower.ensures ∙ c.if-not-has_lower.true))

pub returns-then-not-is_grid-clause-seats : goal.returns-then-not-is_grid-clause-seats
returns-then-not-is_grid-clause-seats c =
    seats_in_flex (bare c.args.tree.now.tree) c.args.id c.root.ensures.tree c.no_seats-then-not-is_grid.result (ap (λ (s : ChildSeats). s.some) c.no_seats-then-not-is_grid.ensures)
    (ap is_grid_kind (sym c.node_at.ensures.kind) ∙ sym c.is_grid.ensures ∙ c.if-not-is_grid.true)

pub returns-clause-seats : goal.returns-clause-seats
returns-clause-seats c =
    seats_made (bare c.args.tree.now.tree) c.args.id c.root.ensures.tree c.args.reps.now c.args.inline.now c.in_ok-held.held c.base_of-base.result.now c.in_ok-areas.areas c.seats_in-seats.result c.base_of-base.ensures
    (subst (IsBase (bare c.args.tree.now.tree) c.args.id c.args.reps.now c.args.inline.now) (sym c.base_of-base.ensures) c.in_ok-held.ensures)
    (ap is_grid_kind (sym c.node_at.ensures.kind) ∙ sym c.is_grid.ensures ∙ c.if-not-is_grid.false) c.in_ok-areas.ensures.counted c.in_ok-areas.ensures.areas c.seats_in-seats.ensures

pub returns-clause-pairs : goal.returns-clause-pairs
returns-clause-pairs c =
    λ q reps inline. pairs_made (bare c.args.tree.now.tree) c.args.id c.args.reps.now c.args.inline.now c.in_ok-held.held c.in_ok-areas.areas c.seats_in-seats.result q c.in_ok-held.ensures
    (grid_kind_is (sight_at (bare c.args.tree.now.tree) c.args.id).label.kind (ap is_grid_kind (sym c.node_at.ensures.kind) ∙ sym c.is_grid.ensures ∙ c.if-not-is_grid.false)) c.seats_in-seats.ensures reps inline
