use Rattle.std.proofs.Common.{rules, ◌≡◌, ◌≤◌, ◌-ℤ◌, ap, ◌∙◌, length, map, pos, subst}
use Rattle.lunit.specs.declared.geometry.Area.{Area}
use Rattle.node_arena.specs.declared.number.NodeId.{NodeId}
use Rattle.placing.specs.Nodes.{bare, level_at, sight_at}
use Rattle.placing.specs.Counted.{IsGivenSize}
use Rattle.placing.specs.declared.wide.GridBase.{GridBase}
use Rattle.tree_rules.specs.Queries.{outer_context, sees_columns}
use Rattle.block_sizes.proofs.OwnColumns.{can_be, columns_are, count_placed, far_enough, few_columns, shared_for, size_given}
use Rattle.block_sizes.proofs.ReadBases.{read_grid}
use Rattle.block_sizes.specs.Fitting.{CanSizeFor}
use Rattle.inline_sizes.specs.TrackAxes.{track_count}
use Rattle.block_sizes.proofs.wide.columns_of.Goals as goal

pub view_by-requires : goal.view_by-requires
view_by-requires g c =
    let input : CanSizeFor c.args.width.now 0 c.node_at.result.now.style c.grid-base.result.now.placed.columns c.as_slice-3.result.now =
    can_be (bare c.args.tree.now.tree) c.args.id c.args.reps.now c.args.width.now (record c.args.parts.now { base = c.grid-base.result.now })
    (read_grid (bare c.args.tree.now.tree) c.args.id c.args.reps.now c.args.width.now c.args.parts.now c.grid-base.result.now c.grid-base.ensures c.requires.grid) c.node_at.result.now.style c.as_slice-3.result.now c.requires.readable c.requires.live c.node_at.ensures.grid
    c.as_slice-3.ensures
    c.items_lie_in_their_tracks.ensures.items c.requires.inline in
    let few : track_count c.grid-base.result.now.placed.columns ≤ 131072 = few_columns (bare c.args.tree.now.tree) c.args.id c.args.reps.now c.args.width.now (record c.args.parts.now { base = c.grid-base.result.now })
    (read_grid (bare c.args.tree.now.tree) c.args.id c.args.reps.now c.args.width.now c.args.parts.now c.grid-base.result.now c.grid-base.ensures c.requires.grid) (c.items_lie_in_their_tracks.ensures.items c.args.reps.now c.args.width.now) in
    let given : IsGivenSize c.args.width.now = size_given (sees_columns (sight_at (bare c.args.tree.now.tree) c.args.id)) (outer_context (sight_at (bare c.args.tree.now.tree) c.args.id) c.args.reps.now).columns.table.tracks c.args.width.now c.requires.inline in
    search rules

pub returns-clause-value : goal.returns-clause-value
returns-clause-value g c =
    c.in_ok-view.ensures.value
    ∙ columns_are (bare c.args.tree.now.tree) c.args.id c.args.reps.now c.args.width.now (record c.args.parts.now { base = c.grid-base.result.now })
    (read_grid (bare c.args.tree.now.tree) c.args.id c.args.reps.now c.args.width.now c.args.parts.now c.grid-base.result.now c.grid-base.ensures c.requires.grid) c.node_at.result.now.style c.as_slice-2.result.now c.as_slice-3.result.now c.node_at.ensures.grid
    c.node_at.ensures.content
    (c.as_slice-2.ensures.value ∙ c.in_ok-spans.ensures ∙ ap (map (λ (e : NodeId × Area). e.1.columns)) c.as_slice.ensures) c.as_slice-3.ensures

pub returns-clause-counted : goal.returns-clause-counted
returns-clause-counted g c =
    subst (λ (base : GridBase). pos (length c.in_ok-view.view.edges) ≡ (base.placed.columns.end -ℤ base.placed.columns.start)) c.grid-base.ensures
    (count_placed (bare c.args.tree.now.tree) c.args.id c.args.reps.now c.args.width.now (record c.args.parts.now { base = c.grid-base.result.now })
    (read_grid (bare c.args.tree.now.tree) c.args.id c.args.reps.now c.args.width.now c.args.parts.now c.grid-base.result.now c.grid-base.ensures c.requires.grid) (c.columns_reach.ensures.zero c.args.reps.now c.args.width.now) _
    (c.in_ok-view.ensures.counted (sees_columns (sight_at (bare c.args.tree.now.tree) c.args.id))
    (shared_for (bare c.args.tree.now.tree) c.args.id c.args.reps.now c.args.width.now (record c.args.parts.now { base = c.grid-base.result.now })
    (read_grid (bare c.args.tree.now.tree) c.args.id c.args.reps.now c.args.width.now c.args.parts.now c.grid-base.result.now c.grid-base.ensures c.requires.grid) (c.columns_reach.ensures.shared c.args.reps.now c.args.width.now) c.requires.inline)))

pub returns-clause-gap : goal.returns-clause-gap
returns-clause-gap g c =
    c.in_ok-view.ensures.gap (sees_columns (sight_at (bare c.args.tree.now.tree) c.args.id))
    (shared_for (bare c.args.tree.now.tree) c.args.id c.args.reps.now c.args.width.now (record c.args.parts.now { base = c.grid-base.result.now })
    (read_grid (bare c.args.tree.now.tree) c.args.id c.args.reps.now c.args.width.now c.args.parts.now c.grid-base.result.now c.grid-base.ensures c.requires.grid) (c.columns_reach.ensures.shared c.args.reps.now c.args.width.now) c.requires.inline)

pub returns-clause-spread : goal.returns-clause-spread
returns-clause-spread g c = c.in_ok-view.ensures.spread _ (far_enough (level_at (bare c.args.tree.now.tree) c.args.id)) c.requires.spread

pub returns-clause-far : goal.returns-clause-far
returns-clause-far g c = λ by few given. c.in_ok-view.ensures.spread by few given
