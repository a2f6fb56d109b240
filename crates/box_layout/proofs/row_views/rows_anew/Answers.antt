use Rattle.std.proofs.Common.{rules, ◌≤◌, ap, ◌∙◌, map, subst}
use Rattle.lunit.specs.declared.geometry.Area.{Area}
use Rattle.node_arena.specs.declared.number.NodeId.{NodeId}
use Rattle.placing.specs.Counted.{IsGivenSize}
use Rattle.placing.specs.Nodes.{bare, level_at, sight_at}
use Rattle.tree_rules.specs.Queries.{outer_context, sees_rows}
use Rattle.placing.specs.declared.wide.GridBase.{GridBase}
use Rattle.block_sizes.proofs.ReadBases.{read_wide}
use Rattle.block_sizes.specs.Fitting.{CanSizeFor}
use Rattle.inline_sizes.specs.TrackAxes.{track_count}
use Rattle.box_layout.proofs.OwnRows.{are_tracks, can_be, count_placed, far_enough, few_rows, rows_are, shared_for, size_given}
use Rattle.box_layout.specs.GridFrames.{AreTracks}
use Rattle.box_layout.proofs.row_views.rows_anew.Goals as goal

pub view_by-requires : goal.view_by-requires
view_by-requires g c =
    let input : CanSizeFor c.args.height.now 1 c.node_at.result.now.style c.grid-base.result.now.placed.rows c.as_slice-2.result.now =
    can_be (bare c.args.tree.now.tree) c.args.id c.args.reps.now c.args.width.now (record c.args.wide.now { parts = record c.args.wide.now.parts { base = c.grid-base.result.now } })
    (read_wide (bare c.args.tree.now.tree) c.args.id c.args.reps.now c.args.width.now c.args.wide.now c.grid-base.result.now c.grid-base.ensures c.requires.wide) c.args.height.now c.node_at.result.now.style c.as_slice-2.result.now c.requires.readable c.requires.live
    c.node_at.ensures.grid c.as_slice-2.ensures
    (c.items_lie_in_their_tracks.ensures.items c.args.reps.now c.args.width.now) c.requires.block in
    let few : track_count c.grid-base.result.now.placed.rows ≤ 131072 = few_rows (bare c.args.tree.now.tree) c.args.id c.args.reps.now c.args.width.now (record c.args.wide.now { parts = record c.args.wide.now.parts { base = c.grid-base.result.now } })
    (read_wide (bare c.args.tree.now.tree) c.args.id c.args.reps.now c.args.width.now c.args.wide.now c.grid-base.result.now c.grid-base.ensures c.requires.wide) (c.items_lie_in_their_tracks.ensures.items c.args.reps.now c.args.width.now) in
    let given : IsGivenSize c.args.height.now = size_given (sees_rows (sight_at (bare c.args.tree.now.tree) c.args.id)) (outer_context (sight_at (bare c.args.tree.now.tree) c.args.id) c.args.reps.now).rows.table.tracks c.args.height.now c.requires.block in
    search rules

pub returns-clause-value : goal.returns-clause-value
returns-clause-value g c =
    c.in_ok-view.ensures.value
    ∙ rows_are (bare c.args.tree.now.tree) c.args.id c.args.reps.now c.args.width.now (record c.args.wide.now { parts = record c.args.wide.now.parts { base = c.grid-base.result.now } })
    (read_wide (bare c.args.tree.now.tree) c.args.id c.args.reps.now c.args.width.now c.args.wide.now c.grid-base.result.now c.grid-base.ensures c.requires.wide) c.args.height.now c.node_at.result.now.style c.in_ok-pair.pair c.deref.result.now c.as_slice-2.result.now
    c.node_at.ensures.grid c.node_at.ensures.content c.in_ok-pair.ensures (c.deref.ensures.value ∙ c.in_ok-spans.ensures ∙ ap (map (λ (e : NodeId × Area). e.1.rows)) c.as_slice.ensures) c.as_slice-2.ensures

pub returns-clause-tracks : goal.returns-clause-tracks
returns-clause-tracks g c =
    subst (λ (base : GridBase). AreTracks base.placed.rows c.in_ok-view.view.edges) c.grid-base.ensures
    (are_tracks c.grid-base.result.now.placed.rows c.in_ok-view.view.edges (level_at (bare c.args.tree.now.tree) c.args.id) (c.root.ensures.tree.level c.args.id)
    (count_placed (bare c.args.tree.now.tree) c.args.id c.args.reps.now c.args.width.now (record c.args.wide.now { parts = record c.args.wide.now.parts { base = c.grid-base.result.now } })
    (read_wide (bare c.args.tree.now.tree) c.args.id c.args.reps.now c.args.width.now c.args.wide.now c.grid-base.result.now c.grid-base.ensures c.requires.wide) (c.rows_reach.ensures.zero c.args.reps.now c.args.width.now) _
    (c.in_ok-view.ensures.counted (sees_rows (sight_at (bare c.args.tree.now.tree) c.args.id))
    (shared_for (bare c.args.tree.now.tree) c.args.id c.args.reps.now c.args.width.now (record c.args.wide.now { parts = record c.args.wide.now.parts { base = c.grid-base.result.now } })
    (read_wide (bare c.args.tree.now.tree) c.args.id c.args.reps.now c.args.width.now c.args.wide.now c.grid-base.result.now c.grid-base.ensures c.requires.wide) c.args.height.now (c.rows_reach.ensures.shared c.args.reps.now c.args.width.now) c.requires.block)))
    (c.in_ok-view.ensures.spread _ (far_enough (level_at (bare c.args.tree.now.tree) c.args.id)) c.requires.spread))

pub returns-clause-gap : goal.returns-clause-gap
returns-clause-gap g c =
    c.in_ok-view.ensures.gap (sees_rows (sight_at (bare c.args.tree.now.tree) c.args.id))
    (shared_for (bare c.args.tree.now.tree) c.args.id c.args.reps.now c.args.width.now (record c.args.wide.now { parts = record c.args.wide.now.parts { base = c.grid-base.result.now } })
    (read_wide (bare c.args.tree.now.tree) c.args.id c.args.reps.now c.args.width.now c.args.wide.now c.grid-base.result.now c.grid-base.ensures c.requires.wide) c.args.height.now (c.rows_reach.ensures.shared c.args.reps.now c.args.width.now) c.requires.block)
