use Rattle.std.proofs.Common.{pos}
use Rattle.std.specs.Prelude.{◌≡◌, ◌≤ℤ◌}
use Rattle.std.proofs.lemmas.Result.{IfOk-weaker}
use Rattle.placing.specs.Nodes.{bare, level_at}
use Rattle.part_rules.specs.declared.view.View.{View}
use Rattle.tree_rules.specs.GridSizes.{view_by}
use Rattle.block_sizes.specs.Wides.{rows_seen}
use Rattle.box_layout.proofs.OwnRows.{held_gap, held_tracks, held_view}
use Rattle.box_layout.specs.GridFrames.{AreTracks}
use Rattle.box_layout.proofs.row_views.rows_of.Goals as goal

pub returns-in-Some-clause-value : goal.returns-in-Some-clause-value
returns-in-Some-clause-value g c =
    IfOk-weaker c.copied_rows.result _ (λ (view : View 1). view ≡ view_by {axis = 1} (rows_seen (bare c.args.tree.now.tree) c.args.id c.args.reps.now c.args.width.now) c.args.height.now)
    (λ view is. held_view (bare c.args.tree.now.tree) c.args.id c.args.reps.now c.args.width.now c.args.wide.now c.requires.wide c.in-Some.rows.now c.args.height.now view c.in-Some.ensures.rows c.in-Some.ensures.height is) c.copied_rows.ensures

pub returns-in-Some-clause-tracks : goal.returns-in-Some-clause-tracks
returns-in-Some-clause-tracks g c =
    IfOk-weaker c.copied_rows.result _ (λ (view : View 1). AreTracks c.args.wide.now.parts.base.placed.rows view.edges)
    (λ view is. held_tracks (bare c.args.tree.now.tree) c.args.id c.args.reps.now c.args.width.now c.args.wide.now c.requires.wide c.in-Some.rows.now view (level_at (bare c.args.tree.now.tree) c.args.id) (c.root.ensures.tree.level c.args.id)
    (c.rows_reach.ensures.zero c.args.reps.now c.args.width.now) c.in-Some.ensures.rows is) c.copied_rows.ensures

pub returns-in-Some-clause-gap : goal.returns-in-Some-clause-gap
returns-in-Some-clause-gap g c =
    IfOk-weaker c.copied_rows.result _ (λ (view : View 1). pos 0 ≤ℤ view.gap)
    (λ view is. held_gap (bare c.args.tree.now.tree) c.args.id c.args.reps.now c.args.width.now c.args.wide.now c.requires.wide c.in-Some.rows.now view c.in-Some.ensures.rows is) c.copied_rows.ensures
