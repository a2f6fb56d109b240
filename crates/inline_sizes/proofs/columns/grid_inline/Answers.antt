use Rattle.std.proofs.Common.{◌≡◌, List, ℤ, sym, ap, ◌∙◌, subst, map}
use Rattle.std.proofs.lemmas.Result.{IfOk-weaker}
use Rattle.lunit.specs.declared.geometry.Area.{Area}
use Rattle.lunit.specs.declared.item.Item.{Item}
use Rattle.node_arena.specs.declared.number.NodeId.{NodeId}
use Rattle.placing.specs.Nodes.{bare}
use Rattle.placing.specs.declared.wide.GridBase.{GridBase}
use Rattle.tree_rules.specs.GridSizes.{grid_inline}
use Rattle.inline_sizes.proofs.ColumnAxes.{can_size, totals_are}
use Rattle.inline_sizes.specs.GridsSeen.{grid_seen}
use Rattle.inline_sizes.specs.TrackAxes.{CanSize, intrinsic_totals, track_axis}
use Rattle.inline_sizes.proofs.columns.grid_inline.Goals as goal

-- src/columns.rt:80:5
pub intrinsic_totals-requires : goal.intrinsic_totals-requires
intrinsic_totals-requires g c =
    subst (λ (base : GridBase). CanSize 0 c.node_at.result.now.style base.placed.columns c.as_slice-3.result.now) (sym c.grid-base.ensures)
    (subst (λ (items : List Item). CanSize 0 c.node_at.result.now.style c.args.parts.now.base.placed.columns items) (sym c.as_slice-3.ensures)
    (can_size (bare c.args.tree.now.tree) c.args.id c.args.parts.now c.node_at.result.now.style c.requires.grid c.requires.readable c.requires.live c.node_at.ensures.grid c.requires.own c.items_lie_in_their_tracks.ensures.items))

-- src/columns.rt:53:1
pub returns-clause-value : goal.returns-clause-value
returns-clause-value g c = λ outer width grid.
    IfOk-weaker c.intrinsic_totals.result
    (λ (sizes : ℤ × ℤ). sizes ≡ intrinsic_totals (track_axis 0 c.node_at.result.now.style c.grid-base.result.now.pair.0 c.as_slice-2.result.now c.grid-base.result.now.placed.columns c.as_slice-3.result.now))
    (λ (sizes : ℤ × ℤ). sizes ≡ grid_inline (grid_seen (bare c.args.tree.now.tree) c.args.id outer width))
    (λ sizes e.
    totals_are (bare c.args.tree.now.tree) c.args.id c.args.parts.now c.node_at.result.now.style c.as_slice-2.result.now sizes c.node_at.ensures.grid c.node_at.ensures.content
    (c.as_slice-2.ensures.value ∙ c.in_ok-spans.ensures ∙ ap (map (λ (e : NodeId × Area). e.1.columns)) (c.as_slice.ensures ∙ ap (λ (base : GridBase). base.placed.areas) c.grid-base.ensures))
    (e ∙ (λ i. intrinsic_totals (track_axis 0 c.node_at.result.now.style (c.grid-base.ensures i).pair.0 c.as_slice-2.result.now (c.grid-base.ensures i).placed.columns (c.as_slice-3.ensures i))))
    outer width grid)
    c.intrinsic_totals.ensures.value
