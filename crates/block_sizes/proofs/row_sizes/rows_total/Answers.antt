use Rattle.std.proofs.Common.{ap, subst, sym, ◌∙◌, ◌≤◌, List, map}
use Rattle.lunit.specs.declared.geometry.Area.{Area}
use Rattle.lunit.specs.declared.item.Item.{Item}
use Rattle.node_arena.specs.declared.number.NodeId.{NodeId}
use Rattle.placing.specs.Nodes.{bare}
use Rattle.placing.specs.Wides.{HoldsRows}
use Rattle.placing.specs.declared.wide.GridBase.{GridBase}
use Rattle.inline_sizes.specs.TrackAxes.{CanSize}
use Rattle.block_sizes.proofs.ReadBases.{read_wide}
use Rattle.block_sizes.proofs.RowAxes.{few_rows, rows_can_size, rows_hold, rows_total_is}
use Rattle.block_sizes.specs.Wides.{rows_seen}
use Rattle.block_sizes.proofs.row_sizes.rows_total.Goals as goal

pub lasting_for-requires : goal.lasting_for-requires
lasting_for-requires g c =
    subst (λ (items : List Item). CanSize 1 c.node_at.result.now.style c.grid-base.result.now.placed.rows items) (sym c.as_slice-2.ensures)
    (rows_can_size (bare c.args.tree.now.tree) c.args.id c.args.reps.now c.args.width.now (record c.args.wide.now { parts = record c.args.wide.now.parts { base = c.grid-base.result.now } })
    (read_wide (bare c.args.tree.now.tree) c.args.id c.args.reps.now c.args.width.now c.args.wide.now c.grid-base.result.now c.grid-base.ensures c.requires.wide) c.node_at.result.now.style c.requires.readable c.requires.live c.node_at.ensures.grid c.requires.own
    (c.items_lie_in_their_tracks.ensures.items c.args.reps.now c.args.width.now))

pub rows_at-requires-clause-few : goal.rows_at-requires-clause-few
rows_at-requires-clause-few g c =
    subst (λ n. n ≤ 131072) (sym c.in_ok-made.ensures.counted.rules)
    (few_rows (bare c.args.tree.now.tree) c.args.id c.args.reps.now c.args.width.now (record c.args.wide.now { parts = record c.args.wide.now.parts { base = c.grid-base.result.now } })
    (read_wide (bare c.args.tree.now.tree) c.args.id c.args.reps.now c.args.width.now c.args.wide.now c.grid-base.result.now c.grid-base.ensures c.requires.wide) (c.items_lie_in_their_tracks.ensures.items c.args.reps.now c.args.width.now))

pub returns-then-not-made-clause-value : goal.returns-then-not-made-clause-value
returns-then-not-made-clause-value g c =
    rows_total_is (bare c.args.tree.now.tree) c.args.id c.args.reps.now c.args.width.now (record c.args.wide.now { parts = record c.args.wide.now.parts { base = c.grid-base.result.now } })
    (read_wide (bare c.args.tree.now.tree) c.args.id c.args.reps.now c.args.width.now c.args.wide.now c.grid-base.result.now c.grid-base.ensures c.requires.wide) c.node_at.result.now.style c.in_ok-pair.pair c.deref.result.now c.as_slice-2.result.now c.in_ok-made.made.total
    c.node_at.ensures.grid c.node_at.ensures.content c.in_ok-pair.ensures
    (c.deref.ensures.value ∙ c.in_ok-spans.ensures ∙ ap (map (λ (e : NodeId × Area). e.1.rows)) c.as_slice.ensures)
    c.as_slice-2.ensures c.requires.own (c.items_lie_in_their_tracks.ensures.items c.args.reps.now c.args.width.now) c.in_ok-made.ensures.total

pub returns-clause-value : goal.returns-clause-value
returns-clause-value g c =
    rows_total_is (bare c.args.tree.now.tree) c.args.id c.args.reps.now c.args.width.now (record c.args.wide.now { parts = record c.args.wide.now.parts { base = c.grid-base.result.now } })
    (read_wide (bare c.args.tree.now.tree) c.args.id c.args.reps.now c.args.width.now c.args.wide.now c.grid-base.result.now c.grid-base.ensures c.requires.wide) c.node_at.result.now.style c.in_ok-pair.pair c.deref.result.now c.as_slice-2.result.now c.in_ok-made.made.total
    c.node_at.ensures.grid c.node_at.ensures.content c.in_ok-pair.ensures
    (c.deref.ensures.value ∙ c.in_ok-spans.ensures ∙ ap (map (λ (e : NodeId × Area). e.1.rows)) c.as_slice.ensures)
    c.as_slice-2.ensures c.requires.own (c.items_lie_in_their_tracks.ensures.items c.args.reps.now c.args.width.now) c.in_ok-made.ensures.total

pub returns-clause-rows : goal.returns-clause-rows
returns-clause-rows g c =
    subst (λ (base : GridBase). HoldsRows (rows_seen (bare c.args.tree.now.tree) c.args.id c.args.reps.now c.args.width.now) base.placed.rows c.in_ok-rows.rows) c.grid-base.ensures
    (rows_hold (bare c.args.tree.now.tree) c.args.id c.args.reps.now c.args.width.now (record c.args.wide.now { parts = record c.args.wide.now.parts { base = c.grid-base.result.now } })
    (read_wide (bare c.args.tree.now.tree) c.args.id c.args.reps.now c.args.width.now c.args.wide.now c.grid-base.result.now c.grid-base.ensures c.requires.wide) c.node_at.result.now.style c.in_ok-pair.pair c.deref.result.now c.as_slice-2.result.now c.in_ok-made.made.tracks
    c.in_ok-made.made.total c.in_ok-rows.rows
    c.node_at.ensures.grid c.node_at.ensures.content c.in_ok-pair.ensures
    (c.deref.ensures.value ∙ c.in_ok-spans.ensures ∙ ap (map (λ (e : NodeId × Area). e.1.rows)) c.as_slice.ensures)
    c.as_slice-2.ensures c.in_ok-made.ensures.counted (c.in_ok-made.ensures.lasting c.if-not-made.false) c.in_ok-rows.ensures.size c.in_ok-rows.ensures.view c.in_ok-rows.ensures.counted c.in_ok-rows.ensures.spread)
