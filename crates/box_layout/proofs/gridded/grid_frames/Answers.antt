use Rattle.std.proofs.Common.{arith, ap, subst, sym, ◌∙◌, length, Bool, List}
use Rattle.placing.proofs.Entries.{counts}
use Rattle.placing.specs.Nodes.{bare, kid_at, sight_at}
use Rattle.placing.specs.Told.{AreFrames, Marked}
use Rattle.placing.specs.Turns.{turns}
use Rattle.placing.specs.declared.wide.GridBase.{GridBase}
use Rattle.box_layout.proofs.InPlaces.{children_ok, numbers_small, turns_within, value_ok}
use Rattle.box_layout.proofs.LastFrames.{told_ok}
use Rattle.box_layout.specs.GridFrames.{AreIndices}
use Rattle.box_layout.proofs.gridded.grid_frames.Goals as goal

pub turns-requires : goal.turns-requires
turns-requires c = numbers_small (bare c.args.tree.now.tree) c.args.id c.args.wide.now.parts.base.placed c.as_slice.result.now c.requires.wide.grid.placed.children (c.as_slice.ensures ∙ ap (λ (base : GridBase). base.placed.numbers) c.grid-base.ensures) (c.requires.readable.children c.args.id)

pub framed_again-requires-clause-grid : goal.framed_again-requires-clause-grid
framed_again-requires-clause-grid c = record { live = c.requires.live; readable = c.requires.readable; grid = c.requires.kind; wide = c.requires.wide; columns = c.requires.columns; rows = c.requires.rows; gap = c.requires.gap }

pub framed_again-requires-clause-places : goal.framed_again-requires-clause-places
framed_again-requires-clause-places c = c.deref.ensures.value ∙ c.in_ok-places.ensures ∙ ap turns (c.as_slice.ensures ∙ ap (λ (base : GridBase). base.placed.numbers) c.grid-base.ensures)

pub framed_again-requires-clause-fresh : goal.framed_again-requires-clause-fresh
framed_again-requires-clause-fresh c = ap length c.as_slice-marks.ensures ∙ c.in-Some.ensures.counted

pub framed_again-requires-clause-frames : goal.framed_again-requires-clause-frames
framed_again-requires-clause-frames c =
    subst (λ (l : List Bool). AreFrames (sight_at (bare c.args.tree.now.tree) c.args.id) (kid_at (bare c.args.tree.now.tree)) c.args.wide.now.parts.base c.args.wide.now.columns c.args.rows.now (Marked l) c.in-Some.past.frames) (sym c.as_slice-marks.ensures) c.in-Some.ensures.frames

pub framed_children-requires-clause-grid : goal.framed_children-requires-clause-grid
framed_children-requires-clause-grid c = record { live = c.requires.live; readable = c.requires.readable; grid = c.requires.kind; wide = c.requires.wide; columns = c.requires.columns; rows = c.requires.rows; gap = c.requires.gap }

pub framed_children-requires-clause-places : goal.framed_children-requires-clause-places
framed_children-requires-clause-places c =
    subst (AreIndices (length c.args.wide.now.parts.base.placed.areas)) (sym (c.deref-2.ensures.value ∙ c.in_ok-places.ensures ∙ ap turns (c.as_slice.ensures ∙ ap (λ (base : GridBase). base.placed.numbers) c.grid-base.ensures)))
    (turns_within (length c.args.wide.now.parts.base.placed.areas) c.args.wide.now.parts.base.placed.numbers (omega (arith, counts (bare c.args.tree.now.tree) c.args.id c.args.wide.now.parts.base.placed c.requires.wide.grid.placed.children)))

pub returns-in-Some-clause-value : goal.returns-in-Some-clause-value
returns-in-Some-clause-value c =
    value_ok (bare c.args.tree.now.tree) c.args.id c.args.reps.now c.args.width.now c.args.wide.now c.requires.wide c.args.rows.now c.framed_again.result c.deref.result.now
    (c.deref.ensures.value ∙ c.in_ok-places.ensures ∙ ap turns (c.as_slice.ensures ∙ ap (λ (base : GridBase). base.placed.numbers) c.grid-base.ensures)) c.framed_again.ensures

pub returns-in-Some-clause-children : goal.returns-in-Some-clause-children
returns-in-Some-clause-children c =
    children_ok (bare c.args.tree.now.tree) c.args.id c.args.reps.now c.args.width.now c.args.wide.now c.requires.wide c.args.rows.now c.framed_again.result c.deref.result.now c.root.ensures.tree (sym c.count.ensures.kids ∙ c.count.ensures.children)
    (c.deref.ensures.value ∙ c.in_ok-places.ensures ∙ ap turns (c.as_slice.ensures ∙ ap (λ (base : GridBase). base.placed.numbers) c.grid-base.ensures)) c.framed_again.ensures

pub returns-in-Some-clause-frames : goal.returns-in-Some-clause-frames
returns-in-Some-clause-frames c =
    told_ok (bare c.args.tree.now.tree) c.args.id c.args.reps.now c.args.width.now c.args.wide.now c.requires.wide c.args.rows.now c.root.ensures.tree c.framed_again.result c.deref.result.now
    (c.deref.ensures.value ∙ c.in_ok-places.ensures ∙ ap turns (c.as_slice.ensures ∙ ap (λ (base : GridBase). base.placed.numbers) c.grid-base.ensures)) c.framed_again.ensures

pub returns-clause-value : goal.returns-clause-value
returns-clause-value c =
    value_ok (bare c.args.tree.now.tree) c.args.id c.args.reps.now c.args.width.now c.args.wide.now c.requires.wide c.args.rows.now c.framed_children.result c.deref-2.result.now
    (c.deref-2.ensures.value ∙ c.in_ok-places.ensures ∙ ap turns (c.as_slice.ensures ∙ ap (λ (base : GridBase). base.placed.numbers) c.grid-base.ensures)) c.framed_children.ensures

pub returns-clause-children : goal.returns-clause-children
returns-clause-children c =
    children_ok (bare c.args.tree.now.tree) c.args.id c.args.reps.now c.args.width.now c.args.wide.now c.requires.wide c.args.rows.now c.framed_children.result c.deref-2.result.now c.root.ensures.tree (sym c.count.ensures.kids ∙ c.count.ensures.children)
    (c.deref-2.ensures.value ∙ c.in_ok-places.ensures ∙ ap turns (c.as_slice.ensures ∙ ap (λ (base : GridBase). base.placed.numbers) c.grid-base.ensures)) c.framed_children.ensures

pub returns-clause-frames : goal.returns-clause-frames
returns-clause-frames c =
    told_ok (bare c.args.tree.now.tree) c.args.id c.args.reps.now c.args.width.now c.args.wide.now c.requires.wide c.args.rows.now c.root.ensures.tree c.framed_children.result c.deref-2.result.now
    (c.deref-2.ensures.value ∙ c.in_ok-places.ensures ∙ ap turns (c.as_slice.ensures ∙ ap (λ (base : GridBase). base.placed.numbers) c.grid-base.ensures)) c.framed_children.ensures
