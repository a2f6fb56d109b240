use Rattle.std.proofs.Common.{◌+◌, drop, subst, sym}
use Rattle.placing.specs.Areas.{entries_at}
use Rattle.placing.specs.Nodes.{bare}
use Rattle.placing.specs.declared.wide.GridBase.{GridBase}
use Rattle.block_sizes.proofs.ReadBases.{read_next}
use Rattle.inline_sizes.proofs.Asked.{entry_here}
use Rattle.inline_sizes.specs.Grids.{IsEntry, IsLaid}
use Rattle.box_layout.proofs.ChildFrames.{child_there}
use Rattle.box_layout.proofs.GridFramed.{area_lies}
use Rattle.box_layout.proofs.gridded.child_over.Goals as goal

pub returns-clause-entry : goal.returns-clause-entry
returns-clause-entry c =
    let read : IsEntry (bare c.args.tree.now.tree) c.args.id c.grid-base.result.now c.entry.result =
    entry_here (bare c.args.tree.now.tree) c.args.id c.grid-base.result.now c.entry.result c.root.ensures.tree c.requires.kind (subst (IsLaid (bare c.args.tree.now.tree) c.args.id) (sym c.grid-base.ensures) c.requires.wide.grid.base.laid)
    c.entry.ensures.live c.entry.ensures.child c.entry.ensures.inside c.entry.ensures.seat c.entry.ensures.alone (c.items_lie_in_their_tracks.ensures.lines c.grid-base.result.now.pairs) in
    subst (λ (base : GridBase). IsEntry (bare c.args.tree.now.tree) c.args.id base c.entry.result) c.grid-base.ensures read

pub returns-clause-columns : goal.returns-clause-columns
returns-clause-columns c =
    (area_lies (bare c.args.tree.now.tree) c.args.id c.args.reps.now c.args.width.now c.args.wide.now c.args.index c.entry.result c.requires.wide
    (read_next (bare c.args.tree.now.tree) c.args.id c.args.wide.now.parts.base c.grid-base.result.now c.grid-base.ensures c.args.index c.entry.result c.entry.ensures.next) c.items_lie_in_their_tracks.ensures.items).0

pub returns-clause-rows : goal.returns-clause-rows
returns-clause-rows c =
    (area_lies (bare c.args.tree.now.tree) c.args.id c.args.reps.now c.args.width.now c.args.wide.now c.args.index c.entry.result c.requires.wide
    (read_next (bare c.args.tree.now.tree) c.args.id c.args.wide.now.parts.base c.grid-base.result.now c.grid-base.ensures c.args.index c.entry.result c.entry.ensures.next) c.items_lie_in_their_tracks.ensures.items).1

pub returns-clause-there : goal.returns-clause-there
returns-clause-there c =
    child_there (bare c.args.tree.now.tree) c.args.id c.args.reps.now c.args.width.now c.args.wide.now c.requires.wide c.args.index c.entry.result (drop (c.args.index + 1) (entries_at (bare c.args.tree.now.tree) c.args.id c.args.wide.now.parts.base.placed))
    (read_next (bare c.args.tree.now.tree) c.args.id c.args.wide.now.parts.base c.grid-base.result.now c.grid-base.ensures c.args.index c.entry.result c.entry.ensures.next)
