use Rattle.std.proofs.Common.{subst, sym}
use Rattle.inline_sizes.proofs.Asked.{entry_here}
use Rattle.block_sizes.proofs.Fitting.{child_here}
use Rattle.block_sizes.proofs.ReadBases.{read_next}
use Rattle.placing.specs.Nodes.{bare}
use Rattle.placing.specs.declared.wide.GridBase.{GridBase}
use Rattle.inline_sizes.specs.Grids.{IsEntry, IsLaid}
use Rattle.block_sizes.proofs.wide.child_in.Goals as goal

pub returns-clause-child : goal.returns-clause-child
returns-clause-child c =
    let read : IsEntry (bare c.args.tree.now.tree) c.args.id c.grid-base.result.now c.entry.result =
    entry_here (bare c.args.tree.now.tree) c.args.id c.grid-base.result.now c.entry.result c.root.ensures.tree c.requires.kind (subst (IsLaid (bare c.args.tree.now.tree) c.args.id) (sym c.grid-base.ensures) c.requires.grid.base.laid)
    c.entry.ensures.live c.entry.ensures.child c.entry.ensures.inside c.entry.ensures.seat c.entry.ensures.alone (c.items_lie_in_their_tracks.ensures.lines c.grid-base.result.now.pairs) in
    child_here (bare c.args.tree.now.tree) c.args.id c.args.reps.now c.args.width.now c.args.parts.now c.entry.result c.args.index c.requires.grid c.root.ensures.tree
    (subst (λ (base : GridBase). IsEntry (bare c.args.tree.now.tree) c.args.id base c.entry.result) c.grid-base.ensures read)
    (c.items_lie_in_their_tracks.ensures.lines c.args.parts.now.base.pairs) (c.items_lie_in_their_tracks.ensures.items c.args.reps.now c.args.width.now)
    (read_next (bare c.args.tree.now.tree) c.args.id c.args.parts.now.base c.grid-base.result.now c.grid-base.ensures c.args.index c.entry.result c.entry.ensures.next)
