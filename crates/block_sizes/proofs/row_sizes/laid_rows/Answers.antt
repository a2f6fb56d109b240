use Rattle.placing.specs.Nodes.{bare, sight_at}
use Rattle.block_sizes.proofs.KnownRows.{rows_known, size_told}
use Rattle.block_sizes.proofs.row_sizes.laid_rows.Goals as goal

pub returns-in-Some-clause-value : goal.returns-in-Some-clause-value
returns-in-Some-clause-value g c =
    size_told (bare c.args.tree.now.tree) c.args.id c.args.reps.now c.args.width.now c.args.wide.parts c.requires.wide.grid c.args.wide.items c.requires.wide.items c.requires.own (c.items_lie_in_their_tracks.ensures.items c.args.reps.now c.args.width.now) c.in-Some.size
    (c.in-Some.ensures c.args.wide.parts.base (sight_at (bare c.args.tree.now.tree) c.args.id) c.requires.laid)

pub returns-clause-laid : goal.returns-clause-laid
returns-clause-laid g c =
    rows_known (bare c.args.tree.now.tree) c.args.id c.args.reps.now c.args.width.now c.args.wide.parts c.requires.wide.grid c.args.wide.items c.requires.wide.items c.requires.own (c.items_lie_in_their_tracks.ensures.items c.args.reps.now c.args.width.now) c.in_ok-size.size c.in_ok-size.rows
    c.in_ok-size.ensures.value c.in_ok-size.ensures.size c.in_ok-size.ensures.rows
