use Rattle.std.proofs.Common.{rules, ◌≡◌}
use Rattle.cell_index.proofs.Pairs.{pair_beside}
use Rattle.cell_index.proofs.blocks.beside.Goals as goal

pub returns-in-Some : goal.returns-in-Some
returns-in-Some c =
    let same : c.args.first.rows ≡ c.args.second.rows = search rules in
    pair_beside c.args.first c.args.second c.in-Some.columns same c.in-Some.ensures
