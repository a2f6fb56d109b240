use Rattle.std.proofs.Common.{rules, ◌≡◌}
use Rattle.cell_index.proofs.Pairs.{pair_below}
use Rattle.cell_index.proofs.blocks.below.Goals as goal

pub returns-in-Some : goal.returns-in-Some
returns-in-Some c =
    let same : c.args.first.columns ≡ c.args.second.columns = search rules in
    pair_below c.args.first c.args.second c.in-Some.rows same c.in-Some.ensures
