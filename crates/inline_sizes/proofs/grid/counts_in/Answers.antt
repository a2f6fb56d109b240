use Rattle.std.proofs.Common.{[]}
use Rattle.placing.specs.Nodes.{bare}
use Rattle.tree_rules.specs.Labels.{label_of}
use Rattle.tree_rules.specs.declared.kind.NodeKind.TheVariants as kind
use Rattle.inline_sizes.proofs.Grids.{counted}
use Rattle.inline_sizes.proofs.grid.counts_in.Goals as goal

pub returns : goal.returns
returns c =
    counted (bare c.args.tree.now.tree) c.args.id c.args.reps.now c.args.width.now c.in_ok-pair.pair c.in_ok-pairs.pairs (label_of [] kind.Grid c.node_at.result.now.style) c.in_ok-pairs.ensures c.in_ok-pair.ensures
    c.node_at.ensures.grid c.node_at.ensures.content
