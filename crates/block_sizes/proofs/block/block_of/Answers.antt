use Rattle.std.proofs.Common.{false}
use Rattle.placing.specs.Walks.{state}
use Rattle.placing.proofs.Leaves.{on_err}
use Rattle.placing.proofs.Walks.{found_walked, stopped, walked_none}
use Rattle.tree_rules.specs.AskedQueries.{block_query}
use Rattle.block_sizes.proofs.HeldWide.{some_or_none}
use Rattle.block_sizes.proofs.block.block_of.Goals as goal

pub returns-in_err-query-clause-stopped : goal.returns-in_err-query-clause-stopped
returns-in_err-query-clause-stopped g c = on_err _ _ (stopped c.args.id _ 0 _ _ (walked_none c.args.id (block_query false c.args.reps.now c.args.width.now) (state c.args.tree.now c.args.tally.now c.args.passes.now (g.R.Ruler.log c.args.ruler.now)) c.requires.right))

pub returns-in_err-above-clause-stopped : goal.returns-in_err-above-clause-stopped
returns-in_err-above-clause-stopped g c = on_err _ _ (stopped c.args.id _ 0 _ _ (walked_none c.args.id (block_query false c.args.reps.now c.args.width.now) (state c.args.tree.now c.args.tally.now c.args.passes.now (g.R.Ruler.log c.args.ruler.now)) c.requires.right))

pub returns-in-Some-clause-walked : goal.returns-in-Some-clause-walked
returns-in-Some-clause-walked g c = found_walked c.args.id (block_query false c.args.reps.now c.args.width.now) (state c.args.tree.now c.args.tally.now c.args.passes.now (g.R.Ruler.log c.args.ruler.now)) c.requires.right

pub returns-in-Some-clause-own : goal.returns-in-Some-clause-own
returns-in-Some-clause-own g c = λ none. some_or_none _ c.in-Some.ensures.kept none
