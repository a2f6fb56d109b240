use Rattle.std.proofs.Common.{arith, ◌≡◌, true}
use Rattle.placing.specs.Walks.{Stopped, WalkedBelow}
use Rattle.tree_rules.specs.Frames.{given_size}
use Rattle.tree_rules.specs.Queries.{needs_inline}
use Rattle.tree_rules.specs.declared.query.Query.{Query}
use Rattle.placing.proofs.Leaves.{on_err}
use Rattle.placing.proofs.Walks.{stopped, ticked, walked_none}
use Rattle.inline_sizes.proofs.Asked.{on_ok}
use Rattle.block_sizes.proofs.HeldLines.{held_row}
use Rattle.block_sizes.proofs.HeldWide.{if_ok_same}
use Rattle.block_sizes.specs.Settling.{IsRow}
use Rattle.walker.specs.Walkers.{nodes, seen}
use Rattle.block_sizes.proofs.held.row_for.Goals as goal

pub returns-in-Some-clause-value : goal.returns-in-Some-clause-value
returns-in-Some-clause-value g c =
    if_ok_same _ _ (IsRow (nodes c.args.walk.now) c.args.id c.args.width) c.again.ensures (held_row (nodes c.args.walk.now) c.args.id c.root.ensures.tree c.args.width _ c.in-Some.ensures)

pub returns-in-Some-clause-below : goal.returns-in-Some-clause-below
returns-in-Some-clause-below g c =
    let here = seen g.R.Ruler.log c.args.walk.now in
    let all : (q : Query) → given_size q.inline ≡ c.args.width → needs_inline q.ask ≡ true → WalkedBelow c.args.id q 1 here here =
    λ q w needs. ticked c.args.id q 0 1 here here c.args.walk.now.passes.now (omega arith) (walked_none c.args.id q here c.requires.stands.right) in
    on_ok _ _ all

pub returns-in-Some-clause-stopped : goal.returns-in-Some-clause-stopped
returns-in-Some-clause-stopped g c =
    let here = seen g.R.Ruler.log c.args.walk.now in
    let all : (q : Query) → given_size q.inline ≡ c.args.width → needs_inline q.ask ≡ true → Stopped c.args.id q here here =
    λ q w needs. stopped c.args.id q 0 here here (walked_none c.args.id q here c.requires.stands.right) in
    on_err _ _ all

pub returns-clause-value : goal.returns-clause-value
returns-clause-value g c = if_ok_same _ _ (IsRow (nodes c.args.walk.now) c.args.id c.args.width) c.new.ensures c.in_ok-parts.ensures.value

pub returns-clause-below : goal.returns-clause-below
returns-clause-below g c = on_ok _ _ c.in_ok-parts.ensures.below

pub returns-clause-stopped : goal.returns-clause-stopped
returns-clause-stopped g c =
    let here = seen g.R.Ruler.log c.args.walk.now in
    let then = seen g.R.Ruler.log c.row_in.new.walk in
    let all : (q : Query) → given_size q.inline ≡ c.args.width → needs_inline q.ask ≡ true → Stopped c.args.id q here then =
    λ q w needs. stopped c.args.id q 1 here then (c.in_ok-parts.ensures.below q w needs) in
    on_err _ _ all
