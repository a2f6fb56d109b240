use Rattle.std.proofs.Common.{rules, ap, ◌≡◌, ◌∙◌, sym, true, false, [], inr}
use Rattle.std.proofs.lemmas.Bool.{false≢true}
use Rattle.placing.proofs.Leaves.{on_err}
use Rattle.placing.specs.Keeping.{is_leaf}
use Rattle.placing.specs.Nodes.{level_at, sight_at}
use Rattle.tree_rules.specs.AskedQueries.{block_query}
use Rattle.tree_rules.specs.Queries.{Fits}
use Rattle.block_sizes.proofs.AskMembers.{fits_block, spread_none}
use Rattle.placing.specs.Spread.{IsSpread}
use Rattle.block_sizes.specs.Wides.{farthest}
use Rattle.box_layout.specs.LeafHeights.{IsLeafStopped}
use Rattle.box_layout.proofs.KeptPaths.{sized_kept}
use Rattle.walker.specs.Walkers.{nodes, seen}
use Rattle.box_layout.proofs.leaves.ask_leaf.Goals as goal

pub returns-then-not-is_leaf-clause-held : goal.returns-then-not-is_leaf-clause-held
returns-then-not-is_leaf-clause-held g c = λ leaf. absurd (false≢true (sym (sym c.is_leaf.ensures ∙ c.if-not-is_leaf.true) ∙ ap is_leaf c.node_at.ensures.kind ∙ leaf))

pub height_alone-requires : goal.height_alone-requires
height_alone-requires g c =
    let b = nodes c.args.walk.now in
    let f = c.args.frame.now in
    let leaf : is_leaf (sight_at b f.child).label.kind ≡ true = ap is_leaf (sym c.node_at.ensures.kind) ∙ sym c.is_leaf.ensures ∙ c.if-not-is_leaf.false in
    let fits : Fits (sight_at b f.child) (block_query false [] f.inline) = fits_block (sight_at b f.child) f.inline (c.requires.alone leaf) (c.requires.given leaf) in
    let apart : IsSpread (farthest (level_at b f.child)) f.inline = spread_none (farthest (level_at b f.child)) f.inline (c.requires.given leaf) in
    search rules

pub returns-clause-asked : goal.returns-clause-asked
returns-clause-asked g c =
    let leaf : is_leaf (sight_at (nodes c.args.walk.now) c.args.frame.now.child).label.kind ≡ true = ap is_leaf (sym c.node_at.ensures.kind) ∙ sym c.is_leaf.ensures ∙ c.if-not-is_leaf.false in
    inr (leaf, c.in_ok-height_alone.ensures.walked)

pub returns-clause-held : goal.returns-clause-held
returns-clause-held g c =
    λ leaf. sized_kept c.args.frame.now.child (block_query false [] c.args.frame.now.inline) (seen g.R.Ruler.log c.args.walk.now)
    (seen g.R.Ruler.log c.height_alone.new.walk) _ c.height_alone.ensures.found c.in_ok-height_alone.ensures.own

pub returns-in_err-height_alone-clause-stopped : goal.returns-in_err-height_alone-clause-stopped
returns-in_err-height_alone-clause-stopped g c =
    let leaf : is_leaf (sight_at (nodes c.args.walk.now) c.args.frame.now.child).label.kind ≡ true = ap is_leaf (sym c.node_at.ensures.kind) ∙ sym c.is_leaf.ensures ∙ c.if-not-is_leaf.false in
    let all : IsLeafStopped (nodes c.args.walk.now) c.args.frame.now (seen g.R.Ruler.log c.args.walk.now) (seen g.R.Ruler.log c.height_alone.new.walk) = record
    { leaf = leaf; stopped = c.in_err-height_alone.ensures.stopped } in
    on_err _ _ all
