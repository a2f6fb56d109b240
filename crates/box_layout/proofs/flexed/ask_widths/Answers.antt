use Rattle.std.proofs.Common.{rules, arith, ap, ◌∙◌, sym, subst, refl, pos, false, []}
use Rattle.std.specs.Prelude.{Contains}
use Rattle.placing.proofs.Entries.{alone_there}
use Rattle.placing.proofs.Leaves.{on_err}
use Rattle.placing.proofs.Walks.{walked_none}
use Rattle.placing.specs.Nodes.{IsLive, level_at, sight_at, uses_at}
use Rattle.placing.specs.Seats.{IsSeat}
use Rattle.placing.specs.Walks.{Stopped}
use Rattle.placing.specs.declared.contexts.Above.TheVariants as above
use Rattle.tree_rules.specs.AskedQueries.{block_query}
use Rattle.tree_rules.specs.Chains.{has_chain}
use Rattle.tree_rules.specs.Queries.{Fits}
use Rattle.tree_rules.specs.declared.query.Given.{Given}
use Rattle.tree_rules.specs.declared.query.Query.{Query}
use Rattle.block_sizes.proofs.AskMembers.{fits_block, spread_none}
use Rattle.placing.specs.Spread.{IsSpread}
use Rattle.block_sizes.specs.Wides.{farthest}
use Rattle.box_layout.specs.FlexFrames.{AsksWidths}
use Rattle.box_layout.proofs.FrameWidths.{IsWidened, widened, widths_lead}
use Rattle.walker.specs.Walkers.{nodes, seen}
use Rattle.walker.proofs.Parts.{parts_then, same_parts}
use Rattle.box_layout.proofs.flexed.ask_widths.Goals as goal

pub loop-index-init : goal.loop-index-init
loop-index-init g c =
    record {
      stands = c.requires.stands;
      parts = same_parts c.args.walk.now;
      same = refl;
      walked = λ q asks. walked_none c.args.id q (seen g.R.Ruler.log c.args.walk.now) c.requires.stands.right;
    }

pub height_in-requires : goal.height_in-requires
height_in-requires g c =
    let b = nodes c.args.walk.now in
    let d = nodes c.loop-index.walk in
    let f = c.index-frames-index.result in
    let turn : IsWidened b d c.args.id c.args.width c.args.height c.loop-index.index f = widened b d c.args.id c.args.width c.args.height c.args.frames.now c.loop-index.index f c.loop-index.invariant.same c.root.ensures.tree c.requires.flex c.requires.grids c.requires.frames
    (omega (arith, c.loop-index-test.true)) c.index-frames-index.is in
    let live : IsLive d f.child = turn.live in
    let fits : Fits (sight_at d f.child) (block_query false [] f.inline) = fits_block (sight_at d f.child) f.inline turn.none turn.given in
    let seat : IsSeat (sight_at d f.child) [] above.Nothing (record { columns = record { start = pos 0; end = pos 0 }; rows = record { start = pos 0; end = pos 0 } }) = alone_there d f.child _ (ap has_chain turn.none) in
    let apart : IsSpread (farthest (level_at d f.child)) f.inline = spread_none (farthest (level_at d f.child)) f.inline turn.given in
    search rules

pub loop-index-preserved : goal.loop-index-preserved
loop-index-preserved g c =
    let b = nodes c.args.walk.now in
    let d = nodes c.loop-index.walk in
    let f = c.index-frames-index.result in
    let turn : IsWidened b d c.args.id c.args.width c.args.height c.loop-index.index f = widened b d c.args.id c.args.width c.args.height c.args.frames.now c.loop-index.index f c.loop-index.invariant.same c.root.ensures.tree c.requires.flex c.requires.grids c.requires.frames
    (omega (arith, c.loop-index-test.true)) c.index-frames-index.is in
    record {
      stands = c.height_in.ensures.stands;
      parts = parts_then _ _ _ c.loop-index.invariant.parts c.height_in.ensures.parts;
      same = c.in_ok-height_in.ensures.walked.walk.bare_same ∙ c.loop-index.invariant.same;
      walked = λ q asks. (c.root.ensures.steps c.args.id f.child c.loop-index.index turn.number).below q (block_query false [] f.inline) 0 _ _ _
          (subst (λ (w : Given). Contains (uses_at b c.args.id q) (c.loop-index.index, block_query false [] w)) (sym turn.inline) (widths_lead b c.args.id q c.args.width c.args.height c.loop-index.index turn.framed c.requires.flex c.requires.direction asks turn.next))
          c.loop-index.invariant.same (c.loop-index.invariant.walked q asks) c.in_ok-height_in.ensures.walked;
    }

pub returns-in_err-height_in-clause-stopped : goal.returns-in_err-height_in-clause-stopped
returns-in_err-height_in-clause-stopped g c =
    let b = nodes c.args.walk.now in
    let d = nodes c.loop-index.walk in
    let f = c.index-frames-index.result in
    let turn : IsWidened b d c.args.id c.args.width c.args.height c.loop-index.index f = widened b d c.args.id c.args.width c.args.height c.args.frames.now c.loop-index.index f c.loop-index.invariant.same c.root.ensures.tree c.requires.flex c.requires.grids c.requires.frames
    (omega (arith, c.loop-index-test.true)) c.index-frames-index.is in
    let all : (q : Query) → AsksWidths c.args.width c.args.height q → Stopped c.args.id q (seen g.R.Ruler.log c.args.walk.now) (seen g.R.Ruler.log c.height_in.new.walk) =
    λ q asks. (c.root.ensures.steps c.args.id f.child c.loop-index.index turn.number).stops q (block_query false [] f.inline) 0 _ _ _
    (subst (λ (w : Given). Contains (uses_at b c.args.id q) (c.loop-index.index, block_query false [] w)) (sym turn.inline) (widths_lead b c.args.id q c.args.width c.args.height c.loop-index.index turn.framed c.requires.flex c.requires.direction asks turn.next))
    c.loop-index.invariant.same (c.loop-index.invariant.walked q asks) c.in_err-height_in.ensures.stopped in
    on_err _ _ all

pub returns-clause-below : goal.returns-clause-below
returns-clause-below g c = c.loop-index.invariant.walked

pub returns-in_err-height_in-clause-parts : goal.returns-in_err-height_in-clause-parts
returns-in_err-height_in-clause-parts g c = parts_then _ _ _ c.loop-index.invariant.parts c.height_in.ensures.parts

pub returns-in_err-height_in-clause-stands : goal.returns-in_err-height_in-clause-stands
returns-in_err-height_in-clause-stands g c = c.height_in.ensures.stands

pub returns-clause-parts : goal.returns-clause-parts
returns-clause-parts g c = c.loop-index.invariant.parts

pub returns-clause-stands : goal.returns-clause-stands
returns-clause-stands g c = c.loop-index.invariant.stands
