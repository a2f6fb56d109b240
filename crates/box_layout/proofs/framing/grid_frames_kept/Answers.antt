use Rattle.std.proofs.Common.{rules, ap, sym, subst, ◌∙◌, List, length}
use Rattle.placing.specs.Nodes.{BareTrees}
use Rattle.placing.specs.declared.node.Frame.{Frame as NodeFrame}
use Rattle.placing.proofs.Leaves.{on_err}
use Rattle.box_layout.specs.LeafHeights.{AreLeafFrames, HoldLeaves, UsesLeaves}
use Rattle.box_layout.proofs.LeafFrames.{leaf_frames, leaf_uses, leaves_kept}
use Rattle.walker.specs.Walkers.{nodes, seen}
use Rattle.tree_rules.specs.Answers.{Pair}
use Rattle.tree_rules.specs.declared.query.Query.{Query}
use Rattle.box_layout.specs.Asking.{frames_asked}
use Rattle.walker.proofs.Parts.{parts_then}
use Rattle.box_layout.proofs.framing.grid_frames_kept.Goals as goal

pub ask_leaves-requires : goal.ask_leaves-requires
ask_leaves-requires g c =
    let frames : AreLeafFrames (nodes c.grid_frames_anew.new.walk) c.args.id c.as_slice-listed.result.now = subst (λ (z : BareTrees). AreLeafFrames z c.args.id c.as_slice-listed.result.now) (sym c.in_ok-frames.ensures.walked.walk.bare_same)
    (subst (AreLeafFrames (nodes c.args.walk.now) c.args.id) (sym c.as_slice-listed.ensures)
    (leaf_frames c.args.walk.now.tree.now.tree c.args.id c.requires.stands.readable c.stands.ensures.numbered c.root.ensures.tree c.args.query c.requires.grid (c.requires.query ∙
    ap (λ (r : List Pair). frames_asked r c.args.query.inline c.args.query.block) (sym (ap (λ (q : Query). q.reps) c.requires.query))) c.requires.fits c.in_ok-frames.frames c.in_ok-frames.ensures.value c.in_ok-frames.ensures.children)) in
    search rules

pub returns-clause-walked : goal.returns-clause-walked
returns-clause-walked g c =
    c.in_ok-ask_leaves.ensures.walked c.args.query (seen g.R.Ruler.log c.args.walk.now)
    (subst (λ (z : BareTrees). UsesLeaves z c.args.id c.args.query c.as_slice-listed.result.now) (sym c.in_ok-frames.ensures.walked.walk.bare_same)
    (subst (UsesLeaves (nodes c.args.walk.now) c.args.id c.args.query) (sym c.as_slice-listed.ensures)
    (leaf_uses c.args.walk.now.tree.now.tree c.args.id c.requires.stands.readable c.stands.ensures.numbered c.root.ensures.tree c.args.query c.requires.grid (c.requires.query ∙
    ap (λ (r : List Pair). frames_asked r c.args.query.inline c.args.query.block) (sym (ap (λ (q : Query). q.reps) c.requires.query))) c.requires.fits c.in_ok-frames.frames c.in_ok-frames.ensures.value c.in_ok-frames.ensures.children)))
    (sym c.in_ok-frames.ensures.walked.walk.bare_same) c.in_ok-frames.ensures.walked

pub returns-clause-own : goal.returns-clause-own
returns-clause-own g c = c.in_ok-ask_leaves.ensures.own ∙ c.in_ok-frames.ensures.own

pub returns-clause-leaves : goal.returns-clause-leaves
returns-clause-leaves g c =
    λ grid. leaves_kept c.args.walk.now.tree.now.tree c.args.id c.requires.stands.readable c.stands.ensures.numbered c.root.ensures.tree c.args.query c.requires.grid (c.requires.query ∙
    ap (λ (r : List Pair). frames_asked r c.args.query.inline c.args.query.block) (sym (ap (λ (q : Query). q.reps) c.requires.query))) c.requires.fits c.in_ok-frames.frames c.in_ok-frames.ensures.value c.in_ok-frames.ensures.children
    (seen g.R.Ruler.log c.ask_leaves.new.walk)
    (subst (λ (l : List NodeFrame). HoldLeaves (nodes c.args.walk.now) (length l) l (seen g.R.Ruler.log c.ask_leaves.new.walk)) c.as_slice-listed.ensures
    (subst (λ (z : BareTrees). HoldLeaves z (length c.as_slice-listed.result.now) c.as_slice-listed.result.now (seen g.R.Ruler.log c.ask_leaves.new.walk)) c.in_ok-frames.ensures.walked.walk.bare_same
    c.in_ok-ask_leaves.ensures.held))

pub returns-in_err-ask_leaves-clause-stopped : goal.returns-in_err-ask_leaves-clause-stopped
returns-in_err-ask_leaves-clause-stopped g c =
    on_err _ _
    (c.in_err-ask_leaves.ensures.stopped c.args.query (seen g.R.Ruler.log c.args.walk.now)
    (subst (λ (z : BareTrees). UsesLeaves z c.args.id c.args.query c.as_slice-listed.result.now) (sym c.in_ok-frames.ensures.walked.walk.bare_same)
    (subst (UsesLeaves (nodes c.args.walk.now) c.args.id c.args.query) (sym c.as_slice-listed.ensures)
    (leaf_uses c.args.walk.now.tree.now.tree c.args.id c.requires.stands.readable c.stands.ensures.numbered c.root.ensures.tree c.args.query c.requires.grid (c.requires.query ∙
    ap (λ (r : List Pair). frames_asked r c.args.query.inline c.args.query.block) (sym (ap (λ (q : Query). q.reps) c.requires.query))) c.requires.fits c.in_ok-frames.frames c.in_ok-frames.ensures.value c.in_ok-frames.ensures.children)))
    (sym c.in_ok-frames.ensures.walked.walk.bare_same) c.in_ok-frames.ensures.walked)

pub returns-in_err-frames-clause-parts : goal.returns-in_err-frames-clause-parts
returns-in_err-frames-clause-parts g c = c.grid_frames_anew.ensures.parts

pub returns-in_err-frames-clause-stands : goal.returns-in_err-frames-clause-stands
returns-in_err-frames-clause-stands g c = c.grid_frames_anew.ensures.stands

pub returns-in_err-ask_leaves-clause-parts : goal.returns-in_err-ask_leaves-clause-parts
returns-in_err-ask_leaves-clause-parts g c = parts_then _ _ _ c.grid_frames_anew.ensures.parts c.ask_leaves.ensures.parts

pub returns-in_err-ask_leaves-clause-stands : goal.returns-in_err-ask_leaves-clause-stands
returns-in_err-ask_leaves-clause-stands g c = c.ask_leaves.ensures.stands

pub returns-clause-parts : goal.returns-clause-parts
returns-clause-parts g c = parts_then _ _ _ c.grid_frames_anew.ensures.parts c.ask_leaves.ensures.parts

pub returns-clause-stands : goal.returns-clause-stands
returns-clause-stands g c = c.ask_leaves.ensures.stands
