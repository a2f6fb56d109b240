use Rattle.std.proofs.Common.{◌≡◌, ◌∙◌, ap, refl, sym, subst, List, map}
use Rattle.std.proofs.lemmas.Result.{IfOk-weaker}
use Rattle.placing.specs.declared.node.Frame.{Frame as NodeFrame}
use Rattle.box_layout.specs.Boxed.{AreOfChildren}
use Rattle.box_layout.proofs.LeafFrames.{known}
use Rattle.tree_rules.specs.declared.query.Query.{Query}
use Rattle.box_layout.specs.LeafHeights.{AreLeavesKept, MeasuresLeaves}
use Rattle.box_layout.proofs.BelowSteps.{ok_then}
use Rattle.placing.proofs.Leaves.{on_err}
use Rattle.placing.proofs.Walks.{found_walked, stopped, walked_none}
use Rattle.inline_sizes.proofs.Asked.{on_ok}
use Rattle.box_layout.specs.Asking.{frames_asked}
use Rattle.walker.specs.Walkers.{nodes, seen}
use Rattle.box_layout.proofs.framing.frames_of.Goals as goal

pub returns-in_err-query-clause-stopped : goal.returns-in_err-query-clause-stopped
returns-in_err-query-clause-stopped g c = on_err _ _ (stopped c.args.id _ 0 _ _ (walked_none c.args.id (frames_asked c.args.reps.now c.args.inline.now c.args.block.now) (seen g.R.Ruler.log c.args.walk.now) c.requires.stands.right))

pub returns-in-Some-clause-walked : goal.returns-in-Some-clause-walked
returns-in-Some-clause-walked g c = on_ok _ _ (found_walked c.args.id (frames_asked c.args.reps.now c.args.inline.now c.args.block.now) (seen g.R.Ruler.log c.args.walk.now) c.requires.stands.right)

pub returns-in-Some-clause-stopped : goal.returns-in-Some-clause-stopped
returns-in-Some-clause-stopped g c = on_err _ _ (stopped c.args.id _ 0 _ _ (walked_none c.args.id (frames_asked c.args.reps.now c.args.inline.now c.args.block.now) (seen g.R.Ruler.log c.args.walk.now) c.requires.stands.right))

pub returns-in_err-above-clause-stopped : goal.returns-in_err-above-clause-stopped
returns-in_err-above-clause-stopped g c = on_err _ _ (stopped c.args.id _ 0 _ _ (walked_none c.args.id (frames_asked c.args.reps.now c.args.inline.now c.args.block.now) (seen g.R.Ruler.log c.args.walk.now) c.requires.stands.right))

pub returns-in-Some-clause-leaves : goal.returns-in-Some-clause-leaves
returns-in-Some-clause-leaves g c =
    let all : MeasuresLeaves (nodes c.args.walk.now) c.args.id (frames_asked c.args.reps.now c.args.inline.now c.args.block.now) (seen g.R.Ruler.log c.args.walk.now)
    (seen g.R.Ruler.log c.args.walk.now) = λ grid none. known _ (sym c.in-Some.ensures.kept ∙ none) in
    on_ok _ _ all

pub returns-clause-leaves : goal.returns-clause-leaves
returns-clause-leaves g c =
    ok_then c.frames_under.result _ _
    (λ held grid none. subst (λ (q : Query). AreLeavesKept (nodes c.args.walk.now) c.args.id q (seen g.R.Ruler.log c.frames_under.new.walk)) c.in_ok-query.ensures (held grid))
    c.frames_under.ensures.leaves

pub frames_under-requires-clause-query : goal.frames_under-requires-clause-query
frames_under-requires-clause-query g c = subst (λ (q : Query). q ≡ frames_asked c.args.reps.now q.inline q.block) (sym c.in_ok-query.ensures) refl

pub returns-in-Some-clause-children : goal.returns-in-Some-clause-children
returns-in-Some-clause-children g c =
    IfOk-weaker c.again.result _ (λ (frames : List NodeFrame). AreOfChildren (nodes c.args.walk.now) c.args.id frames) (λ frames same. ap (map (λ (f : NodeFrame). f.child)) same ∙ c.in-Some.ensures.children) c.again.ensures
