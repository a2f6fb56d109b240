use Rattle.std.proofs.Common.{arith, ap, subst, sym, ◌≡◌, ◌∙◌, ◌∷◌, [], List, map}
use Rattle.placing.proofs.Leaves.{on_err}
use Rattle.placing.proofs.Walks.{stopped}
use Rattle.placing.specs.Kept.{frame_of}
use Rattle.placing.specs.Nodes.{BareTrees, IsLive, children_at, sight_at}
use Rattle.placing.specs.Walks.{kept_with}
use Rattle.placing.specs.declared.node.Answer.TheVariants as answer
use Rattle.placing.specs.declared.node.Frame.{Frame as NodeFrame}
use Rattle.tree_rules.specs.KeptAnswers.{IsAbsent}
use Rattle.tree_rules.specs.Queries.{Fits, answer_of, child_frames}
use Rattle.tree_rules.specs.declared.kind.NodeKind.TheVariants as kind
use Rattle.box_layout.proofs.FlexAnswered.{flex_quiet}
use Rattle.walker.specs.Walkers.{nodes}
use Rattle.walker.proofs.Parts.{parts_then}
use Rattle.box_layout.proofs.flex_anew.flex_frames_anew.Goals as goal

pub flex_found-requires-clause-ask : goal.flex_found-requires-clause-ask
flex_found-requires-clause-ask g c = c.requires.ask

pub frames_kept-requires-clause-live : goal.frames_kept-requires-clause-live
frames_kept-requires-clause-live g c =
    subst (λ (z : BareTrees). IsLive z c.args.id) (sym c.in_ok-frames.ensures.below.walk.bare_same) c.requires.live

pub frames_kept-requires-clause-absent : goal.frames_kept-requires-clause-absent
frames_kept-requires-clause-absent g c =
    subst (IsAbsent c.args.query) (sym c.in_ok-frames.ensures.below.own) c.requires.absent

pub frames_kept-requires-clause-fits : goal.frames_kept-requires-clause-fits
frames_kept-requires-clause-fits g c =
    subst (λ (z : BareTrees). Fits (sight_at z c.args.id) c.args.query) (sym c.in_ok-frames.ensures.below.walk.bare_same) c.requires.fits

pub frames_kept-requires-clause-quiet : goal.frames_kept-requires-clause-quiet
frames_kept-requires-clause-quiet g c =
    let is : (sight_at (nodes c.flex_found.new.walk) c.args.id).label.kind ≡ kind.Flex = subst (λ (z : BareTrees). (sight_at z c.args.id).label.kind ≡ kind.Flex) (sym c.in_ok-frames.ensures.below.walk.bare_same) c.requires.flex in
    flex_quiet (nodes c.flex_found.new.walk) c.args.id c.args.query is c.requires.ask

pub frames_kept-requires-clause-value : goal.frames_kept-requires-clause-value
frames_kept-requires-clause-value g c = ap (λ (l : List NodeFrame). child_frames (map frame_of l)) c.in_ok-shared.ensures ∙ c.in_ok-frames.ensures.value ∙ ap (λ (z : BareTrees). answer_of (sight_at z c.args.id) c.args.query) (sym c.in_ok-frames.ensures.below.walk.bare_same)

pub frames_kept-requires-clause-children : goal.frames_kept-requires-clause-children
frames_kept-requires-clause-children g c = ap (map (λ (f : NodeFrame). f.child)) c.in_ok-shared.ensures ∙ c.in_ok-frames.ensures.children ∙ ap (λ (z : BareTrees). children_at z c.args.id) (sym c.in_ok-frames.ensures.below.walk.bare_same)

pub returns-clause-value : goal.returns-clause-value
returns-clause-value g c =
    ap (λ (l : List NodeFrame). child_frames (map frame_of l)) (c.in_ok-told.ensures.same ∙ c.in_ok-shared.ensures) ∙ c.in_ok-frames.ensures.value

pub returns-clause-children : goal.returns-clause-children
returns-clause-children g c =
    ap (map (λ (f : NodeFrame). f.child)) (c.in_ok-told.ensures.same ∙ c.in_ok-shared.ensures) ∙ c.in_ok-frames.ensures.children

pub returns-clause-walked : goal.returns-clause-walked
returns-clause-walked g c =
    c.in_ok-told.ensures.walked _ 1 (omega arith) c.in_ok-frames.ensures.below

pub returns-in_err-told-clause-stopped : goal.returns-in_err-told-clause-stopped
returns-in_err-told-clause-stopped g c =
    on_err _ _ (c.in_err-told.ensures.stopped _ 1 c.in_ok-frames.ensures.below)

pub returns-clause-own : goal.returns-clause-own
returns-clause-own g c =
    c.in_ok-told.ensures.own ∙ (λ i. kept_with (c.in_ok-frames.ensures.below.own i) ((c.args.query, answer.Frames c.in_ok-told.told) ∷ []))

pub returns-in_err-shared-clause-stopped : goal.returns-in_err-shared-clause-stopped
returns-in_err-shared-clause-stopped g c = on_err _ _ (stopped c.args.id c.args.query 1 _ _ c.in_ok-frames.ensures.below)

pub returns-in_err-frames-clause-parts : goal.returns-in_err-frames-clause-parts
returns-in_err-frames-clause-parts g c = c.flex_found.ensures.parts

pub returns-in_err-frames-clause-stands : goal.returns-in_err-frames-clause-stands
returns-in_err-frames-clause-stands g c = c.flex_found.ensures.stands

pub returns-in_err-shared-clause-parts : goal.returns-in_err-shared-clause-parts
returns-in_err-shared-clause-parts g c = c.flex_found.ensures.parts

pub returns-in_err-shared-clause-stands : goal.returns-in_err-shared-clause-stands
returns-in_err-shared-clause-stands g c = c.flex_found.ensures.stands

pub returns-in_err-told-clause-parts : goal.returns-in_err-told-clause-parts
returns-in_err-told-clause-parts g c =
    parts_then _ _ _ c.flex_found.ensures.parts c.frames_kept.ensures.parts

pub returns-in_err-told-clause-stands : goal.returns-in_err-told-clause-stands
returns-in_err-told-clause-stands g c =
    c.frames_kept.ensures.stands

pub returns-clause-parts : goal.returns-clause-parts
returns-clause-parts g c =
    parts_then _ _ _ c.flex_found.ensures.parts c.frames_kept.ensures.parts

pub returns-clause-stands : goal.returns-clause-stands
returns-clause-stands g c =
    c.frames_kept.ensures.stands
