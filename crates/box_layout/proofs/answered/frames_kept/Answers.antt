use Rattle.std.proofs.Common.{sym, ◌∙◌, ◌∷◌, [], ℕ}
use Rattle.placing.proofs.Leaves.{on_err}
use Rattle.placing.proofs.Walks.{stopped}
use Rattle.placing.specs.Walks.{kept_with, State, Stopped, WalkedBelow}
use Rattle.placing.specs.declared.node.Answer.TheVariants as answer
use Rattle.walker.specs.Walkers.{kept, seen}
use Rattle.box_layout.proofs.answered.frames_kept.Goals as goal

pub put-requires-clause-value : goal.put-requires-clause-value
put-requires-clause-value g c = c.requires.value

pub put-requires-clause-children : goal.put-requires-clause-children
put-requires-clause-children g c = c.requires.children

pub put-requires-clause-quiet : goal.put-requires-clause-quiet
put-requires-clause-quiet g c = c.requires.quiet

pub put-requires-clause-fits : goal.put-requires-clause-fits
put-requires-clause-fits g c = c.requires.fits

pub put-requires-clause-absent : goal.put-requires-clause-absent
put-requires-clause-absent g c = c.requires.absent

pub put-requires-clause-live : goal.put-requires-clause-live
put-requires-clause-live g c = c.requires.live

pub returns-clause-same : goal.returns-clause-same
returns-clause-same g c = c.in_ok-told.ensures

pub returns-in_err-told-clause-stopped : goal.returns-in_err-told-clause-stopped
returns-in_err-told-clause-stopped g c =
    let stops : (old : State) (more : ℕ) → WalkedBelow c.args.id c.args.query more old (seen g.R.Ruler.log c.args.walk.now) → Stopped c.args.id c.args.query old (seen g.R.Ruler.log c.args.walk.now) =
    λ old more. stopped c.args.id c.args.query more old (seen g.R.Ruler.log c.args.walk.now) in
    on_err _ _ stops

pub returns-in_err-put-clause-stopped : goal.returns-in_err-put-clause-stopped
returns-in_err-put-clause-stopped g c = on_err _ _ c.in_err-put.ensures.stopped

pub returns-clause-walked : goal.returns-clause-walked
returns-clause-walked g c = c.in_ok-put.ensures.joins

pub returns-clause-own : goal.returns-clause-own
returns-clause-own g c =
    c.in_ok-put.ensures.own ∙ (λ i. kept_with (kept c.args.walk.now c.args.id) ((c.args.query, answer.Frames (sym c.in_ok-told.ensures i)) ∷ []))
