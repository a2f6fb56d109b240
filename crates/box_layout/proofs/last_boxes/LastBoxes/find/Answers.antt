use Rattle.std.proofs.Common.{sym, ap, ◌∙◌, List, Option}
use Rattle.std.specs.Prelude.{slice_get}
use Rattle.box_layout.specs.Asking.{frames_asked}
use Rattle.box_layout.specs.declared.last_boxes.Below.{Below}
use Rattle.box_layout.proofs.FoundBoxes.{close_here, found_here}
use Rattle.box_layout.proofs.last_boxes.LastBoxes.find.Goals as goal

pub returns-then-same_query-clause-found : goal.returns-then-same_query-clause-found
returns-then-same_query-clause-found c =
    found_here c.self.inside.boxes.items c.as_slice-then-same_query.result.now c.self.inside.containers.items c.args.self.now c.self.view_is c.as_slice-then-same_query.ensures.value c.number_at-number.result c.in_ok-below.below.now c.args.id
    (frames_asked c.args.reps.now c.args.inline.now c.args.block.now)
    (ap (λ (z : List (Option Below)). slice_get z c.number_at-number.result) (sym c.as_slice-2.ensures.value) ∙ c.in_ok-below.ensures) (sym c.is.ensures ∙ c.if-is.true) (sym c.same_query.ensures ∙ c.if-same_query.true)

pub returns-then-same_query-clause-close : goal.returns-then-same_query-clause-close
returns-then-same_query-clause-close c =
    close_here c.self.inside.boxes.items c.as_slice-then-same_query.result.now c.self.inside.slots.items c.self.inside.containers.items c.self.invariant c.as_slice-then-same_query.ensures.value c.number_at-number.result c.in_ok-below.below.now
    (ap (λ (z : List (Option Below)). slice_get z c.number_at-number.result) (sym c.as_slice-2.ensures.value) ∙ c.in_ok-below.ensures)
