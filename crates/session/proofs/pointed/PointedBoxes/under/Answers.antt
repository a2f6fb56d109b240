use Rattle.std.proofs.Common.{ap, refl, rules, sym, ◌∙◌, List, w64}
use Rattle.std.proofs.lemmas.Int.{to_z-of_z}
use Rattle.session.specs.Hits.{box_under}
use Rattle.session.specs.Printing.{Box}
use Rattle.session.proofs.Points.{rects_of, under_at, under_none, under_within}
use Rattle.session.proofs.pointed.PointedBoxes.under.Goals as goal

pub returns-in_err-number : goal.returns-in_err-number
returns-in_err-number c =
    c.from_residual.ensures ∙
    under_none c.args.self.now c.self.inside.index (c.self.invariant ∙ ap rects_of c.self.view_is) c.args.x c.args.y c.of.result c.of-2.result (c.of.ensures ∙ (to_z-of_z w64 c.units.result (search rules) ∙ c.units.ensures.value))
    (c.of-2.ensures ∙ (to_z-of_z w64 c.units-2.result (search rules) ∙ c.units-2.ensures.value)) (c.in_err-number.ensures.none.0 refl)

pub bounds-as_slice-number : goal.bounds-as_slice-number
bounds-as_slice-number c =
    under_within c.as_slice.result.now c.self.inside.index (c.self.invariant ∙ ap rects_of (sym c.as_slice.ensures)) c.args.x c.args.y c.of.result c.of-2.result (c.of.ensures ∙ (to_z-of_z w64 c.units.result (search rules) ∙ c.units.ensures.value))
    (c.of-2.ensures ∙ (to_z-of_z w64 c.units-2.result (search rules) ∙ c.units-2.ensures.value)) c.in_ok-number.number c.in_ok-number.ensures.last

pub bounds-as_slice-number-in_ok-number : goal.bounds-as_slice-number-in_ok-number
bounds-as_slice-number-in_ok-number c =
    under_within c.as_slice.result.now c.self.inside.index (c.self.invariant ∙ ap rects_of (sym c.as_slice.ensures)) c.args.x c.args.y c.of.result c.of-2.result (c.of.ensures ∙ (to_z-of_z w64 c.units.result (search rules) ∙ c.units.ensures.value))
    (c.of-2.ensures ∙ (to_z-of_z w64 c.units-2.result (search rules) ∙ c.units-2.ensures.value)) c.in_ok-number.number c.in_ok-number.ensures.last

pub returns : goal.returns
returns c =
    under_at c.as_slice.result.now c.self.inside.index (c.self.invariant ∙ ap rects_of (sym c.as_slice.ensures)) c.args.x c.args.y c.of.result c.of-2.result (c.of.ensures ∙ (to_z-of_z w64 c.units.result (search rules) ∙ c.units.ensures.value))
    (c.of-2.ensures ∙ (to_z-of_z w64 c.units-2.result (search rules) ∙ c.units-2.ensures.value)) c.in_ok-number.number c.index-as_slice-number.result c.in_ok-number.ensures.last
    ∙ ap (λ (boxes : List Box). box_under boxes c.args.x c.args.y) (c.as_slice.ensures ∙ c.self.view_is)
