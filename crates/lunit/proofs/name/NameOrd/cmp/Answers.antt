use Rattle.std.proofs.Common.{◌∙◌, arith, ap, sym}
use Rattle.lunit.specs.Padded.{padded}
use Rattle.lunit.proofs.Fronts.{by_rooms}
use Rattle.lunit.proofs.name.NameOrd.cmp.Goals as goal

pub returns-in-Some : goal.returns-in-Some
returns-in-Some c =
    by_rooms c.args.self.now c.args.other.now c.self.inside.bytes c.other.inside.bytes c.in-Some.order (ap padded (sym c.self.view_is) ∙ c.self.invariant.padded_ok) (ap padded (sym c.other.view_is) ∙ c.other.invariant.padded_ok)
    (omega (arith, c.self.told)) (omega (arith, c.other.told)) c.in-Some.ensures.order c.in-Some.ensures.unequal
