use Rattle.std.proofs.Common.{◌≡◌, ◌+◌, ◌<◌, ◌||◌, ◌+ℤ◌, sym, subst, ℕ, ℤ, pos, [], get_or, length, take, to_z, of_z, w32}
use Rattle.std.specs.Prelude.{nat_lt}
use Rattle.std.specs.List.{list_any}
use Rattle.std.proofs.lemmas.Int.{to_z-of_z}
use Rattle.lunit.specs.declared.geometry.Span.{Span}
use Rattle.part_rules.specs.Repetition.{covers}
use Rattle.placing.specs.Covered.{AreMarked}
use Rattle.placing.proofs.Tracks.{more_marked, none_marked}
use Rattle.placing.proofs.covered.marks_of.Goals as goal

pub loop-area-init : goal.loop-area-init
loop-area-init c = subst (λ (z : ℤ). AreMarked z [] c.args.count c.in_ok-marks.marks) (sym (to_z-of_z w32 c.args.first c.ranges.first)) (none_marked c.args.first c.args.count c.in_ok-marks.marks c.in_ok-marks.ensures)

pub loop-area-preserved : goal.loop-area-preserved
loop-area-preserved c =
    let near : to_z w32 (of_z w32 c.args.first) ≡ c.args.first = to_z-of_z w32 c.args.first c.ranges.first in
    let d : Span = record { start = pos 0; end = pos 0 } in
    subst (λ (z : ℤ). AreMarked z (take (c.loop-area.area-index + 1) c.args.areas.now) c.args.count c.mark_area.new.marks) (sym near)
    (more_marked c.args.first c.args.areas.now c.loop-area.area-index c.args.count d c.loop-area.marks c.mark_area.new.marks c.loop-area-test.true c.mark_area.ensures.counted
    (subst (λ (z : ℤ). (at : ℕ) → at < length c.loop-area.marks → list_any (nat_lt at) (take (at + 1) c.mark_area.new.marks) ≡ (list_any (nat_lt at) (take (at + 1) c.loop-area.marks) || covers (z +ℤ pos at) (get_or c.args.areas.now c.loop-area.area-index d))) near c.mark_area.ensures.told)
    (subst (λ (z : ℤ). AreMarked z (take c.loop-area.area-index c.args.areas.now) c.args.count c.loop-area.marks) near c.loop-area.invariant))
