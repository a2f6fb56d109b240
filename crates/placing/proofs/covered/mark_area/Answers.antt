use Rattle.std.proofs.Common.{◌∙◌, ◌+◌, ◌≡◌, ◌-ℤ◌, ap, take, ◌||◌, to_z, of_z, w32, ℤ}
use Rattle.std.proofs.lemmas.Int.{to_z-of_z}
use Rattle.std.specs.Prelude.{nat_lt}
use Rattle.std.specs.List.{list_any}
use Rattle.part_rules.specs.Lists.{above_zero}
use Rattle.placing.proofs.Tracks.{on_area}
use Rattle.placing.proofs.covered.mark_area.Goals as goal

pub returns-clause-told : goal.returns-clause-told
returns-clause-told c = λ at h.
    let near : to_z w32 (of_z w32 c.args.first) ≡ c.args.first = to_z-of_z w32 c.args.first c.ranges.first in
    c.mark.ensures.told at h
    ∙ ap (λ b. list_any (nat_lt at) (take (at + 1) c.args.marks.now) || b) (on_area c.args.area.now c.args.first at c.start_after-start.result c.end_after-end.result
    (c.start_after-start.ensures ∙ ap (λ (z : ℤ). above_zero (c.args.area.now.start -ℤ z)) near)
    (c.end_after-end.ensures ∙ ap (λ (z : ℤ). above_zero (c.args.area.now.end -ℤ z)) near))
