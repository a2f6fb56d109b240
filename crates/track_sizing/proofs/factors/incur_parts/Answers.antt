use Rattle.std.proofs.Common.{arith, ap, ◌≡◌, ◌∙◌, sym, ◌+◌, ℤ, pos, ◌*ℤ◌}
use Rattle.std.proofs.lemmas.Int.{ints}
use Rattle.lunit.specs.Units.{clamp, floor_div}
use Rattle.part_rules.specs.Sharing.{part}
use Rattle.part_rules.specs.Tracks.{Track, incur}
use Rattle.track_sizing.specs.Here.{weight_of}
use Rattle.track_sizing.proofs.Parts.{IsNextPart, no_parts, next_part, more_parts, part_fits}
use Rattle.track_sizing.proofs.factors.incur_parts.Goals as goal

pub loop-row-init : goal.loop-row-init
loop-row-init c = no_parts c.args.affected.now c.args.space c.args.total c.args.rows.now c.of-lower.result c.requires.flexible c.requires.some c.requires.quiet c.requires.total c.of-lower.ensures

pub times-requires : goal.times-requires
times-requires c = part_fits c.wide.result (c.loop-row.sum + c.weight-sum.result) (omega (arith, ints, c.wide.ensures.value)) (omega (arith, ints)) (omega arith)

pub sub-requires : goal.sub-requires
sub-requires c =
    let weight : c.loop-row.sum + c.weight-sum.result ≡ c.loop-row.sum + weight_of c.args.affected.now c.row-item.result = omega (arith, c.weight-sum.ensures.value ∙ ap (weight_of c.args.affected.now) (sym c.row-item.is)) in
    let upper : c.floor_div-upper.result ≡ part c.args.space c.args.total (c.loop-row.sum + c.weight-sum.result) = c.floor_div-upper.ensures.value ∙ ap (λ (z : ℤ). floor_div z c.args.total) (c.times.ensures ∙ ap (λ (z : ℤ). z *ℤ pos (c.loop-row.sum + c.weight-sum.result)) c.wide.ensures.value) in
    (next_part c.args.affected.now c.args.space c.args.total c.args.rows.now c.loop-row.rows c.loop-row.row-index c.loop-row.sum
    (c.loop-row.sum + c.weight-sum.result) c.loop-row.lower c.floor_div-upper.result c.row-item.result c.loop-row.invariant c.requires.flexible c.requires.some (omega (arith, ints, c.wide.ensures.value)) (omega arith) c.row-item.is weight upper).wide

pub incur-requires-clause-some : goal.incur-requires-clause-some
incur-requires-clause-some c =
    let weight : c.loop-row.sum + c.weight-sum.result ≡ c.loop-row.sum + weight_of c.args.affected.now c.row-item.result = omega (arith, c.weight-sum.ensures.value ∙ ap (weight_of c.args.affected.now) (sym c.row-item.is)) in
    let upper : c.floor_div-upper.result ≡ part c.args.space c.args.total (c.loop-row.sum + c.weight-sum.result) = c.floor_div-upper.ensures.value ∙ ap (λ (z : ℤ). floor_div z c.args.total) (c.times.ensures ∙ ap (λ (z : ℤ). z *ℤ pos (c.loop-row.sum + c.weight-sum.result)) c.wide.ensures.value) in
    let one : IsNextPart c.args.space c.loop-row.lower c.floor_div-upper.result c.row-item.result = next_part c.args.affected.now c.args.space c.args.total c.args.rows.now c.loop-row.rows c.loop-row.row-index c.loop-row.sum (c.loop-row.sum + c.weight-sum.result) c.loop-row.lower
    c.floor_div-upper.result c.row-item.result c.loop-row.invariant c.requires.flexible c.requires.some (omega (arith, ints, c.wide.ensures.value)) (omega arith) c.row-item.is weight upper in
    omega (arith, ints, one.some, c.clamp.ensures ∙ ap clamp c.sub.ensures)

pub incur-requires-clause-fits : goal.incur-requires-clause-fits
incur-requires-clause-fits c =
    let weight : c.loop-row.sum + c.weight-sum.result ≡ c.loop-row.sum + weight_of c.args.affected.now c.row-item.result = omega (arith, c.weight-sum.ensures.value ∙ ap (weight_of c.args.affected.now) (sym c.row-item.is)) in
    let upper : c.floor_div-upper.result ≡ part c.args.space c.args.total (c.loop-row.sum + c.weight-sum.result) = c.floor_div-upper.ensures.value ∙ ap (λ (z : ℤ). floor_div z c.args.total) (c.times.ensures ∙ ap (λ (z : ℤ). z *ℤ pos (c.loop-row.sum + c.weight-sum.result)) c.wide.ensures.value) in
    let one : IsNextPart c.args.space c.loop-row.lower c.floor_div-upper.result c.row-item.result = next_part c.args.affected.now c.args.space c.args.total c.args.rows.now c.loop-row.rows c.loop-row.row-index c.loop-row.sum (c.loop-row.sum + c.weight-sum.result) c.loop-row.lower
    c.floor_div-upper.result c.row-item.result c.loop-row.invariant c.requires.flexible c.requires.some (omega (arith, ints, c.wide.ensures.value)) (omega arith) c.row-item.is weight upper in
    let share = c.clamp.ensures ∙ ap clamp c.sub.ensures in
    let before = ap (λ (t : Track). t.incurred) c.row-item.is in
    (omega (arith, ints, one.fits.0, share, before), omega (arith, ints, one.fits.1, share, before))

pub loop-row-preserved : goal.loop-row-preserved
loop-row-preserved c =
    let weight : c.loop-row.sum + c.weight-sum.result ≡ c.loop-row.sum + weight_of c.args.affected.now c.row-item.result = omega (arith, c.weight-sum.ensures.value ∙ ap (weight_of c.args.affected.now) (sym c.row-item.is)) in
    let upper : c.floor_div-upper.result ≡ part c.args.space c.args.total (c.loop-row.sum + c.weight-sum.result) = c.floor_div-upper.ensures.value ∙ ap (λ (z : ℤ). floor_div z c.args.total) (c.times.ensures ∙ ap (λ (z : ℤ). z *ℤ pos (c.loop-row.sum + c.weight-sum.result)) c.wide.ensures.value) in
    more_parts c.args.affected.now c.args.space c.args.total c.args.rows.now c.loop-row.rows c.loop-row.row-index c.loop-row.sum (c.loop-row.sum + c.weight-sum.result) c.loop-row.lower c.floor_div-upper.result c.row-item.result c.incur.result c.loop-row.invariant c.requires.flexible
    c.requires.some (omega (arith, ints, c.wide.ensures.value)) (omega arith) c.row-item.is weight upper
    (c.incur.ensures ∙ ap (λ (t : Track). incur t c.clamp.result) (sym c.row-item.is) ∙ ap (incur c.row-item.result) (c.clamp.ensures ∙ ap clamp c.sub.ensures))
