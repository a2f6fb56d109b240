use Rattle.std.proofs.Common.{arith, ap, ◌≡◌, ◌∙◌, ◌+◌, ℤ, pos, ◌+ℤ◌, ◌*ℤ◌}
use Rattle.std.proofs.lemmas.Int.{ints}
use Rattle.lunit.specs.Units.{floor_div, IsUnits}
use Rattle.part_rules.proofs.Floor.{times-add}
use Rattle.fr_tracks.proofs.Expanded.{difference_fits, product_fits}
use Rattle.fr_tracks.proofs.sizes.expand.Goals as goal

pub add-product-requires : goal.add-product-requires
add-product-requires c =
    let units : IsUnits c.wide.result = (omega (arith, ints), omega (arith, ints)) in
    let space : c.wide.result *ℤ pos c.loop-row.invariant.before ≡ c.args.fraction.space *ℤ pos c.loop-row.invariant.before = ap (λ (z : ℤ). z *ℤ pos c.loop-row.invariant.before) c.wide.ensures.value in
    let product : c.loop-row.product +ℤ c.times.result ≡ c.wide.result *ℤ pos (c.loop-row.invariant.before + c.weight_in.result) = omega (arith, ints, space, c.loop-row.invariant.product_is, c.times.ensures, times-add c.wide.result c.loop-row.invariant.before c.weight_in.result) in
    product_fits c.wide.result (c.loop-row.product +ℤ c.times.result) (c.loop-row.invariant.before + c.weight_in.result) units (omega arith) product

pub sub-requires : goal.sub-requires
sub-requires c =
    let units : IsUnits c.args.fraction.space = (omega (arith, ints), omega (arith, ints)) in
    let more : c.wide.result *ℤ pos c.weight_in.result ≡ c.args.fraction.space *ℤ pos c.weight_in.result = ap (λ (z : ℤ). z *ℤ pos c.weight_in.result) c.wide.ensures.value in
    let product : c.add-product.result ≡
    c.args.fraction.space *ℤ pos (c.loop-row.invariant.before + c.weight_in.result) = omega (arith, ints, more, c.add-product.ensures, c.times.ensures, c.loop-row.invariant.product_is, times-add c.args.fraction.space c.loop-row.invariant.before c.weight_in.result) in
    difference_fits c.args.fraction.space c.loop-row.lower c.floor_div-upper.result c.args.fraction.weight c.loop-row.invariant.before (c.loop-row.invariant.before + c.weight_in.result) units c.requires (omega arith) (omega arith)
    (c.floor_div-upper.ensures.value ∙ ap (λ (z : ℤ). floor_div z c.args.fraction.weight) product) c.loop-row.invariant.lower_is
