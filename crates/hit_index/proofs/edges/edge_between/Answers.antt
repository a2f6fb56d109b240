use Rattle.std.proofs.Common.{◌≡◌, ◌+ℤ◌, arith, ◌∙◌}
use Rattle.std.proofs.lemmas.Int.{ints}
use Rattle.hit_index.specs.Strips.{edge_between}
use Rattle.hit_index.proofs.Bounds.{edge_is, edge_is_small, product_is_wide_at}
use Rattle.hit_index.proofs.edges.edge_between.Goals as goal

pub times-requires : goal.times-requires
times-requires c = product_is_wide_at c.args.top c.args.bottom c.sub-height.result c.args.strip c.requires.top c.requires.bottom c.requires.strip (omega (arith, ints))

pub add-requires : goal.add-requires
add-requires c =
    let top : c.of-top.result ≡ c.args.top = omega (arith, ints) in
    let bottom : c.of.result ≡ c.args.bottom = omega (arith, ints) in
    let small = edge_is_small c.of-top.result c.of.result c.sub-height.result c.times.result c.floor_div.result c.args.strip (rw top c.requires.top) (rw bottom c.requires.bottom) c.requires.strip c.sub-height.ensures c.times.ensures c.floor_div.ensures.value in
    (omega (arith, ints), omega (arith, ints))

pub units-requires : goal.units-requires
units-requires c =
    let top : c.of-top.result ≡ c.args.top = omega (arith, ints) in
    let bottom : c.of.result ≡ c.args.bottom = omega (arith, ints) in
    let small = edge_is_small c.of-top.result c.of.result c.sub-height.result c.times.result c.floor_div.result c.args.strip (rw top c.requires.top) (rw bottom c.requires.bottom) c.requires.strip c.sub-height.ensures c.times.ensures c.floor_div.ensures.value in
    (omega (arith, ints), omega (arith, ints))

pub returns : goal.returns
returns c =
    let top : c.of-top.result ≡ c.args.top = omega (arith, ints) in
    let bottom : c.of.result ≡ c.args.bottom = omega (arith, ints) in
    let here : (c.of-top.result +ℤ c.floor_div.result) ≡ edge_between c.args.top c.args.bottom c.args.strip
    = edge_is c.of-top.result c.of.result c.sub-height.result c.times.result c.floor_div.result c.args.strip c.sub-height.ensures c.times.ensures c.floor_div.ensures.value ∙ (λ i. edge_between (top i) (bottom i) c.args.strip) in
    omega (arith, ints)
