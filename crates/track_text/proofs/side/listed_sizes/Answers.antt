use Rattle.std.proofs.Common.{rules, arith, ◌≡◌, ◌≤◌, ◌+◌, ◌++◌, drop, length, ap, sym, ◌∙◌}
use Rattle.runs.specs.Times.{items_of, times}
use Rattle.runs.proofs.Times.{items_at}
use Rattle.track_text.specs.Sides.{sizes_of}
use Rattle.track_text.proofs.Listed.{sizes_fit, sizes_next}
use Rattle.track_text.proofs.side.listed_sizes.Goals as goal

pub with-requires : goal.with-requires
with-requires c =
    let parts = c.parts-count-items.result.now in
    let item = c.loop-count-item.result in
    let left = items_of (drop c.loop-count.count-index parts) in
    let rest = items_of (drop (c.loop-count.count-index + 1) parts) in
    let e : left ≡ times item.0 item.1 ++ rest = search (rules, items_at) in
    let s : c.in_ok-more.more ≡ sizes_of item.1 = search rules in
    let few : length c.args.tracks.now ≤ 4294967296 = omega (arith, c.len.ensures.value, c.len.ensures.few) in
    sizes_fit c.loop-count.sizes c.in_ok-more.more left rest c.args.tracks.now item.0 item.1 e s c.loop-count.invariant few

pub loop-count-preserved : goal.loop-count-preserved
loop-count-preserved c =
    let parts = c.parts-count-items.result.now in
    let item = c.loop-count-item.result in
    let left = items_of (drop c.loop-count.count-index parts) in
    let rest = items_of (drop (c.loop-count.count-index + 1) parts) in
    let e : left ≡ times item.0 item.1 ++ rest = search (rules, items_at) in
    let s : c.in_ok-more.more ≡ sizes_of item.1 = search rules in
    let n : c.in_ok-sizes.sizes ≡ c.loop-count.sizes ++ times item.0 c.in_ok-more.more = c.in_ok-sizes.ensures in
    sizes_next c.loop-count.sizes c.in_ok-sizes.sizes c.in_ok-more.more left rest c.args.tracks.now item.0 item.1 e s n c.loop-count.invariant
