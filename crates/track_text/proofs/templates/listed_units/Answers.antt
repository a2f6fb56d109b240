use Rattle.std.proofs.Common.{rules, ◌≡◌, ◌+◌, ◌++◌, [], drop}
use Rattle.runs.specs.Times.{items_of, times}
use Rattle.runs.proofs.Times.{items_at}
use Rattle.track_text.specs.Sides.{units_before}
use Rattle.track_text.proofs.Listed.{units_next_part}
use Rattle.track_text.proofs.templates.listed_units.Goals as goal

pub loop-count-preserved : goal.loop-count-preserved
loop-count-preserved c =
    let parts = c.parts-count-items.result.now in
    let item = c.loop-count-item.result in
    let left = items_of (drop c.loop-count.count-index parts) in
    let rest = items_of (drop (c.loop-count.count-index + 1) parts) in
    let e : left ≡ times item.0 item.1 ++ rest = search (rules, items_at) in
    let m : c.push_units.new.units ≡ units_before item.1 [] = search rules in
    let n : c.in_ok-units.units ≡ c.loop-count.units ++ times item.0 c.push_units.new.units = c.in_ok-units.ensures in
    units_next_part c.loop-count.units c.in_ok-units.units c.push_units.new.units (units_before c.args.tracks.now []) left rest item.0 item.1 e m n c.loop-count.invariant
