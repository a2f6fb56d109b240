use Rattle.std.proofs.Common.{rules, arith, ◌≡◌, ◌≤◌, ◌+◌, ◌++◌, ◌∷◌, take, drop, length}
use Rattle.runs.specs.Times.{times as runs_times}
use Rattle.track_text.specs.Templates.{sets_of}
use Rattle.track_text.proofs.Holding.{from_there}
use Rattle.track_text.proofs.Listing.{few_are, sets_full, sets_next, sets_last}
use Rattle.track_text.proofs.subgrids.sets_of.Goals as goal

pub loop-part-preserved : goal.loop-part-preserved
loop-part-preserved c =
    let item = c.part-item.result in
    let held = c.loop-part.held in
    let here = drop c.loop-part.part-index c.args.parts.now in
    let left = drop (c.loop-part.part-index + 1) c.args.parts.now in
    let e : here ≡ item ∷ left = search (rules, from_there) in
    let sets : c.in_ok-copy.field-0 ≡ item.sets = search rules in
    let m : c.in_ok-held.held ≡ take 20001 (held ++ runs_times item.count c.in_ok-copy.field-0) = c.in_ok-held.ensures in
    record {
      few = few_are 20001 c.in_ok-held.held (held ++ runs_times item.count c.in_ok-copy.field-0) m;
      rest = sets_next 20001 held c.in_ok-held.held (take 20001 (sets_of c.args.parts.now)) c.in_ok-copy.field-0 here left item e sets m c.loop-part.invariant.rest;
    }

pub returns-then-len-ge-MOST_SETS : goal.returns-then-len-ge-MOST_SETS
returns-then-len-ge-MOST_SETS c =
    let full : 20001 ≤ length c.loop-part.held = search rules in
    sets_full 20001 c.loop-part.held (take 20001 (sets_of c.args.parts.now)) (drop c.loop-part.part-index c.args.parts.now) full c.loop-part.invariant.few c.loop-part.invariant.rest

pub returns : goal.returns
returns c = sets_last 20001 c.loop-part.held (take 20001 (sets_of c.args.parts.now)) c.args.parts.now c.loop-part.part-index (omega arith) c.loop-part.invariant.few c.loop-part.invariant.rest
