use Rattle.std.proofs.Common.{◌∙◌}
use Rattle.doc_writer.proofs.Runs.{plain_next}
use Rattle.doc_writer.proofs.track.write_plain.Goals as goal

pub loop-size-preserved : goal.loop-size-preserved
loop-size-preserved c =
    plain_next c.loop-size.line c.write_first_set.new.line c.write_track.new.line c.loop-size.lines.now c.without_first-lines.result.now c.args.sizes.now c.loop-size.size-index c.size-item.result c.loop-size.units c.track.new.self c.track.result
    c.loop-size-test.true c.size-item.is c.track.ensures c.in_ok-write_first_set.ensures c.in_ok-write_track.ensures c.without_first-lines.ensures
    ∙ c.loop-size.invariant
