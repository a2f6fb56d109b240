use Rattle.std.proofs.Common.{◌∙◌}
use Rattle.doc_writer.proofs.Runs.{each_next}
use Rattle.doc_writer.proofs.track.write_sizes.Goals as goal

pub loop-size-preserved : goal.loop-size-preserved
loop-size-preserved c =
    each_next c.loop-size.line c.write_track.new.line c.args.sizes.now c.loop-size.size-index c.size-item.result c.loop-size.left c.track.new.self c.track.result
    c.loop-size-test.true c.size-item.is c.track.ensures c.in_ok-write_track.ensures
    ∙ c.loop-size.invariant
