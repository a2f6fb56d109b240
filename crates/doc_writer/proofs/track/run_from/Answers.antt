use Rattle.doc_writer.proofs.Runs.{run_more}
use Rattle.std.proofs.Common.{◌∙◌, ap, sym}
use Rattle.doc_writer.specs.Tracks.{track_with}
use Rattle.doc_writer.proofs.track.run_from.Goals as goal

pub loop-size-preserved : goal.loop-size-preserved
loop-size-preserved c =
    run_more c.args.track.now c.track.result c.args.lines.now c.loop-size.lines.now c.without_first-lines.result.now c.args.sizes.now c.loop-size.sizes.now c.in-Some.rest.now c.in-Some.size.now c.args.units.now c.loop-size.left c.track.new.self c.loop-size.more
    c.loop-size.invariant c.without_first-lines.ensures c.in-Some.ensures.cases.0 (c.track.ensures ∙ ap (track_with c.in-Some.size.now) c.same-after.ensures) (sym c.goes_on.ensures ∙ c.if-not-goes_on.false)
