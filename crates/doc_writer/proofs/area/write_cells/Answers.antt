use Rattle.std.proofs.Common.{◌∙◌, ap, sym}
use Rattle.doc_writer.specs.Spaces.{put}
use Rattle.doc_writer.proofs.Kept.{put_none}
use Rattle.doc_writer.proofs.Marks.{no_cells_left}
use Rattle.doc_writer.proofs.area.write_cells.Goals as goal

pub returns : goal.returns
returns c =
    sym (put_none c.loop-mark.line)
    ∙ ap (put c.loop-mark.line) (sym (no_cells_left c.loop-mark.opens c.args.named.now c.loop-mark.left.now c.in_default.ensures.cases))
    ∙ c.loop-mark.invariant
