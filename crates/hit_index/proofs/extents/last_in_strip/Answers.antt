use Rattle.std.proofs.Common.{[], ◌∙◌, arith}
use Rattle.std.proofs.lemmas.List.{get_or_read}
use Rattle.hit_index.proofs.extents.last_in_strip.Goals as goal

pub last_hit-requires-clause-around : goal.last_hit-requires-clause-around
last_hit-requires-clause-around c =
    let numbers = c.as_slice-numbers.ensures ∙ get_or_read c.args.strips.now c.args.strip c.index-strips-strip.result c.requires.strip c.index-strips-strip.is [] in
    let edges = c.as_slice.ensures ∙ get_or_read c.args.extents.now c.args.strip c.index-extents-strip.result (omega arith) c.index-extents-strip.is [] in
    rw (numbers, edges) (c.requires.runs.around c.args.strip c.requires.strip)
