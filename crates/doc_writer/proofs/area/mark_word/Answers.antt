use Rattle.std.proofs.Common.{◌∙◌}
use Rattle.doc_writer.proofs.Marks.{mark_found, mark_missing}
use Rattle.doc_writer.proofs.area.mark_word.Goals as goal

pub returns-in-Some-clause-word : goal.returns-in-Some-clause-word
returns-in-Some-clause-word c =
    c.bytes.ensures.value ∙ mark_found c.args.named.now c.args.mark c.in-Some.field-0.now c.if-mark-eq0.false c.in-Some.ensures.lookup.0 c.in-Some.ensures.lookup.1

pub returns-in-None-clause-word : goal.returns-in-None-clause-word
returns-in-None-clause-word c = mark_missing c.args.named.now c.args.mark c.if-mark-eq0.false c.in-None.ensures.lookup.0
