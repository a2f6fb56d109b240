use Rattle.std.proofs.Common.{arith, rules, sym, ◌∙◌, ◌+◌, ◌-◌, ◌<◌, ◌≤◌}
use Rattle.session.specs.Input.{limit}
use Rattle.session.proofs.Pieces.{asks_done}
use Rattle.session.proofs.Texts.{line_given, end_given, in_text_few, few_more, in_text_more, ended_at_line, ended_with_input, wants_in_text}
use Rattle.session.proofs.text.read_text.Goals as goal

pub ended-requires : goal.ended-requires
ended-requires g c = in_text_few (g.S.Source.left c.args.source.now) (g.S.Source.left c.loop-line.source) c.loop-line.reader.lines c.loop-line.reader.ended c.loop-line.held c.loop-line.count c.loop-line.invariant.text

pub returns-then-is_end_of_document-clause-text : goal.returns-then-is_end_of_document-clause-text
returns-then-is_end_of_document-clause-text g c =
    let before = g.S.Source.left c.args.source.now in
    let at = c.loop-line.invariant.text in
    let more = line_given before (g.S.Source.left c.next_line.new.source) at.given c.in-Ok-Some.line c.next_line.new.reader.lines c.next_line.new.reader.ended c.in-Ok-Some.field-0 c.in-Ok-Some.field-0-is (c.in-Ok-Some.ensures.next before at.given at.input) in
    ended_at_line before (g.S.Source.left c.loop-line.source) (g.S.Source.left c.next_line.new.source) c.loop-line.reader.lines c.next_line.new.reader.lines c.loop-line.reader.ended c.next_line.new.reader.ended c.loop-line.held c.loop-line.count c.in-Ok-Some.line at more c.ended.result
    (sym c.is_end_of_document.ensures ∙ c.if-is_end_of_document.true) c.ended.ensures.lines c.ended.ensures.end c.ended.ensures.script

pub overflow_add-count : goal.overflow_add-count
overflow_add-count g c =
    let before = g.S.Source.left c.args.source.now in
    let at = c.loop-line.invariant.text in
    let more = line_given before (g.S.Source.left c.next_line.new.source) at.given c.in-Ok-Some.line c.next_line.new.reader.lines c.next_line.new.reader.ended c.in-Ok-Some.field-0 c.in-Ok-Some.field-0-is (c.in-Ok-Some.ensures.next before at.given at.input) in
    let few : c.loop-line.count +
    1 ≤ 67108864 = few_more before (g.S.Source.left c.loop-line.source) (g.S.Source.left c.next_line.new.source) c.loop-line.reader.lines c.next_line.new.reader.lines c.loop-line.reader.ended c.next_line.new.reader.ended c.loop-line.held c.loop-line.count c.in-Ok-Some.line at more
    in
    omega (arith, few)

pub loop-line-smaller : goal.loop-line-smaller
loop-line-smaller g c =
    let before = g.S.Source.left c.args.source.now in
    let at = c.loop-line.invariant.text in
    let more = line_given before (g.S.Source.left c.next_line.new.source) at.given c.in-Ok-Some.line c.next_line.new.reader.lines c.next_line.new.reader.ended c.in-Ok-Some.field-0 c.in-Ok-Some.field-0-is (c.in-Ok-Some.ensures.next before at.given at.input) in
    let few : c.loop-line.count +
    1 ≤ 67108864 = few_more before (g.S.Source.left c.loop-line.source) (g.S.Source.left c.next_line.new.source) c.loop-line.reader.lines c.next_line.new.reader.lines c.loop-line.reader.ended c.next_line.new.reader.ended c.loop-line.held c.loop-line.count c.in-Ok-Some.line at more
    in
    let less : limit - (c.loop-line.count + 1) < limit - c.loop-line.count = omega (arith, few) in
    less

pub loop-line-preserved : goal.loop-line-preserved
loop-line-preserved g c =
    let before = g.S.Source.left c.args.source.now in
    let at = c.loop-line.invariant.text in
    let more = line_given before (g.S.Source.left c.next_line.new.source) at.given c.in-Ok-Some.line c.next_line.new.reader.lines c.next_line.new.reader.ended c.in-Ok-Some.field-0 c.in-Ok-Some.field-0-is (c.in-Ok-Some.ensures.next before at.given at.input) in
    record {
      text =
          in_text_more before (g.S.Source.left c.loop-line.source) (g.S.Source.left c.next_line.new.source) c.loop-line.reader.lines c.next_line.new.reader.lines c.loop-line.reader.ended c.next_line.new.reader.ended c.loop-line.held c.loop-line.count c.in-Ok-Some.line at more
          c.add.new.self (sym c.is_end_of_document.ensures ∙ c.if-is_end_of_document.false) (c.in-Ok.ensures.holds at.given at.holds);
      short = c.in-Ok.ensures.short c.loop-line.invariant.short;
      fed = search rules;
      within = search rules;
      later = search rules;
      asks = c.in-Ok-Some.ensures.asks (g.S.Source.left c.args.source.now) (g.S.Source.asked c.args.source.now) c.loop-line.invariant.asks;
    }

pub returns-in-Err-add-clause-text : goal.returns-in-Err-add-clause-text
returns-in-Err-add-clause-text g c =
    let before = g.S.Source.left c.args.source.now in
    let at = c.loop-line.invariant.text in
    let more = line_given before (g.S.Source.left c.next_line.new.source) at.given c.in-Ok-Some.line c.next_line.new.reader.lines c.next_line.new.reader.ended c.in-Ok-Some.field-0 c.in-Ok-Some.field-0-is (c.in-Ok-Some.ensures.next before at.given at.input) in
    wants_in_text before (g.S.Source.left c.next_line.new.source) at.given c.in-Ok-Some.line c.next_line.new.reader.lines c.next_line.new.reader.ended more at.unended (sym c.is_end_of_document.ensures ∙ c.if-is_end_of_document.false)

pub ended-requires-in-Ok-None : goal.ended-requires-in-Ok-None
ended-requires-in-Ok-None g c = in_text_few (g.S.Source.left c.args.source.now) (g.S.Source.left c.loop-line.source) c.loop-line.reader.lines c.loop-line.reader.ended c.loop-line.held c.loop-line.count c.loop-line.invariant.text

pub returns-in-Ok-None-clause-text : goal.returns-in-Ok-None-clause-text
returns-in-Ok-None-clause-text g c =
    let before = g.S.Source.left c.args.source.now in
    let at = c.loop-line.invariant.text in
    let all = end_given before (g.S.Source.left c.next_line.new.source) at.given c.next_line.new.reader.lines c.next_line.new.reader.ended c.in-Ok-None.field-0 c.in-Ok-None.field-0-is (c.in-Ok-None.ensures.next before at.given at.input) in
    ended_with_input before (g.S.Source.left c.loop-line.source) (g.S.Source.left c.next_line.new.source) c.loop-line.reader.lines c.next_line.new.reader.lines c.loop-line.reader.ended c.next_line.new.reader.ended c.loop-line.held c.loop-line.count at c.ended-in-Ok-None.result all
    c.ended-in-Ok-None.ensures.lines c.ended-in-Ok-None.ensures.end c.ended-in-Ok-None.ensures.script

pub returns-in-Err-clause-text : goal.returns-in-Err-clause-text
returns-in-Err-clause-text g c =
    let before = g.S.Source.left c.args.source.now in
    let at = c.loop-line.invariant.text in
    record { given = at.given; unended = at.unended; stops = c.in-Err.ensures.next before at.given at.input }

-- ---- how often the source was asked

pub returns-then-is_end_of_document-clause-asks : goal.returns-then-is_end_of_document-clause-asks
returns-then-is_end_of_document-clause-asks g c = c.in-Ok-Some.ensures.asks (g.S.Source.left c.args.source.now) (g.S.Source.asked c.args.source.now) c.loop-line.invariant.asks

pub returns-in-Err-add-clause-asks : goal.returns-in-Err-add-clause-asks
returns-in-Err-add-clause-asks g c =
    asks_done (g.S.Source.left c.args.source.now) (g.S.Source.left c.next_line.new.source) (g.S.Source.asked c.args.source.now) (g.S.Source.asked c.next_line.new.source) c.next_line.new.reader.count c.next_line.new.reader.ended
    (c.in-Ok-Some.ensures.asks (g.S.Source.left c.args.source.now) (g.S.Source.asked c.args.source.now) c.loop-line.invariant.asks)

pub returns-in-Ok-None-clause-asks : goal.returns-in-Ok-None-clause-asks
returns-in-Ok-None-clause-asks g c = c.in-Ok-None.ensures.asks (g.S.Source.left c.args.source.now) (g.S.Source.asked c.args.source.now) c.loop-line.invariant.asks

pub returns-in-Err-clause-asks : goal.returns-in-Err-clause-asks
returns-in-Err-clause-asks g c = c.in-Err.ensures.asks (g.S.Source.left c.args.source.now) (g.S.Source.asked c.args.source.now) c.loop-line.invariant.asks
