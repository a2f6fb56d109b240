use Rattle.std.proofs.Common.{rules, sym, ◌∙◌}
use Rattle.doc_text.specs.NodeText.{with_braces, braces_in}
use Rattle.doc_text.proofs.Cuts.{nil_of, missing_close, closed_here, smaller, next_one}
use Rattle.doc_text.proofs.node_text.with_braces.Goals as goal

pub returns-in-None : goal.returns-in-None
returns-in-None c =
    rw (c.fault.ensures, c.at.ensures)
    (missing_close c.args.version c.loop-made.left c.split_at-front.result.0 c.split_at-front.result.1 c.loop-made.made c.in_ok-made.made _ c.bytes.result.now c.end_of_first.result
    c.bytes.ensures c.end_of_first.ensures.place c.split_at-front.ensures.front c.split_at-front.ensures.back c.in_ok-made.ensures (sym c.bytes-in-loop-made.ensures ∙ nil_of c.bytes-in-loop-made.result.now c.in-None.ensures.cases) c.loop-made.invariant)

pub returns-then-byte-eq125 : goal.returns-then-byte-eq125
returns-then-byte-eq125 c =
    closed_here c.args.version c.loop-made.left c.split_at-front.result.0 c.split_at-front.result.1 c.loop-made.made c.in_ok-made.made _ c.bytes.result.now c.end_of_first.result
    c.bytes.ensures c.end_of_first.ensures.place c.split_at-front.ensures.front c.split_at-front.ensures.back c.in-Some.byte.now c.in-Some.field-0-1.now (search rules) c.without_first-rest.result
    c.without_first-rest.ensures c.in_ok-made.ensures c.if-byte-eq125.true c.loop-made.invariant

pub loop-made-smaller : goal.loop-made-smaller
loop-made-smaller c =
    smaller c.args.version c.loop-made.left c.split_at-front.result.0 c.split_at-front.result.1 c.loop-made.made c.in_ok-made.made (with_braces c.args.version (braces_in c.loop-made.left) c.loop-made.made) c.bytes.result.now c.end_of_first.result
    c.bytes.ensures c.end_of_first.ensures.place c.split_at-front.ensures.front c.split_at-front.ensures.back c.in-Some.byte.now c.in-Some.field-0-1.now (search rules) c.without_first-rest.result
    c.without_first-rest.ensures

pub loop-made-preserved : goal.loop-made-preserved
loop-made-preserved c =
    next_one c.args.version c.loop-made.left c.split_at-front.result.0 c.split_at-front.result.1 c.loop-made.made c.in_ok-made.made _ c.bytes.result.now c.end_of_first.result
    c.bytes.ensures c.end_of_first.ensures.place c.split_at-front.ensures.front c.split_at-front.ensures.back c.in-Some.byte.now c.in-Some.field-0-1.now (search rules) c.without_first-rest.result
    c.without_first-rest.ensures c.in_ok-made.ensures c.if-byte-eq125.false c.loop-made.invariant
