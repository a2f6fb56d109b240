use Rattle.std.proofs.Common.{sym, subst, ◌+◌, ◌-◌, rules, arith}
use Rattle.outside.proofs.Laws.{all_but_start, prefix_more, all_but_more}
use Rattle.page_maker.specs.Standing.{IsMade}
use Rattle.session.specs.Boxes.{boxes_of}
use Rattle.session.specs.Made.{made_line, layouts_left, lines_left}
use Rattle.session.specs.Standing.{doc_of}
use Rattle.session.proofs.Draws.{first_agrees, later_agree}
use Rattle.session.proofs.LayoutsLeft.{tells_end, tells_next, tells_start}
use Rattle.session.proofs.LogsLeft.{but_end, but_next, but_start, but_stays, but_stop}
use Rattle.session.proofs.Making.{left_next, layouts_end, layouts_next, any_err}
use Rattle.session.proofs.Spares.{spares_some}
use Rattle.session.proofs.made.write_edits.Goals as goal

pub loop-k-init : goal.loop-k-init
loop-k-init g c =
    record {
      written = all_but_start (g.K.Sink.written c.args.sink.now) (lines_left 8 c.args.nodes (doc_of c.args.engine.now) c.args.draws.now.state);
      log = but_start (g.R.Ruler.log c.args.ruler.now) 1 (layouts_left 8 c.args.nodes (doc_of c.args.engine.now) c.args.draws.now.state);
      told = λ touches a. tells_start touches (g.R.Ruler.log c.args.ruler.now) (g.R.Ruler.log c.args.ruler.now) c.args.passes.now c.args.passes.now 1 1 (layouts_left 8 c.args.nodes (doc_of c.args.engine.now) c.args.draws.now.state);
      agree = λ touches a. a;
      spared = λ touches before a p. p;
      made = search rules;
      faults = search rules;
      some = search rules;
    }

pub returns-in_err-edit_once-clause-stopped : goal.returns-in_err-edit_once-clause-stopped
returns-in_err-edit_once-clause-stopped g c =
    any_err c.from_residual.result
    (but_stays (g.R.Ruler.log c.args.ruler.now) (g.R.Ruler.log c.loop-k.ruler) 1 c.loop-k.k (layouts_left (9 - c.loop-k.k) c.args.nodes (doc_of c.loop-k.engine) c.loop-k.draws.state)
    (layouts_left 8 c.args.nodes (doc_of c.args.engine.now) c.args.draws.now.state) c.loop-k.invariant.log)

pub returns-in_err-edit_once-clause-spares : goal.returns-in_err-edit_once-clause-spares
returns-in_err-edit_once-clause-spares g c touches before a p = spares_some touches before (g.R.Ruler.log c.loop-k.ruler) c.loop-k.engine.page (c.loop-k.invariant.spared touches before a p)

pub returns-in_err-write_line-clause-err : goal.returns-in_err-write_line-clause-err
returns-in_err-write_line-clause-err g c =
    let start = g.K.Sink.written c.args.sink.now in
    let edited = doc_of c.edit_once.new.engine in
    let line = made_line c.loop-k.k (boxes_of edited) in
    let left = lines_left (9 - (c.loop-k.k + 1)) c.args.nodes (doc_of c.write_line.new.engine) c.edit_once.new.draws.state in
    let whole = lines_left 8 c.args.nodes (doc_of c.args.engine.now) c.args.draws.now.state in
    let before = lines_left (9 - c.loop-k.k) c.args.nodes (doc_of c.loop-k.engine) c.loop-k.draws.state in
    any_err c.from_residual-in_err-write_line.result
    (prefix_more start (g.K.Sink.written c.loop-k.sink) (g.K.Sink.written c.write_line.new.sink) line left whole before c.loop-k.invariant.written c.in_err-write_line.ensures.err
    (left_next c.loop-k.k c.args.nodes (doc_of c.loop-k.engine) edited (doc_of c.write_line.new.engine) c.loop-k.draws.state c.edit_once.new.draws.state c.loop-k.invariant.some c.loop-k-test.true
    c.in_ok-edit_once.ensures.document c.write_line.ensures.document c.in_ok-edit_once.ensures.state))

pub returns-in_err-write_line-clause-stopped : goal.returns-in_err-write_line-clause-stopped
returns-in_err-write_line-clause-stopped g c =
    let edited = doc_of c.edit_once.new.engine in
    let left = layouts_left (9 - (c.loop-k.k + 1)) c.args.nodes (doc_of c.write_line.new.engine) c.edit_once.new.draws.state in
    let whole = layouts_left 8 c.args.nodes (doc_of c.args.engine.now) c.args.draws.now.state in
    let before = layouts_left (9 - c.loop-k.k) c.args.nodes (doc_of c.loop-k.engine) c.loop-k.draws.state in
    any_err c.from_residual-in_err-write_line.result
    (but_stop (g.R.Ruler.log c.args.ruler.now) (g.R.Ruler.log c.loop-k.ruler) (g.R.Ruler.log c.write_line.new.ruler) 1 c.loop-k.k edited left whole before c.loop-k.invariant.log
    (layouts_next c.loop-k.k c.args.nodes (doc_of c.loop-k.engine) edited (doc_of c.write_line.new.engine) c.loop-k.draws.state c.edit_once.new.draws.state c.loop-k-test.true
    c.in_ok-edit_once.ensures.document c.write_line.ensures.document c.in_ok-edit_once.ensures.state)
    c.in_err-write_line.ensures.stopped)

pub returns-in_err-write_line-clause-spares : goal.returns-in_err-write_line-clause-spares
returns-in_err-write_line-clause-spares g c touches before a p =
    c.in_err-write_line.ensures.spares touches before
    (c.in_ok-edit_once.ensures.spares touches before (g.R.Ruler.log c.loop-k.ruler) c.loop-k.k
    (first_agrees touches c.loop-k.k c.args.nodes (doc_of c.loop-k.engine) c.loop-k.draws.state c.loop-k-test.true (c.loop-k.invariant.agree touches a))
    (c.loop-k.invariant.spared touches before a p))

pub loop-k-preserved : goal.loop-k-preserved
loop-k-preserved g c =
    let start = g.K.Sink.written c.args.sink.now in
    let edited = doc_of c.edit_once.new.engine in
    let line = made_line c.loop-k.k (boxes_of edited) in
    let left = lines_left (9 - (c.loop-k.k + 1)) c.args.nodes (doc_of c.write_line.new.engine) c.edit_once.new.draws.state in
    let whole = lines_left 8 c.args.nodes (doc_of c.args.engine.now) c.args.draws.now.state in
    let before = lines_left (9 - c.loop-k.k) c.args.nodes (doc_of c.loop-k.engine) c.loop-k.draws.state in
    let layouts = layouts_left (9 - (c.loop-k.k + 1)) c.args.nodes (doc_of c.write_line.new.engine) c.edit_once.new.draws.state in
    let all_layouts = layouts_left 8 c.args.nodes (doc_of c.args.engine.now) c.args.draws.now.state in
    let layouts_before = layouts_left (9 - c.loop-k.k) c.args.nodes (doc_of c.loop-k.engine) c.loop-k.draws.state in
    record {
      written = all_but_more start (g.K.Sink.written c.loop-k.sink) (g.K.Sink.written c.write_line.new.sink) line left whole before c.loop-k.invariant.written c.in_ok-write_line.ensures.ok
          (left_next c.loop-k.k c.args.nodes (doc_of c.loop-k.engine) edited (doc_of c.write_line.new.engine) c.loop-k.draws.state c.edit_once.new.draws.state c.loop-k.invariant.some c.loop-k-test.true
          c.in_ok-edit_once.ensures.document c.write_line.ensures.document c.in_ok-edit_once.ensures.state);
      log = but_next (g.R.Ruler.log c.args.ruler.now) (g.R.Ruler.log c.loop-k.ruler) (g.R.Ruler.log c.write_line.new.ruler) 1 c.loop-k.k edited layouts all_layouts layouts_before c.loop-k.invariant.log
          (layouts_next c.loop-k.k c.args.nodes (doc_of c.loop-k.engine) edited (doc_of c.write_line.new.engine) c.loop-k.draws.state c.edit_once.new.draws.state c.loop-k-test.true
          c.in_ok-edit_once.ensures.document c.write_line.ensures.document c.in_ok-edit_once.ensures.state)
          c.in_ok-write_line.ensures.log;
      told = λ touches a.
          tells_next touches (g.R.Ruler.log c.args.ruler.now) (g.R.Ruler.log c.loop-k.ruler) (g.R.Ruler.log c.write_line.new.ruler) c.args.passes.now c.loop-k.passes c.write_line.new.passes 1 c.loop-k.k edited layouts all_layouts layouts_before (c.loop-k.invariant.told touches a)
          (layouts_next c.loop-k.k c.args.nodes (doc_of c.loop-k.engine) edited (doc_of c.write_line.new.engine) c.loop-k.draws.state c.edit_once.new.draws.state c.loop-k-test.true
          c.in_ok-edit_once.ensures.document c.write_line.ensures.document c.in_ok-edit_once.ensures.state)
          (c.in_ok-write_line.ensures.layouts touches
          (c.in_ok-edit_once.ensures.emptied touches c.loop-k.k (omega (arith, c.loop-k.invariant.some)) (first_agrees touches c.loop-k.k c.args.nodes (doc_of c.loop-k.engine) c.loop-k.draws.state c.loop-k-test.true (c.loop-k.invariant.agree touches a))));
      agree = λ touches a.
          later_agree touches c.loop-k.k c.args.nodes (doc_of c.loop-k.engine) c.loop-k.draws.state c.loop-k-test.true (c.loop-k.invariant.agree touches a)
          edited (doc_of c.write_line.new.engine) c.edit_once.new.draws.state c.in_ok-edit_once.ensures.document c.write_line.ensures.document c.in_ok-edit_once.ensures.state;
      spared = λ touches start_log a p.
          c.in_ok-write_line.ensures.spares touches start_log
          (c.in_ok-edit_once.ensures.spares touches start_log (g.R.Ruler.log c.loop-k.ruler) c.loop-k.k
          (first_agrees touches c.loop-k.k c.args.nodes (doc_of c.loop-k.engine) c.loop-k.draws.state c.loop-k-test.true (c.loop-k.invariant.agree touches a))
          (c.loop-k.invariant.spared touches start_log a p));
      made = subst (IsMade c.args.nodes) (sym c.write_line.ensures.document) c.in_ok-edit_once.ensures.made;
      faults = search rules;
      some = search rules;
    }

pub returns-clause-log : goal.returns-clause-log
returns-clause-log g c =
    but_end (g.R.Ruler.log c.args.ruler.now) (g.R.Ruler.log c.loop-k.ruler) 1 c.loop-k.k (layouts_left (9 - c.loop-k.k) c.args.nodes (doc_of c.loop-k.engine) c.loop-k.draws.state)
    (layouts_left 8 c.args.nodes (doc_of c.args.engine.now) c.args.draws.now.state) c.loop-k.invariant.log
    (layouts_end c.loop-k.k c.args.nodes (doc_of c.loop-k.engine) c.loop-k.draws.state (omega (arith, c.loop-k-test.false)))

pub returns-clause-spares : goal.returns-clause-spares
returns-clause-spares g c touches before a p = spares_some touches before (g.R.Ruler.log c.loop-k.ruler) c.loop-k.engine.page (c.loop-k.invariant.spared touches before a p)

pub returns-clause-layouts : goal.returns-clause-layouts
returns-clause-layouts g c touches a =
    tells_end touches (g.R.Ruler.log c.args.ruler.now) (g.R.Ruler.log c.loop-k.ruler) c.args.passes.now c.loop-k.passes 1 c.loop-k.k (layouts_left (9 - c.loop-k.k) c.args.nodes (doc_of c.loop-k.engine) c.loop-k.draws.state)
    (layouts_left 8 c.args.nodes (doc_of c.args.engine.now) c.args.draws.now.state) (c.loop-k.invariant.told touches a)
    (layouts_end c.loop-k.k c.args.nodes (doc_of c.loop-k.engine) c.loop-k.draws.state (omega (arith, c.loop-k-test.false)))
