use Rattle.std.proofs.Common.{arith, subst, ◌≡◌, ◌∙◌, sym, ℕ, suc, ◌+◌, take}
use Rattle.part_rules.specs.Tracks.{span_length}
use Rattle.track_sizing.specs.Ordered.{AreOf}
use Rattle.track_sizing.proofs.Order.{of_more, other_number, run_ends, run_stops, that_number}
use Rattle.track_sizing.proofs.runs.run_length.Goals as goal

pub returns-else-has-clause-run : goal.returns-else-has-clause-run
returns-else-has-clause-run c =
    run_stops c.args.number c.args.items.now c.loop-count.count c.index-items-count.result c.requires.rising c.requires.from c.loop-count.invariant.of (omega arith) c.index-items-count.is
    (other_number (span_length c.index-items-count.result) c.args.number (sym c.has.ensures ∙ c.if-has.false))

pub returns-after-loop-count-clause-run : goal.returns-after-loop-count-clause-run
returns-after-loop-count-clause-run c = run_ends c.args.number c.args.items.now c.loop-count.count c.requires.rising c.requires.from c.loop-count.invariant.of (omega arith)

pub loop-count-preserved : goal.loop-count-preserved
loop-count-preserved c =
    let next : suc c.loop-count.count ≡ c.loop-count.count + 1 = omega arith in
    record {
      fits = omega arith;
      of =
          subst (λ (n : ℕ). AreOf c.args.number (take n c.args.items.now)) next
          (of_more c.args.number c.args.items.now c.loop-count.count c.index-items-count.result c.loop-count.invariant.of (omega arith) c.index-items-count.is (that_number (span_length c.index-items-count.result) c.args.number (sym c.has.ensures ∙ c.if-has.true)));
    }
