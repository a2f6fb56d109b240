use Rattle.std.proofs.Common.{arith, ap, ◌∙◌, sym}
use Rattle.std.proofs.lemmas.Int.{ints}
use Rattle.part_rules.specs.declared.track.Rule.{Rule}
use Rattle.part_rules.specs.Tracks.{Track, fixed_most}
use Rattle.track_sizing.proofs.Sums.{more_known}
use Rattle.track_sizing.proofs.item.fixed_sum.Goals as goal

pub loop-row-preserved : goal.loop-row-preserved
loop-row-preserved c =
    more_known (λ (t : Track). fixed_most t.rule.most) c.args.rows.now c.loop-row.row-index c.loop-row.sum c.in-Some.size c.add-sum.result c.row-item.result c.loop-row.invariant (omega arith) c.row-item.is
    (ap (λ (r : Rule). fixed_most r.most) (sym c.rule.ensures) ∙ sym c.in-Some.ensures) (omega (arith, ints), omega (arith, ints)) (omega (arith, ints))
