use Rattle.std.proofs.Common.{arith, rules, sym, ◌∙◌, to_z, w32, SFits}
use Rattle.std.proofs.lemmas.Int.{to_z-of_z}
use Rattle.cell_index.proofs.Found.{areas_step}
use Rattle.cell_index.proofs.Passed.{if_false, if_true}
use Rattle.cell_index.proofs.list.areas_passed.Goals as goal
use Rattle.cell_index.proofs.list.areas_passed.Goals.{then-meets, else-meets}

pub loop-area-preserved : goal.loop-area-preserved
loop-area-preserved c = elim c.if-meets.branch [
  | then-meets w ↦
      let fits : SFits w32 w.end_of-line.result = search rules in
      areas_step c.args.down c.args.across c.args.tracks c.args.areas.now c.loop-area.area-index _ (to_z w32 c.loop-area.line-bits) (to_z w32 c.if-meets.line-bits) (omega (arith, c.loop-area-test.true))
      (w.line-is ∙ to_z-of_z w32 w.end_of-line.result fits ∙ w.end_of-line.ensures ∙ sym (if_true _ _ _ (sym c.meets.ensures ∙ w.if-meets.true)))
      ∙ c.loop-area.invariant
  | else-meets w ↦
      areas_step c.args.down c.args.across c.args.tracks c.args.areas.now c.loop-area.area-index _ (to_z w32 c.loop-area.line-bits) (to_z w32 c.if-meets.line-bits) (omega (arith, c.loop-area-test.true))
      (w.line-is ∙ sym (if_false _ _ _ (sym c.meets.ensures ∙ w.if-meets.false)))
      ∙ c.loop-area.invariant
]
