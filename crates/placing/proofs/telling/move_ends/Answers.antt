use Rattle.std.proofs.Common.{◌∙◌, ◌+◌, ◌-◌, ap, arith, refl, sym}
use Rattle.std.specs.Option.{option_copied}
use Rattle.placing.proofs.Spliced.{movable_at, moved_more, moved_next, not_past}
use Rattle.placing.proofs.telling.move_ends.Goals as goal
use Rattle.placing.proofs.telling.move_ends.Goals.{in-Some, in_default}

pub overflow_sub-moved : goal.overflow_sub-moved
overflow_sub-moved c =
    (movable_at c.args.ends.now c.args.index c.args.less c.args.more c.loop-at.at c.in-Some.end.now c.requires c.loop-at.invariant.from
    (moved_next c.args.ends.now c.loop-at.ends c.args.index c.args.less c.args.more c.loop-at.at c.in-Some.end.now c.loop-at.invariant (sym c.get.ensures.value ∙ ap option_copied c.in-Some.is))).low

pub overflow_add-moved : goal.overflow_add-moved
overflow_add-moved c =
    let m =
    movable_at c.args.ends.now c.args.index c.args.less c.args.more c.loop-at.at c.in-Some.end.now c.requires c.loop-at.invariant.from
    (moved_next c.args.ends.now c.loop-at.ends c.args.index c.args.less c.args.more c.loop-at.at c.in-Some.end.now c.loop-at.invariant (sym c.get.ensures.value ∙ ap option_copied c.in-Some.is)) in
    omega (arith, m.fits)

pub loop-at-preserved : goal.loop-at-preserved
loop-at-preserved c =
    elim c.match-get.branch [
      | in-Some w ↦ moved_more c.args.ends.now c.loop-at.ends c.match-get.ends c.args.index c.args.less c.args.more c.loop-at.at w.in-Some.end.now (w.in-Some.end.now - c.args.less + c.args.more) c.loop-at.invariant (sym c.get.ensures.value ∙ ap option_copied w.in-Some.is) refl
          (w.ends-is ∙ w.set.ensures)
      | in_default w ↦ absurd (not_past c.loop-at.ends c.loop-at.at (sym c.get.ensures.value ∙ ap option_copied w.in_default.is) (omega (arith, c.loop-at-test.true, c.len-at-end.ensures, c.loop-at.invariant.long)))
    ]
