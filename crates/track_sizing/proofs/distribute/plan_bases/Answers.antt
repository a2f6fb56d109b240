use Rattle.std.proofs.Common.{arith, ap, subst, ◌≡◌, ◌∙◌, sym, ℕ, ◌+◌, List, ◌∷◌, drop, length}
use Rattle.lunit.specs.declared.item.Item.{Item}
use Rattle.part_rules.specs.Tracks.{base_planned_by_all}
use Rattle.track_sizing.specs.Placed.{AreIn, IsIn, base_step_of}
use Rattle.track_sizing.proofs.Sums.{drop_item}
use Rattle.track_sizing.proofs.Groups.{first_in}
use Rattle.track_sizing.proofs.distribute.plan_bases.Goals as goal

pub plan_base_at-requires-clause-item : goal.plan_base_at-requires-clause-item
plan_base_at-requires-clause-item c =
    subst (λ (n : ℕ). IsIn c.args.first n c.item-item.result) (sym c.loop-item.auto.rows) (first_in c.args.first (length c.args.rows.now) c.args.items.now c.loop-item.item-index c.item-item.result c.loop-item.invariant.left (omega arith) c.item-item.is)

pub loop-item-preserved : goal.loop-item-preserved
loop-item-preserved c =
    let rest : drop c.loop-item.item-index c.args.items.now ≡ c.item-item.result ∷ drop (c.loop-item.item-index + 1) c.args.items.now = drop_item c.args.items.now c.loop-item.item-index c.item-item.result (omega arith) c.item-item.is in
    record {
      same =
          ap (base_planned_by_all (base_step_of c.args.step.now.affected c.args.step.now.receives c.args.definite c.args.gap c.args.step.now.asks) c.args.gap (drop (c.loop-item.item-index + 1) c.args.items.now)) c.plan_base_at.ensures.rows
          ∙ sym (ap (λ (xs : List Item). base_planned_by_all (base_step_of c.args.step.now.affected c.args.step.now.receives c.args.definite c.args.gap c.args.step.now.asks) c.args.gap xs c.loop-item.rows) rest)
          ∙ c.loop-item.invariant.same;
      set = c.plan_base_at.ensures.set;
      lengths = c.plan_base_at.ensures.lengths;
      left = (subst (λ (xs : List Item). AreIn c.args.first (length c.args.rows.now) xs) rest c.loop-item.invariant.left).1;
    }
