use Rattle.std.proofs.Common.{arith, subst, ◌≡◌, ℕ, ◌+◌, ◌-◌, length, get_or}
use Rattle.track_sizing.proofs.Best.{in_item}
use Rattle.track_sizing.proofs.Lone.{one_counted}
use Rattle.track_sizing.proofs.Unchanged.{quiet_more}
use Rattle.track_sizing.proofs.alone.add_plain_items.Goals as goal

pub add_plain_item-more-requires : goal.add_plain_item-more-requires
add_plain_item-more-requires g c = (
  omega arith,
  (
    c.requires.few,
    (
      omega arith,
      (
        c.requires.set,
        (
          in_item c.args.first (length c.args.rows.now) c.args.items.now (length c.args.items.now - 1 - c.loop-back.back) c.index-items-items.result c.requires.items (omega arith) c.index-items-items.is,
          (
            c.requires.plain,
            c.requires.definite,
          ),
        ),
      ),
    ),
  ),
)

pub loop-back-preserved : goal.loop-back-preserved
loop-back-preserved g c =
    let place : length c.args.items.now - 1 - c.loop-back.back ≡ length c.args.items.now - (c.loop-back.back + 1) = omega arith in
    let is : c.index-items-items.result ≡ get_or c.args.items.now (length c.args.items.now - (c.loop-back.back + 1)) c.index-items-items.result = subst (λ (k : ℕ). c.index-items-items.result ≡ get_or c.args.items.now k c.index-items-items.result) place c.index-items-items.is in
    record {
      same =
          one_counted c.args.space.now c.args.gap c.args.rows.now c.args.items.now (length c.args.items.now - c.loop-back.back) (length c.args.items.now - (c.loop-back.back + 1)) c.index-items-items.result c.loop-back.singles c.add_plain_item-more.new.singles c.loop-back.invariant.same
          (omega arith) (omega arith) is c.add_plain_item-more.ensures.singles;
      quiet =
          quiet_more c.args.gap c.args.items.now (length c.args.items.now - c.loop-back.back) (length c.args.items.now - (c.loop-back.back + 1)) c.index-items-items.result c.loop-back.quiet c.add_plain_item-more.result c.both-quiet.result c.loop-back.invariant.quiet (omega arith)
          (omega arith) is c.add_plain_item-more.ensures.quiet c.both-quiet.ensures;
    }
