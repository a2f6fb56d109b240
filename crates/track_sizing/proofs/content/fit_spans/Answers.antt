use Rattle.std.proofs.Common.{arith, ap, subst, ◌≡◌, ◌∙◌, sym, refl, ℕ, ◌+◌, ◌-◌, ℤ, pos, ◌+ℤ◌, List, drop, length, filter}
use Rattle.std.proofs.lemmas.Int.{ints}
use Rattle.lunit.specs.declared.item.Item.{Item}
use Rattle.part_rules.specs.Tracks.{Track, some_fitted, spans_fitted}
use Rattle.track_sizing.specs.Ordered.{AreOf, IsInOrder, IsLeft, has}
use Rattle.track_sizing.specs.Placed.{AreIn}
use Rattle.track_sizing.specs.Spans.{is_wide}
use Rattle.track_sizing.proofs.Kept.{one_turn}
use Rattle.track_sizing.proofs.Order.{ended, group_in, in_drop, in_filter, in_take, next_left, own_items, wide_left}
use Rattle.track_sizing.proofs.Whole.{in_same}
use Rattle.track_sizing.proofs.content.fit_spans.Goals as goal

pub loop-turn-init : goal.loop-turn-init
loop-turn-init g c =
    let n = length c.args.rows.now in
    let none : length c.args.rows.now - 0 ≡ length c.args.rows.now = omega arith in
    let wide : c.deref.result.now ≡ filter is_wide c.args.items.now = c.deref.ensures.value ∙ c.in_ok-wide.ensures in
    let sorted : IsInOrder c.deref.result.now c.in_ok-sorted.sorted.items = c.in_ok-sorted.ensures in
    record {
      same = ap (λ (m : ℕ). spans_fitted c.args.space.now c.args.gap c.args.items.now m 2 c.args.rows.now) none;
      span = refl;
      set = c.requires.set;
      left = subst (λ (xs : List Item). IsLeft (pos 2) c.args.items.now xs) (sym c.deref-left.ensures.value) (wide_left c.args.items.now c.deref.result.now c.in_ok-sorted.sorted.items wide sorted);
      in_left = subst (AreIn c.args.first n) (sym c.deref-left.ensures.value) (sorted.in_them c.args.first n (subst (AreIn c.args.first n) (sym wide) (in_filter is_wide c.args.first n c.args.items.now c.requires.items)));
    }

pub fit_run-requires : goal.fit_run-requires
fit_run-requires g c = (
  omega arith,
  (
    omega arith,
    (
      omega arith,
      (
        c.loop-turn.invariant.set,
        (
          subst (AreIn c.args.first (length c.loop-turn.rows)) (sym c.split_at.ensures.front)
              (in_take c.args.first (length c.loop-turn.rows) c.spanning.result c.loop-turn.left.now (in_same c.args.first (length c.args.rows.now) (length c.loop-turn.rows) c.loop-turn.left.now (omega arith) c.loop-turn.invariant.in_left)),
          subst (AreOf (pos c.loop-turn.span)) (sym c.split_at.ensures.front) c.spanning.ensures.run.each,
        ),
      ),
    ),
  ),
)

pub loop-turn-preserved : goal.loop-turn-preserved
loop-turn-preserved g c =
    let items : List Item = c.args.items.now in
    let rows : List Track = c.loop-turn.rows in
    let span : ℕ = c.loop-turn.span in
    let mine : List Item = c.split_at.result.0.now in
    let k : ℕ = c.spanning.result in
    let own : filter (has (pos span)) mine ≡ filter (has (pos span)) items = ap (filter (has (pos span))) c.split_at.ensures.front ∙ own_items (pos span) items c.loop-turn.left.now k c.loop-turn.invariant.left c.spanning.ensures.run in
    let after : pos span +ℤ pos 1 ≡ pos (span + 1) = omega (arith, ints) in
    record {
      same =
          one_turn c.args.space.now c.args.gap items (length c.args.rows.now - c.loop-turn._turn) (length c.args.rows.now - (c.loop-turn._turn + 1)) span (span + 1) rows c.fit_run.new.rows (omega arith) refl
          (c.in_ok-fit_run.ensures.rows ∙ ap (λ (xs : List Item). some_fitted c.args.space.now c.args.gap xs rows) (group_in rows span items mine own))
          ∙ c.loop-turn.invariant.same;
      span = omega arith;
      set = c.in_ok-fit_run.ensures.set;
      left = subst (λ (xs : List Item). IsLeft (pos (span + 1)) items xs) (sym c.split_at.ensures.back) (subst (λ (z : ℤ). IsLeft z items (drop k c.loop-turn.left.now)) after (next_left (pos span) items c.loop-turn.left.now k c.loop-turn.invariant.left c.spanning.ensures.run));
      in_left = subst (AreIn c.args.first (length c.args.rows.now)) (sym c.split_at.ensures.back) (in_drop c.args.first (length c.args.rows.now) k c.loop-turn.left.now c.loop-turn.invariant.in_left);
    }

pub returns-then-left-eq0-clause-rows : goal.returns-then-left-eq0-clause-rows
returns-then-left-eq0-clause-rows g c =
    ended c.args.space.now c.args.gap c.args.items.now c.loop-turn.left.now (length c.args.rows.now - c.loop-turn._turn) c.loop-turn.span c.loop-turn.rows (spans_fitted c.args.space.now c.args.gap c.args.items.now (length c.args.rows.now) 2 c.args.rows.now) c.loop-turn.invariant.left
    (omega (arith, c.if-left-eq0.true)) c.loop-turn.invariant.same
