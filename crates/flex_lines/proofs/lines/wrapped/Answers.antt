use Rattle.std.proofs.Common.{arith, ap, ◌≡◌, ◌∙◌, sym, ◌+ℤ◌, get_or, true, false, int_le}
use Rattle.std.proofs.lemmas.Int.{ints}
use Rattle.part_rules.specs.FlexLines.{outer_hypothetical}
use Rattle.flex_lines.proofs.Begun.{one_joins, one_begins}
use Rattle.flex_lines.proofs.lines.wrapped.Goals as goal

pub add-requires : goal.add-requires
add-requires c =
    (omega (arith, ints, c.loop-place.invariant.low, c.wide.ensures.range.0, c.loop-place-test.true, c.requires.few), omega (arith, ints, c.loop-place.invariant.high, c.wide.ensures.range.1, c.loop-place-test.true, c.requires.few))

pub add-joined-requires : goal.add-joined-requires
add-joined-requires c = (
  omega (arith, ints, c.add.ensures, c.loop-place.invariant.low, c.wide.ensures.range.0, c.outer_hypothetical-outer.ensures.range.0, c.loop-place-test.true, c.requires.few),
  omega (arith, ints, c.add.ensures, c.loop-place.invariant.high, c.wide.ensures.range.1, c.outer_hypothetical-outer.ensures.range.1, c.loop-place-test.true, c.requires.few),
)

pub loop-place-preserved-then-is_at_most : goal.loop-place-preserved-then-is_at_most
loop-place-preserved-then-is_at_most c =
    let rest = c.args.rest.now in
    let place = c.loop-place.place in
    let item = c.index-rest-place.result in
    let outer : c.outer_hypothetical-outer.result ≡ outer_hypothetical (get_or rest place item) = c.outer_hypothetical-outer.ensures.value ∙ ap outer_hypothetical c.index-rest-place.is in
    let joined : c.add-joined.result ≡ c.loop-place.length +ℤ c.args.gap +ℤ outer_hypothetical (get_or rest place item) = omega (arith, ints, c.add-joined.ensures, c.add.ensures, c.wide.ensures.value, outer) in
    let test : int_le c.add-joined.result c.args.main ≡ true = sym c.is_at_most.ensures ∙ c.if-is_at_most.true in
    record {
      so_far = one_joins c.args.main c.args.gap c.loop-place.length c.add-joined.result c.loop-place.start _ place rest item c.loop-place.lines.items _ c.loop-place-test.true joined test c.loop-place.invariant.so_far;
      low = omega (arith, ints, c.add-joined.ensures, c.add.ensures, c.loop-place.invariant.low, c.wide.ensures.range.0, c.outer_hypothetical-outer.ensures.range.0);
      high = omega (arith, ints, c.add-joined.ensures, c.add.ensures, c.loop-place.invariant.high, c.wide.ensures.range.1, c.outer_hypothetical-outer.ensures.range.1);
    }

pub loop-place-preserved : goal.loop-place-preserved
loop-place-preserved c =
    let rest = c.args.rest.now in
    let place = c.loop-place.place in
    let item = c.index-rest-place.result in
    let outer : c.outer_hypothetical-outer.result ≡ outer_hypothetical (get_or rest place item) = c.outer_hypothetical-outer.ensures.value ∙ ap outer_hypothetical c.index-rest-place.is in
    let joined : c.add-joined.result ≡ c.loop-place.length +ℤ c.args.gap +ℤ outer_hypothetical (get_or rest place item) = omega (arith, ints, c.add-joined.ensures, c.add.ensures, c.wide.ensures.value, outer) in
    let test : int_le c.add-joined.result c.args.main ≡ false = sym c.is_at_most.ensures ∙ c.if-is_at_most.false in
    record {
      so_far = rw c.in_ok-push.ensures.items (one_begins c.args.main c.args.gap c.loop-place.length c.add-joined.result c.outer_hypothetical-outer.result c.loop-place.start _ place rest item c.loop-place.lines.items _ c.loop-place-test.true outer joined test c.loop-place.invariant.so_far);
      low = omega (arith, ints, c.outer_hypothetical-outer.ensures.range.0);
      high = omega (arith, ints, c.outer_hypothetical-outer.ensures.range.1);
    }
