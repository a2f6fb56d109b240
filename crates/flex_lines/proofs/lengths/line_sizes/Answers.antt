use Rattle.std.proofs.Common.{arith, ap, ◌≡◌, ◌∙◌, sym, ◌-◌, ◌≤◌, [], List, length, map, subst, ℤ}
use Rattle.std.specs.Prelude.{IfOk}
use Rattle.std.proofs.lemmas.Int.{ints}
use Rattle.part_rules.specs.FlexLines.{begin, free_space, line_sizes, resolved, size_of, turn}
use Rattle.flex_lines.specs.Filling.{bases_of}
use Rattle.flex_lines.specs.Rounds.{flexible_from}
use Rattle.flex_lines.proofs.JustFull.{full_sizes}
use Rattle.flex_lines.proofs.Turns.{kept_few, kept_next, kept_placed, line_is, mapped-length, resolved_end, resolved_next, resolved_still, space_is, turn-length}
use Rattle.flex_lines.proofs.lengths.line_sizes.Goals as goal

pub returns-then-is_full : goal.returns-then-is_full
returns-then-is_full c =
    let items = c.args.items.now in
    let law : bases_of items ≡ line_sizes c.args.main c.args.gap items = full_sizes c.args.main c.args.gap items (c.is_full.ensures.main c.if-is_full.true) (c.is_full.ensures.sized c.if-is_full.true) in
    let Is : List ℤ → Type 0 = λ zs. IfOk c.bases_of.result (λ sizes. sizes.items ≡ zs) in
    subst Is law c.bases_of.ensures

pub initial_space-initial-requires-clause-few : goal.initial_space-initial-requires-clause-few
initial_space-initial-requires-clause-few c =
    let kept = c.in_ok-kept.kept in
    let start = map (begin c.grows-grow.result) c.args.items.now in
    omega (arith, c.requires.few, mapped-length (begin c.grows-grow.result) c.args.items.now, kept_few c.args.gap start kept.flexible.items kept.taken kept.sizes.items c.in_ok-kept.ensures.kept)

pub loop-round-init : goal.loop-round-init
loop-round-init c =
    let start = map (begin c.grows-grow.result) c.args.items.now in
    let all : length c.args.items.now - 0 ≡ length c.args.items.now = omega arith in
    record {
      pieces = start;
      same = ap (λ n. resolved n c.grows-grow.result c.args.main c.args.gap c.initial_space-initial.result start) all;
      kept = c.in_ok-kept.ensures.kept;
      count = mapped-length (begin c.grows-grow.result) c.args.items.now;
      taken = c.in_ok-kept.ensures.range;
    }

pub resolve_round-requires-clause-few : goal.resolve_round-requires-clause-few
resolve_round-requires-clause-few c =
    let kept = c.loop-round.kept in
    omega (arith, c.requires.few, c.loop-round.invariant.count, kept_few c.args.gap c.loop-round.invariant.pieces kept.flexible.items kept.taken kept.sizes.items c.loop-round.invariant.kept)

pub resolve_round-requires-clause-places : goal.resolve_round-requires-clause-places
resolve_round-requires-clause-places c =
    let kept = c.loop-round.kept in
    kept_placed c.args.gap c.loop-round.invariant.pieces kept.flexible.items kept.taken kept.sizes.items c.loop-round.invariant.kept

pub resolve_round-requires-clause-taken : goal.resolve_round-requires-clause-taken
resolve_round-requires-clause-taken c =
    (omega (arith, ints, c.requires.few, c.loop-round-test.true, c.loop-round.invariant.taken.0), omega (arith, ints, c.requires.few, c.loop-round-test.true, c.loop-round.invariant.taken.1))

pub loop-round-preserved : goal.loop-round-preserved
loop-round-preserved c =
    let grow = c.grows-grow.result in
    let main = c.args.main in
    let gap = c.args.gap in
    let initial = c.initial_space-initial.result in
    let i = c.loop-round._round in
    let kept = c.loop-round.kept in
    let next = c.in_ok-kept-2.kept in
    let line = c.loop-round.invariant.pieces in
    record {
      pieces = turn grow main gap initial line;
      same = resolved_next grow main gap initial line i (length c.args.items.now) c.loop-round-test.true ∙ c.loop-round.invariant.same;
      kept = kept_next grow main gap initial line kept.flexible.items kept.taken kept.sizes.items next.flexible.items next.taken next.sizes.items c.loop-round.invariant.kept c.in_ok-kept-2.ensures;
      count = turn-length grow main gap initial line ∙ c.loop-round.invariant.count;
      taken = (omega (arith, ints, c.in_ok-kept-2.ensures.low, c.loop-round.invariant.taken.0), omega (arith, ints, c.in_ok-kept-2.ensures.high, c.loop-round.invariant.taken.1));
    }

pub returns-then-is_frozen : goal.returns-then-is_frozen
returns-then-is_frozen c =
    let grow = c.grows-grow.result in
    let main = c.args.main in
    let gap = c.args.gap in
    let initial = c.initial_space-initial.result in
    let items = c.args.items.now in
    let first = c.in_ok-kept.kept in
    let line = c.loop-round.invariant.pieces in
    let none : c.loop-round.kept.flexible.items ≡ [] = c.is_frozen.ensures.0 c.if-is_frozen.true in
    let frozen : flexible_from 0 line ≡ [] = sym c.loop-round.invariant.kept.flexible ∙ none in
    let space : initial ≡ free_space grow main gap (map (begin grow) items) = c.initial_space-initial.ensures.value ∙ space_is grow main gap (map (begin grow) items) first.flexible.items first.taken first.sizes.items c.in_ok-kept.ensures.kept in
    c.sizes_of.ensures ∙ c.loop-round.invariant.kept.sizes
    ∙ ap (map size_of) (sym (resolved_still (length items - c.loop-round._round) grow main gap initial line frozen) ∙ c.loop-round.invariant.same)
    ∙ line_is main gap initial grow items c.grows-grow.ensures space

pub returns : goal.returns
returns c =
    let grow = c.grows-grow.result in
    let main = c.args.main in
    let gap = c.args.gap in
    let initial = c.initial_space-initial.result in
    let items = c.args.items.now in
    let first = c.in_ok-kept.kept in
    let line = c.loop-round.invariant.pieces in
    let end : length items ≤ c.loop-round._round = omega arith in
    let space : initial ≡ free_space grow main gap (map (begin grow) items) = c.initial_space-initial.ensures.value ∙ space_is grow main gap (map (begin grow) items) first.flexible.items first.taken first.sizes.items c.in_ok-kept.ensures.kept in
    c.sizes_of-2.ensures ∙ c.loop-round.invariant.kept.sizes
    ∙ ap (map size_of) (sym (resolved_end grow main gap initial line c.loop-round._round (length items) end) ∙ c.loop-round.invariant.same)
    ∙ line_is main gap initial grow items c.grows-grow.ensures space
