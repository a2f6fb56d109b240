use Rattle.std.proofs.Common.{◌∙◌, ◌≤ℤ◌, ap, map, pos, subst, sym, Some, ℤ}
use Rattle.tree_rules.specs.Repetitions.{counted_track, gap_by, size_of_space}
use Rattle.placing.proofs.Counted.{counted_list, counts_are, gap_low, some_counted}
use Rattle.placing.proofs.counts.repeat_count.Goals as goal

pub repetitions-requires-clause-fixed : goal.repetitions-requires-clause-fixed
repetitions-requires-clause-fixed c = counted_list c.size_of_space-size.result c.args.tracks.now c.as_slice.result.now c.in_ok-fixed.fixed c.as_slice.ensures c.in_ok-fixed.ensures

pub repetitions-requires-clause-repeated : goal.repetitions-requires-clause-repeated
repetitions-requires-clause-repeated c = counted_list c.size_of_space-size.result c.args.repeated.now c.as_slice-2.result.now c.in_ok-repeated.repeated c.as_slice-2.ensures c.in_ok-repeated.ensures

pub repetitions-requires-clause-some : goal.repetitions-requires-clause-some
repetitions-requires-clause-some c = some_counted c.size_of_space-size.result c.args.repeated.now c.as_slice-2.result.now c.in_ok-repeated.repeated c.as_slice-2.ensures c.in_ok-repeated.ensures c.requires.some

pub repetitions-requires-clause-gap : goal.repetitions-requires-clause-gap
repetitions-requires-clause-gap c = gap_low c.gap_by-gap.result c.size_of_space-size.result c.zero.result c.args.gap c.gap_by-gap.ensures c.zero.ensures c.requires.gap (subst (λ (z : ℤ). pos 0 ≤ℤ z) (sym c.size_of_space-size.ensures) c.requires.low)

pub returns : goal.returns
returns c =
    let x : ℤ = size_of_space c.args.space in
    c.repetitions.ensures
    ∙ counts_are x c.gap_by-gap.result (gap_by (Some x) (pos 0) c.args.gap) c.args.tracks.now c.args.repeated.now c.in_ok-fixed.fixed c.in_ok-repeated.repeated c.as_slice.result.now c.as_slice-2.result.now c.args.space c.as_slice.ensures
    (c.in_ok-fixed.ensures ∙ ap (λ (z : ℤ). map (counted_track z) c.args.tracks.now) c.size_of_space-size.ensures)
    c.as_slice-2.ensures
    (c.in_ok-repeated.ensures ∙ ap (λ (z : ℤ). map (counted_track z) c.args.repeated.now) c.size_of_space-size.ensures)
    (c.gap_by-gap.ensures ∙ ap (λ (z : ℤ). gap_by (Some z) c.zero.result c.args.gap) c.size_of_space-size.ensures ∙ ap (λ (n : ℤ). gap_by (Some x) n c.args.gap) c.zero.ensures)
