use Rattle.std.proofs.Common.{◌≡◌, ◌∙◌, ap, subst, ℤ, List, length, map}
use Rattle.std.specs.Prelude.{IfOk}
use Rattle.std.proofs.lemmas.Result.{IfOk-weaker}
use Rattle.part_rules.specs.FlexLines.{free_factor, outer_now}
use Rattle.part_rules.specs.Lists.{sum_of, total_of}
use Rattle.flex_lines.specs.Rounds.{pieces, round_sizes, round_space, space_given, space_left, tries}
use Rattle.flex_lines.proofs.Steps.{tries-length}
use Rattle.flex_lines.proofs.lengths.trials.Goals as goal

pub returns-clause-value : goal.returns-clause-value
unfolding round_sizes round_space
returns-clause-value c =
    let fs = c.args.flexible.now in
    let line = c.args.line.now in
    let outer = sum_of (map outer_now (pieces fs)) in
    let factors = total_of (map (free_factor line.grow) (pieces fs)) in
    let whole : c.space_left-whole.result ≡ space_left line.grow line.main c.args.taken outer = c.space_left-whole.ensures.value ∙ ap (space_left line.grow line.main c.args.taken) c.sums_of-sums.ensures.outer in
    let space : c.space_given-space.result ≡ space_given line.initial (space_left line.grow line.main c.args.taken outer) factors =
    c.space_given-space.ensures.value ∙ ap (λ z. space_given line.initial z c.sums_of-sums.result.factors) whole ∙ ap (space_given line.initial (space_left line.grow line.main c.args.taken outer)) c.sums_of-sums.ensures.factors in
    let same : tries line.grow c.space_given-space.result c.sums_of-sums.result.weights 0 (pieces fs) ≡ round_sizes line.grow line.main line.initial c.args.taken fs =
    ap (λ z. tries line.grow z c.sums_of-sums.result.weights 0 (pieces fs)) space
    ∙ ap (λ n. tries line.grow (space_given line.initial (space_left line.grow line.main c.args.taken outer) factors) n 0 (pieces fs)) c.sums_of-sums.ensures.weights in
    let Is : List ℤ → Type 0 = λ zs. IfOk c.try_sizes.result (λ sizes. sizes.items ≡ zs) in
    subst Is same c.try_sizes.ensures.value

pub returns-clause-length : goal.returns-clause-length
returns-clause-length c =
    let fs = c.args.flexible.now in
    let grow = c.args.line.now.grow in
    IfOk-weaker c.try_sizes.result (λ sizes. sizes.items ≡ tries grow c.space_given-space.result c.sums_of-sums.result.weights 0 (pieces fs)) (λ sizes. length sizes.items ≡ length fs)
    (λ sizes e. ap length e ∙ tries-length grow c.space_given-space.result c.sums_of-sums.result.weights 0 fs) c.try_sizes.ensures.value
