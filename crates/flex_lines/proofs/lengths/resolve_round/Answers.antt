use Rattle.std.proofs.Common.{arith, ◌≡◌, ◌∙◌, ap, ◌+ℤ◌}
use Rattle.std.proofs.lemmas.Int.{ints}
use Rattle.flex_lines.specs.Rounds.{change_of, left, newly_held, round_sizes, settled}
use Rattle.flex_lines.proofs.lengths.resolve_round.Goals as goal

pub returns : goal.returns
returns c =
    let line = c.args.line.now in
    let fs = c.args.kept.flexible.items in
    let taken = c.args.kept.taken in
    let all = c.args.kept.sizes.items in
    let tried = round_sizes line.grow line.main line.initial taken fs in
    let sizes : c.in_ok-trials.trials.items ≡ tried = c.in_ok-trials.ensures.value ∙ ap (round_sizes line.grow line.main line.initial taken) c.deref.ensures.value in
    let change : c.change_of-change.result ≡ change_of fs tried = c.change_of-change.ensures ∙ ap (λ xs. change_of xs c.deref-3.result.now) c.deref-2.ensures.value ∙ ap (change_of fs) (c.deref-3.ensures.value ∙ sizes) in
    let held : c.newly_held-held.result ≡ newly_held (change_of fs tried) fs tried =
    c.newly_held-held.ensures.value ∙ ap (λ z. newly_held z c.deref-6.result.now c.deref-7.result.now) change ∙ ap (λ xs. newly_held (change_of fs tried) xs c.deref-7.result.now) c.deref-6.ensures.value ∙ ap (newly_held (change_of fs tried) fs) (c.deref-7.ensures.value ∙ sizes) in
    record {
      flexible = c.in_ok-rest.ensures ∙ ap (λ z. left z c.deref-8.result.now c.deref-9.result.now) change ∙ ap (λ xs. left (change_of fs tried) xs c.deref-9.result.now) c.deref-8.ensures.value ∙ ap (left (change_of fs tried) fs) (c.deref-9.ensures.value ∙ sizes);
      taken_is = c.add.ensures ∙ ap (λ z. taken +ℤ z) held;
      sizes_are = c.settle.ensures ∙ ap (λ z. settled z c.deref-4.result.now c.deref-5.result.now all) change ∙ ap (λ xs. settled (change_of fs tried) xs c.deref-5.result.now all) c.deref-4.ensures.value ∙ ap (λ ys. settled (change_of fs tried) fs ys all) (c.deref-5.ensures.value ∙ sizes);
      low = omega (arith, ints, c.add.ensures, c.newly_held-held.ensures.range.0);
      high = omega (arith, ints, c.add.ensures, c.newly_held-held.ensures.range.1);
    }
