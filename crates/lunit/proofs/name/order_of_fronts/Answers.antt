use Rattle.std.proofs.Common.{◌∙◌, ap, sym, ◌≡◌, ◌≢◌, ℕ, take, nat_cmp, Equal}
use Rattle.std.proofs.lemmas.Cmp.{ranked}
use Rattle.lunit.specs.Fronts.{spelled_after}
use Rattle.lunit.proofs.Fronts.{by_numbers}
use Rattle.lunit.proofs.name.order_of_fronts.Goals as goal

pub returns : goal.returns
returns c =
    let one : ℕ = spelled_after 0 (take 8 c.args.a.now) in
    let other : ℕ = spelled_after 0 (take 8 c.args.b.now) in
    let apart : one ≢ other = λ e. c.if-x-y.false (c.front-x.ensures ∙ e ∙ sym c.front-y.ensures) in
    record {
      order =
          c.cmp.ensures
          ∙ ap (λ n. nat_cmp n c.front-y.result) c.front-x.ensures
          ∙ ap (nat_cmp one) c.front-y.ensures
          ∙ by_numbers 8 0 c.args.a.now c.args.b.now c.requires.0 c.requires.1 (λ k. (c.type_inv.a k).fits) (λ k. (c.type_inv.b k).fits) apart;
      unequal = λ e. c.if-x-y.false (ranked _ _ Equal (sym e ∙ c.cmp.ensures));
    }
