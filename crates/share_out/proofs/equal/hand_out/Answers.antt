use Rattle.std.proofs.Common.{arith, ap, ◌≡◌, ◌∙◌, sym, List}
use Rattle.std.proofs.lemmas.Int.{ints}
use Rattle.part_rules.specs.declared.share.Share.{Share}
use Rattle.part_rules.specs.Sharing.{handed}
use Rattle.share_out.proofs.Levels.{sum_of_space, sum_of_debt, used_of_space}
use Rattle.part_rules.proofs.Rounds.{plain}
use Rattle.share_out.proofs.equal.hand_out.Goals as goal

pub returns-then-units-lt0-clause-sum : goal.returns-then-units-lt0-clause-sum
returns-then-units-lt0-clause-sum c = rw c.fill.ensures (sum_of_debt c.args.space c.args.rows.now (omega (arith, ints)))

pub returns-clause-sum : goal.returns-clause-sum
returns-clause-sum c =
    let done : handed c.units-2.result c.args.rows.now ≡ plain c.fill_to.new.rows c.find_filling-filling.result.left = c.find_filling-filling.ensures.same ∙ ap (λ (xs : List Share). plain xs c.find_filling-filling.result.left) (sym c.fill_to.ensures) in
    rw c.length.ensures (sum_of_space c.args.space c.units-2.result c.find_filling-filling.result.left c.args.rows.now c.fill_to.new.rows (omega (arith, ints)) c.units-2.ensures.value done)

pub returns-clause-used : goal.returns-clause-used
returns-clause-used c some =
    let done : handed c.units-2.result c.args.rows.now ≡ plain c.fill_to.new.rows c.find_filling-filling.result.left = c.find_filling-filling.ensures.same ∙ ap (λ (xs : List Share). plain xs c.find_filling-filling.result.left) (sym c.fill_to.ensures) in
    rw c.length.ensures (used_of_space c.args.space c.units-2.result c.find_filling-filling.result.left c.args.rows.now c.fill_to.new.rows some c.units-2.ensures.value done)
