use Rattle.std.proofs.Common.{suc, ◌≡◌, ◌-◌, ◌∙◌, ap, arith, length, take}
use Rattle.part_rules.specs.Lists.{joined}
use Rattle.placing.proofs.Spliced.{start_at}
use Rattle.placing.proofs.telling.start_of.Goals as goal

pub returns-else-index-eq0 : goal.returns-else-index-eq0
returns-else-index-eq0 c = λ parts e.
    let last : suc (c.args.index - 1) ≡ c.args.index = omega (arith, c.if-index-eq0.false) in
    start_at c.args.ends.now parts (c.args.index - 1) e (omega (arith, c.requires, last)) ∙ ap (λ n. length (joined (take n parts))) last
