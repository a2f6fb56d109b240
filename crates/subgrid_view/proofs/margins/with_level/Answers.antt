use Rattle.std.proofs.Common.{◌≡◌, ap, ◌∙◌, ◌-ℤ◌, ◌+ℤ◌}
use Rattle.std.specs.Int.{int_max, int_min}
use Rattle.lunit.specs.Units.{top}
use Rattle.subgrid_view.proofs.Sums.{limits_in_order, with_one_more}
use Rattle.subgrid_view.proofs.margins.with_level.Goals as goal

pub returns-clause-order : goal.returns-clause-order
returns-clause-order c =
    let s = c.args.levels in
    let least : c.between.result ≡ int_max s.least (int_min s.most (s.sum -ℤ top)) = c.between.ensures ∙ ap (λ z. int_max s.least (int_min s.most z)) (c.sub.ensures ∙ ap (λ z. s.sum -ℤ z) c.units.ensures) in
    let most : c.between-2.result ≡ int_max s.least (int_min s.most (s.sum +ℤ top)) = c.between-2.ensures ∙ ap (λ z. int_max s.least (int_min s.most z)) (c.add-2.ensures ∙ ap (λ z. s.sum +ℤ z) c.units-2.ensures) in
    limits_in_order s c.add.result c.between.result c.between-2.result least most c.requires.order

pub returns-clause-more : goal.returns-clause-more
returns-clause-more c =
    let s = c.args.levels in
    let least : c.between.result ≡ int_max s.least (int_min s.most (s.sum -ℤ top)) = c.between.ensures ∙ ap (λ z. int_max s.least (int_min s.most z)) (c.sub.ensures ∙ ap (λ z. s.sum -ℤ z) c.units.ensures) in
    let most : c.between-2.result ≡ int_max s.least (int_min s.most (s.sum +ℤ top)) = c.between-2.ensures ∙ ap (λ z. int_max s.least (int_min s.most z)) (c.add-2.ensures ∙ ap (λ z. s.sum +ℤ z) c.units-2.ensures) in
    with_one_more s c.args.margin c.add.result c.between.result c.between-2.result c.add.ensures least most c.requires.order
