use Rattle.std.proofs.Common.{arith, ap, ◌≡◌, ◌+◌, ℤ, List, ◌∷◌, map, drop}
use Rattle.std.proofs.lemmas.Int.{ints}
use Rattle.part_rules.specs.declared.fraction.FrRow.{FrRow}
use Rattle.part_rules.specs.Lists.{sum_of, total_of}
use Rattle.part_rules.specs.Fractions.{factor_of, held, settled}
use Rattle.fr_tracks.proofs.Expanded.{drop_item}
use Rattle.fr_tracks.proofs.find.next_fraction.Goals as goal

pub loop-row-preserved : goal.loop-row-preserved
loop-row-preserved c =
    let l : ℤ = c.args.last.now.space in
    let rest : drop c.loop-row.row-index c.args.rows.now ≡ c.row-item.result ∷ drop (c.loop-row.row-index + 1) c.args.rows.now = drop_item c.args.rows.now c.loop-row.row-index c.row-item.result (omega arith) c.row-item.is in
    record {
      sum = omega (arith, ints, ap (λ (xs : List FrRow). sum_of (map held (map (settled l c.args.last.now.weight) xs))) rest);
      weight = omega (arith, ap (λ (xs : List FrRow). total_of (map factor_of (map (settled l c.args.last.now.weight) xs))) rest);
      least = omega (arith, ints);
      most = omega (arith, ints);
      few = omega arith;
    }
