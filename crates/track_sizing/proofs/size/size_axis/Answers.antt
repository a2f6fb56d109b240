use Rattle.std.proofs.Common.{arith, ap, subst, ◌≡◌, ◌∙◌, sym, List, length, ℤ}
use Rattle.std.specs.Prelude.{IfOk}
use Rattle.std.proofs.lemmas.Int.{ints}
use Rattle.part_rules.specs.Tracks.{Track, initialised}
use Rattle.track_sizing.specs.Placed.{AreIn, AreSet}
use Rattle.track_sizing.proofs.Initial.{set_started, length_started}
use Rattle.track_sizing.proofs.Sized.{started_sizes}
use Rattle.track_sizing.proofs.Whole.{in_same}
use Rattle.track_sizing.proofs.size.size_axis.Goals as goal

pub sizes_from-requires : goal.sizes_from-requires
sizes_from-requires g c =
    let first : c.of-first.result ≡ c.args.first = omega (arith, ints) in
    let rows : c.deref_mut.result.now ≡ initialised c.of-first.result c.args.rules.now = c.deref_mut.ensures.value ∙ c.in_ok-rows.ensures in
    let same : length c.deref_mut.result.now ≡ length c.args.rules.now = ap length rows ∙ length_started c.of-first.result c.args.rules.now in (
      omega arith,
      (
        omega arith,
        (
          c.requires.gap,
          (
            c.requires.space,
            (
              subst (λ (ts : List Track). AreSet c.of-first.result ts) (sym rows) (set_started c.of-first.result c.args.rules.now),
              subst (λ (z : ℤ). AreIn z (length c.deref_mut.result.now) c.args.items.now) (sym first) (in_same c.args.first (length c.args.rules.now) (length c.deref_mut.result.now) c.args.items.now (sym same) c.requires.items),
            ),
          ),
        ),
      ),
    )

pub returns-clause-sizes : goal.returns-clause-sizes
returns-clause-sizes g c =
    let first : c.of-first.result ≡ c.args.first = omega (arith, ints) in
    subst (λ (xs : List ℤ). IfOk c.sizes_from.result (λ sizes. sizes.items ≡ xs))
    (started_sizes c.args.rules.now c.args.first c.of-first.result c.args.items.now c.args.fit.now c.deref_mut.result.now (c.deref_mut.ensures.value ∙ c.in_ok-rows.ensures) first)
    c.sizes_from.ensures
