use Rattle.std.proofs.Common.{arith, ap, subst, ◌≡◌, ◌∙◌, sym, true, List, length, ℤ}
use Rattle.std.specs.Prelude.{IfOk}
use Rattle.std.proofs.lemmas.Int.{ints}
use Rattle.part_rules.specs.Tracks.{Track, initialised}
use Rattle.track_sizing.specs.Again.{AreToLast, DoLast}
use Rattle.track_sizing.specs.Placed.{AreIn, AreSet}
use Rattle.track_sizing.specs.Whole.{sizes_from}
use Rattle.track_sizing.proofs.Again.{both_ok, started_last}
use Rattle.track_sizing.proofs.Initial.{set_started, length_started}
use Rattle.track_sizing.proofs.Sized.{started_sizes}
use Rattle.track_sizing.proofs.Whole.{in_same}
use Rattle.track_sizing.proofs.size.size_axis_lasting.Goals as goal

pub lasting_from-requires : goal.lasting_from-requires
lasting_from-requires g c =
    let first : c.of-first.result ≡ c.args.first = omega (arith, ints) in
    let rows : c.deref_mut.result.now ≡ initialised c.of-first.result c.args.rules.now = c.deref_mut.ensures.value ∙ c.in_ok-rows.ensures in
    let same : length c.deref_mut.result.now ≡ length c.args.rules.now = ap length rows ∙ length_started c.of-first.result c.args.rules.now in (
      omega arith,
      (
        omega arith,
        (
          c.requires.gap,
          (
            c.requires.space,
            (
              subst (λ (ts : List Track). AreSet c.of-first.result ts) (sym rows) (set_started c.of-first.result c.args.rules.now),
              subst (λ (z : ℤ). AreIn z (length c.deref_mut.result.now) c.args.items.now) (sym first) (in_same c.args.first (length c.args.rules.now) (length c.deref_mut.result.now) c.args.items.now (sym same) c.requires.items),
            ),
          ),
        ),
      ),
    )

pub returns-clause-sizes : goal.returns-clause-sizes
returns-clause-sizes g c =
    let first : c.of-first.result ≡ c.args.first = omega (arith, ints) in
    subst (λ (xs : List ℤ). IfOk c.lasting_from.result (λ made. made.sizes.items ≡ xs))
    (started_sizes c.args.rules.now c.args.first c.of-first.result c.args.items.now c.args.fit.now c.deref_mut.result.now (c.deref_mut.ensures.value ∙ c.in_ok-rows.ensures) first)
    c.lasting_from.ensures.sizes

pub returns-clause-lasting : goal.returns-clause-lasting
returns-clause-lasting g c =
    let first : c.of-first.result ≡ c.args.first = omega (arith, ints) in
    let rows : List Track = c.deref_mut.result.now in
    both_ok c.lasting_from.result (λ made. made.sizes.items ≡ sizes_from c.args.fit.now c.args.items.now rows) (λ made. made.lasting ≡ true → AreToLast c.args.fit.now c.args.items.now rows)
    (λ made. made.lasting ≡ true → DoLast c.args.rules.now c.args.first c.args.items.now c.args.fit.now made.sizes.items)
    (λ made e s t. started_last c.args.rules.now c.args.first c.of-first.result c.args.items.now c.args.fit.now rows made.sizes.items c.requires.gap c.requires.fixed (c.deref_mut.ensures.value ∙ c.in_ok-rows.ensures) first (s t) e)
    c.lasting_from.ensures.sizes
    c.lasting_from.ensures.lasting
