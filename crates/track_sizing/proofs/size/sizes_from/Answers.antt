use Rattle.std.proofs.Common.{subst, ◌≡◌, refl, List, map, ℤ}
use Rattle.std.specs.Prelude.{IfOk}
use Rattle.part_rules.specs.Tracks.{Track}
use Rattle.track_sizing.proofs.Sized.{sizes_are}
use Rattle.track_sizing.proofs.size.sizes_from.Goals as goal

pub returns : goal.returns
returns g c =
    subst (λ (xs : List ℤ). IfOk c.base_sizes.result (λ sizes. sizes.items ≡ xs))
    (sizes_are c.args.fit.now c.args.items.now c.args.rows.now c.size_content.new.rows c.give_rest.new.rows (map (λ (t : Track). t.base) c.give_rest.new.rows) c.in_ok-size_content.ensures.rows c.in_ok-give_rest.ensures refl)
    c.base_sizes.ensures
