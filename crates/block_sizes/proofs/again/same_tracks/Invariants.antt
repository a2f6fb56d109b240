use Rattle.std.proofs.Common.{◌≡◌, ℤ, drop}
use Rattle.std.specs.Prelude.{◌&&◌}
use Rattle.std.specs.Ordering.{int_eq}
use Rattle.tree_rules.specs.Queries.{same_items}
use Rattle.block_sizes.proofs.again.same_tracks.Given as goal

abbrev pub invariant-loop-index : goal.invariant-loop-index
invariant-loop-index l =
    same_items (λ (x : ℤ × ℤ) (y : ℤ × ℤ). int_eq x.0 y.0 && int_eq x.1 y.1) (drop l.index l.a) (drop l.index l.b) ≡ same_items (λ (x : ℤ × ℤ) (y : ℤ × ℤ). int_eq x.0 y.0 && int_eq x.1 y.1) l.a l.b
