use Rattle.std.proofs.Common.{◌≡◌, ◌==◌, ℕ, drop}
use Rattle.std.specs.Prelude.{◌&&◌}
use Rattle.tree_rules.specs.Queries.{same_items}
use Rattle.layout_cache.proofs.same.same_counts.Given as goal

abbrev pub invariant-loop-index : goal.invariant-loop-index
invariant-loop-index l =
    same_items (λ (x : ℕ × ℕ) (y : ℕ × ℕ). (x.0 == y.0) && (x.1 == y.1)) (drop l.index l.a) (drop l.index l.b) ≡ same_items (λ (x : ℕ × ℕ) (y : ℕ × ℕ). (x.0 == y.0) && (x.1 == y.1)) l.a l.b
