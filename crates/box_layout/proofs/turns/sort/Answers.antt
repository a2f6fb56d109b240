use Rattle.std.proofs.Common.{rules, ℕ, ℤ}
use Rattle.std.proofs.lemmas.List.Sorted.{answers_always}
use Rattle.tree_rules.proofs.StableSort.{sorted_from_sort}
use Rattle.box_layout.proofs.turns.sort.Goals as goal

pub returns : goal.returns
returns c =
    sorted_from_sort (λ (e : ℕ × ℤ). e.1) c.args.pairs.now.items c.sort_by_key.new.self.items
    (c.in_ok-sort_by_key.ensures.sorted (λ (e : ℕ × ℤ). e.1) (answers_always _ _ _ (λ f a r g h. search rules)))
    (c.sort_by_key.ensures.stable (λ (e : ℕ × ℤ). e.1) (answers_always _ _ _ (λ f a r g h. search rules)))
