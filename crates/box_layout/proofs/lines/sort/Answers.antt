use Rattle.std.proofs.Common.{rules}
use Rattle.std.proofs.lemmas.List.Sorted.{answers_always}
use Rattle.tree_rules.proofs.StableSort.{sorted_from_sort}
use Rattle.box_layout.specs.declared.seats.Seat.{Seat}
use Rattle.box_layout.proofs.lines.sort.Goals as goal

pub returns : goal.returns
returns c =
    sorted_from_sort (λ (s : Seat). s.number) c.args.seats.now.items c.sort_by_key.new.self.items
    (c.in_ok-sort_by_key.ensures.sorted (λ (s : Seat). s.number) (answers_always _ _ _ (λ f a r g h. search rules)))
    (c.sort_by_key.ensures.stable (λ (s : Seat). s.number) (answers_always _ _ _ (λ f a r g h. search rules)))
