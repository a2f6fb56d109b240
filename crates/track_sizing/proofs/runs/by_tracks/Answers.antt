use Rattle.std.proofs.Common.{rules, subst, List}
use Rattle.std.specs.Ordering.{int_cmp}
use Rattle.std.specs.List.Sorted.{IsPermutation, IsStableByKey}
use Rattle.std.proofs.lemmas.List.Sorted.{answers_always}
use Rattle.lunit.specs.declared.item.Item.{Item}
use Rattle.part_rules.specs.Tracks.{span_length}
use Rattle.track_sizing.proofs.Order.{from_permuted, in_permuted, rises, same_classes}
use Rattle.track_sizing.proofs.runs.by_tracks.Goals as goal

pub returns : goal.returns
returns c =
    let stable : IsStableByKey span_length int_cmp c.in_ok-sorted.sorted.items c.sort_by_key.new.self.items = c.sort_by_key.ensures.stable span_length (answers_always _ _ _ (λ f a r g h. search rules)) in
    record {
      same = same_classes c.args.items.now c.sort_by_key.new.self.items (subst (λ (xs : List Item). IsStableByKey span_length int_cmp xs c.sort_by_key.new.self.items) c.in_ok-sorted.ensures.items stable);
      rising = rises c.sort_by_key.new.self.items (c.in_ok-sort_by_key.ensures.sorted span_length (answers_always _ _ _ (λ f a r g h. search rules)));
      from = λ k. from_permuted k c.args.items.now c.sort_by_key.new.self.items (subst (λ (xs : List Item). IsPermutation xs c.sort_by_key.new.self.items) c.in_ok-sorted.ensures.items c.sort_by_key.ensures.permutation);
      in_them = λ first n. in_permuted first n c.args.items.now c.sort_by_key.new.self.items (subst (λ (xs : List Item). IsPermutation xs c.sort_by_key.new.self.items) c.in_ok-sorted.ensures.items c.sort_by_key.ensures.permutation);
    }
