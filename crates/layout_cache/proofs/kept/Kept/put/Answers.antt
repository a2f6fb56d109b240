use Rattle.std.proofs.Common.{◌≤◌, ◌∷◌, ◌++◌, [], is_some, length, rules, subst, sym, ap, ◌∙◌}
use Rattle.tree_rules.specs.KeptAnswers.{AreDistinct, IsAbsent, last_of}
use Rattle.layout_cache.proofs.Distinct.{all_kept, distinct_kept, few_last, last_kept}
use Rattle.layout_cache.proofs.kept.Kept.put.Goals as goal

pub invariant_of-self-2 : goal.invariant_of-self-2
invariant_of-self-2 g c = (
  search rules,
  search rules,
  subst (λ b. length b.items ≤ b.capacity) (sym c.push_back-oldest.ensures.items) (few_last c.make_room.new.ring.capacity (c.make_room.new.ring.items ++ (c.args.query, c.args.answer) ∷ [])),
  subst AreDistinct (sym (ap (λ b. b.items) c.push_back-oldest.ensures.items))
      (distinct_kept c.make_room.new.ring.items c.args.query c.args.answer _ (subst AreDistinct (sym c.make_room.ensures.items) c.self.invariant.3)
      (subst (IsAbsent c.args.query) (sym c.make_room.ensures.items) (subst (IsAbsent c.args.query) (sym c.self.view_is) c.requires))),
)

pub returns-clause-ok : goal.returns-clause-ok
returns-clause-ok g c =
    ap (λ b. b.items) c.push_back-oldest.ensures.items ∙
    last_kept c.make_room.new.ring.capacity c.make_room.new.ring.items (c.args.query, c.args.answer) c.in_ok-make_room.ensures.room c.make_room.ensures.most ∙
    ap (λ xs. last_of 16 (xs ++ (c.args.query, c.args.answer) ∷ [])) (c.make_room.ensures.items ∙ c.self.view_is)

pub returns-clause-all : goal.returns-clause-all
returns-clause-all g c = λ none.
    ap (λ b. b.items) c.push_back-oldest.ensures.items
    ∙ all_kept c.make_room.new.ring.capacity c.make_room.new.ring.items (c.args.query, c.args.answer) (ap is_some (sym c.push_back-oldest.ensures.value) ∙ sym c.is_some.ensures ∙ none)
    ∙ ap (λ xs. xs ++ (c.args.query, c.args.answer) ∷ []) (c.make_room.ensures.items ∙ c.self.view_is)
