-- What is left once nodes have forgotten.
use Rattle.std.proofs.Common.{◌≡◌, ℕ, ◌+◌, ◌<◌, true, false, List, drop, Some, None, length, get_or, refl, sym, ap, ◌∙◌, inl, inr, cond, add-one, drop-cons}
use Rattle.std.specs.Prelude.{◌⊎◌}
use Rattle.std.proofs.lemmas.Bool.{cases_Bool}
use Rattle.plain_tree.specs.Trees.{Trees, leafless, tree}
use Rattle.node_arena.specs.declared.number.NodeId.{NodeId}
use Rattle.node_arena.specs.Numbers.{same, value_at, replaced, EachNode, IsNumbered}
use Rattle.node_arena.specs.Plain.{Nodes, with_value}
use Rattle.node_arena.proofs.Same.{same_is}
use Rattle.layout_cache.specs.Reach.{forgot, all_forgot}

module _ {A : Type 0} (f : A → A) (n : NodeId) (whole : Trees (NodeId × A)) where
  forgot_one : (v : A) (t : Trees (NodeId × A)) → Some v ≡ value_at whole n → EachNode (λ x. value_at whole x.0 ≡ Some x.1) t → forgot f n t ≡ replaced n (f v) t
  forgot_one v leafless e h = refl
  forgot_one v (tree x below after) e h = λ i. tree (x.0, at (cases_Bool (same x.0 n)) i) (forgot_one v below e h.1.0 i) (forgot_one v after e h.1.1 i)
    where
      at : (same x.0 n ≡ true) ⊎ (same x.0 n ≡ false) → cond (same x.0 n) (f x.1) x.1 ≡ cond (same x.0 n) (f v) x.1
      at (inl k) =
          let value : Some v ≡ Some x.1 = e ∙ ap (value_at whole) (sym (same_is x.0 n k)) ∙ h.0 in
          let same_value : v ≡ x.1 = cc in
          ap (λ w. cond (same x.0 n) (f w) x.1) (sym same_value)
      at (inr k) = ap (λ b. cond b (f x.1) x.1) k ∙ sym (ap (λ b. cond b (f v) x.1) k)

  forgot_none : (t : Trees (NodeId × A)) → None ≡ value_at whole n → EachNode (λ x. value_at whole x.0 ≡ Some x.1) t → forgot f n t ≡ t
  forgot_none leafless e h = refl
  forgot_none (tree x below after) e h = λ i. tree (x.0, at (cases_Bool (same x.0 n)) i) (forgot_none below e h.1.0 i) (forgot_none after e h.1.1 i)
    where
      at : (same x.0 n ≡ true) ⊎ (same x.0 n ≡ false) → cond (same x.0 n) (f x.1) x.1 ≡ x.1
      at (inl k) = let none : None ≡ Some x.1 = e ∙ ap (value_at whole) (sym (same_is x.0 n k)) ∙ h.0 in absurd cc
      at (inr k) = ap (λ b. cond b (f x.1) x.1) k

module _ {A : Type 0} (f : A → A) where
  next_forgets : (ns : List NodeId) (i : ℕ) (d : NodeId) (arena : Nodes A) → i < length ns → all_forgot f (drop i ns) arena ≡ all_forgot f (drop (i + 1) ns) (record arena { tree = forgot f (get_or ns i d) arena.tree })
  next_forgets ns i d arena h = rw add-one (ap (λ l. all_forgot f l arena) (drop-cons ns i d h))

  pub skipped : (ns : List NodeId) (i : ℕ) (d : NodeId) (arena : Nodes A) → i < length ns → None ≡ value_at arena.tree (get_or ns i d) → IsNumbered arena.tree → all_forgot f (drop i ns) arena ≡ all_forgot f (drop (i + 1) ns) arena
  skipped ns i d arena h e k = next_forgets ns i d arena h ∙ ap (λ t. all_forgot f (drop (i + 1) ns) (record arena { tree = t })) (forgot_none f (get_or ns i d) arena.tree arena.tree e k.each)

  pub emptied : (ns : List NodeId) (i : ℕ) (d : NodeId) (v : A) (arena : Nodes A) → i < length ns → Some v ≡ value_at arena.tree (get_or ns i d) → IsNumbered arena.tree →
      all_forgot f (drop i ns) arena ≡ all_forgot f (drop (i + 1) ns) (with_value (get_or ns i d) (f v) arena)
  emptied ns i d v arena h e k = next_forgets ns i d arena h ∙ ap (λ t. all_forgot f (drop (i + 1) ns) (record arena { tree = t })) (forgot_one f (get_or ns i d) arena.tree v arena.tree e k.each)

pub ruleset forget_laws = (skipped, emptied)
