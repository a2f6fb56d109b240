-- A walk of the children of a flex container.
use Rattle.std.proofs.Common.{◌≡◌, ℕ, zero, suc, ◌+◌, ◌<◌, ◌∷◌, ◌++◌, [], List, false, length, map, drop, refl, sym, ap, ◌∙◌, subst, Contains}
use Rattle.std.specs.Prelude.{get_or}
use Rattle.std.proofs.lemmas.List.Elements.{Contains-append_left}
use Rattle.node_arena.specs.declared.number.NodeId.{NodeId}
use Rattle.placing.specs.Areas.{orders_at}
use Rattle.placing.specs.Children.{IsNext}
use Rattle.placing.specs.Nodes.{BareTrees, kid_at, kids_at, sight_at, uses_at}
use Rattle.placing.specs.Order.{item_of, items_of, numbers_in_order}
use Rattle.placing.proofs.Entries.{at_index}
use Rattle.placing.proofs.Numbers.{head_is, items_in_order}
use Rattle.tree_rules.specs.Answers.{Kid}
use Rattle.tree_rules.specs.AskedQueries.{ToChild, flex_asks_inline, inline_query, uses_by}
use Rattle.tree_rules.specs.FlexSizes as rules
use Rattle.tree_rules.specs.Orders.{in_order}
use Rattle.tree_rules.specs.declared.kind.NodeKind.{NodeKind}
use Rattle.tree_rules.specs.declared.kind.NodeKind.TheVariants as kind
use Rattle.tree_rules.specs.declared.query.Query.{Query}
use Rattle.inline_sizes.proofs.Grids.{contains_drop, map_drop}

drop_mapped : {A B : Type 0} (f : A → B) (n : ℕ) (xs : List A) → drop n (map f xs) ≡ map f (drop n xs)
drop_mapped f zero xs = refl
drop_mapped f (suc n) [] = refl
drop_mapped f (suc n) (x ∷ xs) = drop_mapped f n xs

module _ (b : BareTrees) (n : NodeId) (numbers : List ℕ) (is : numbers ≡ numbers_in_order (orders_at b n)) where
  kids_in_order : List (ℕ × Kid)
  kids_in_order = in_order (λ (k : Kid). k.label.grid.order) (kids_at b n)

  by_numbers : (other : Kid) → kids_in_order ≡ items_of other (kids_at b n) numbers
  unfolding kids_in_order
  by_numbers other = items_in_order (λ (k : Kid). k.label.grid.order) other (kids_at b n) ∙ ap (items_of other (kids_at b n)) (sym is)

  -- the child of this number comes next
  module _ (k : ℕ) (h : k < length numbers) (c : NodeId) (next : IsNext b n (get_or numbers k 0) c) where
    kid_next : drop k kids_in_order ≡ (get_or numbers k 0, kid_at b c) ∷ drop (k + 1) kids_in_order
    kid_next =
        ap (drop k) (by_numbers (kid_at b c))
        ∙ map_drop (item_of (kid_at b c) (kids_at b n)) numbers (drop (k + 1) numbers) k (get_or numbers k 0) (at_index numbers k 0 h)
        ∙ ap (λ (x : Kid). (get_or numbers k 0, x) ∷ map (item_of (kid_at b c) (kids_at b n)) (drop (k + 1) numbers)) (head_is (kid_at b c) (kids_at b n) (drop (get_or numbers k 0 + 1) (kids_at b n)) (get_or numbers k 0) (kid_at b c) next.kids)
        ∙ ap (λ (l : List (ℕ × Kid)). (get_or numbers k 0, kid_at b c) ∷ l) (sym (drop_mapped (item_of (kid_at b c) (kids_at b n)) (k + 1) numbers) ∙ ap (drop (k + 1)) (sym (by_numbers (kid_at b c))))

    asks_by : (q : Query) (rest : List ToChild) (x : NodeKind) → x ≡ kind.Flex → Contains (map flex_asks_inline (map rules.member_of kids_in_order) ++ rest) (get_or numbers k 0, inline_query false [])
    asks_by q rest x e =
        Contains-append_left _ rest _ (contains_drop (map flex_asks_inline (map rules.member_of kids_in_order)) (map flex_asks_inline (map rules.member_of (drop (k + 1) kids_in_order))) k (get_or numbers k 0, inline_query false [])
        (map_drop flex_asks_inline (map rules.member_of kids_in_order) (map rules.member_of (drop (k + 1) kids_in_order)) k (rules.member_of (get_or numbers k 0, kid_at b c))
        (map_drop rules.member_of kids_in_order (drop (k + 1) kids_in_order) k (get_or numbers k 0, kid_at b c) kid_next)))

    uses_kind : (q : Query) (x : NodeKind) → x ≡ kind.Flex → Contains (uses_by x (sight_at b n).label (sight_at b n).chain (kids_at b n) q) (get_or numbers k 0, inline_query false [])
    unfolding kids_in_order
    uses_kind q x e = subst (λ (z : NodeKind). Contains (uses_by z (sight_at b n).label (sight_at b n).chain (kids_at b n) q) (get_or numbers k 0, inline_query false [])) (sym e) (Contains-append_left _ _ _ (asks_by q _ x e))

    -- every question leads to the one to it
    pub flex_uses_next : (q : Query) → (sight_at b n).label.kind ≡ kind.Flex → Contains (uses_at b n q) (get_or numbers k 0, inline_query false [])
    flex_uses_next q e = uses_kind q (sight_at b n).label.kind e
