-- The numbers of the nodes of marked names.
use Rattle.std.proofs.Common.{◌≡◌, refl, ap, sym, ◌∙◌, ◌≤◌, ◌||◌, Bool, true, false, List, [], ◌∷◌, ◌++◌, Option, Some, None, if◌then◌else◌, arith}
use Rattle.plain_tree.specs.Trees.{leafless, tree}
use Rattle.node_arena.specs.declared.number.NodeId.{NodeId}
use Rattle.node_arena.specs.Numbers.{EachNode, IsDistinct, is_among, same, times, value_at, value_of}
use Rattle.node_arena.proofs.Parts.{each_weaker, numbered}
use Rattle.node_arena.proofs.Same.{by_place, one_yes, part_after, part_below, part_here}
use Rattle.doc_text.specs.Texts.{Word}
use Rattle.placing.specs.declared.node.Node.{Node}
use Rattle.placing.specs.Nodes.{NodeTrees}
use Rattle.reach_frame.proofs.Marked.{among_append}

abbrev own_number : Bool → NodeId → List NodeId
own_number marked n = if marked then n ∷ [] else []

abbrev mark_at : (Word → Bool) → Option Node → Bool
mark_at marks None = false
mark_at marks (Some v) = marks v.name

module _ (marks : Word → Bool) where
  abbrev pub marked_in : NodeTrees → List NodeId
  marked_in leafless = []
  marked_in (tree x below after) = own_number (marks x.1.name) x.0 ++ (marked_in below ++ marked_in after)

  in_parts : (n : NodeId) (x : NodeId × Node) (below after : NodeTrees) → is_among n (marked_in (tree x below after)) ≡ (is_among n (own_number (marks x.1.name) x.0) || (is_among n (marked_in below) || is_among n (marked_in after)))
  in_parts n x below after =
      among_append n (own_number (marks x.1.name) x.0) (marked_in below ++ marked_in after)
      ∙ ap (λ b. is_among n (own_number (marks x.1.name) x.0) || b) (among_append n (marked_in below) (marked_in after))

  own_not : (n m : NodeId) (c : Bool) → same m n ≡ false → is_among n (own_number c m) ≡ false
  own_not n m true e = ap (λ b. b || false) e
  own_not n m false e = refl

  own_is : (n m : NodeId) (c : Bool) → same m n ≡ true → is_among n (own_number c m) ≡ c
  own_is n m true e = ap (λ b. b || false) e
  own_is n m false e = refl

  none_marked : (n : NodeId) (t : NodeTrees) → times n t ≡ 0 → is_among n (marked_in t) ≡ false
  none_marked n leafless e = refl
  none_marked n (tree x below after) e =
      in_parts n x below after
      ∙ (λ i. own_not n x.0 (marks x.1.name) (other (same x.0 n) refl) i || (none_marked n below (omega (arith, e)) i || none_marked n after (omega (arith, e)) i))
    where
      other : (b : Bool) → same x.0 n ≡ b → same x.0 n ≡ false
      other true f = absurd (omega (arith, e, one_yes (same x.0 n) f))
      other false f = f

  or_none : (b : Bool) → (b || (false || false)) ≡ b
  or_none true = refl
  or_none false = refl

  or_low : (b : Bool) → (false || (b || false)) ≡ b
  or_low true = refl
  or_low false = refl

  marked_at : (t : NodeTrees) (n : NodeId) → times n t ≤ 1 → is_among n (marked_in t) ≡ mark_at marks (value_at t n)
  marked_at leafless n d = refl
  marked_at (tree x below after) n d =
      by_place x below n
      (λ h. let own = one_yes (same x.0 n) h.is in
      in_parts n x below after
      ∙ (λ i. own_is n x.0 (marks x.1.name) h.is i || (none_marked n below (omega (arith, d, own)) i || none_marked n after (omega (arith, d, own)) i))
      ∙ or_none (marks x.1.name) ∙ sym (ap (λ o. mark_at marks (value_of o)) (part_here x below after n h)))
      (λ h. let there = h.in_below in
      in_parts n x below after
      ∙ (λ i. own_not n x.0 (marks x.1.name) h.not i || (marked_at below n (omega (arith, d)) i || none_marked n after (omega (arith, d, there)) i))
      ∙ or_low (mark_at marks (value_at below n)) ∙ sym (ap (λ o. mark_at marks (value_of o)) (part_below x below after n h)))
      (λ h. in_parts n x below after
      ∙ (λ i. own_not n x.0 (marks x.1.name) h.not i || (none_marked n below h.none i || marked_at after n (omega (arith, d)) i))
      ∙ sym (ap (λ o. mark_at marks (value_of o)) (part_after x below after n h)))

  pub all_marked : (t : NodeTrees) → IsDistinct t → EachNode (λ x. is_among x.0 (marked_in t) ≡ marks x.1.name) t
  all_marked t d = each_weaker (λ x. value_at t x.0 ≡ Some x.1) (λ x. is_among x.0 (marked_in t) ≡ marks x.1.name) t (λ x e. marked_at t x.0 (d x.0) ∙ ap (mark_at marks) e) (numbered t d).each
