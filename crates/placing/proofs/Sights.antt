-- What the rules see of a number: by its place, and of a child under its parent.
use Rattle.std.proofs.Common.{◌≡◌, ◌≢◌, ℕ, zero, suc, ◌+◌, ◌<◌, ◌≤◌, false, [], ◌∷◌, ◌++◌, List, Option, Some, None, IsSome, is_some, length, drop, refl, sym, ap, ◌∙◌, arith, inl, inr, add-one, subst}
use Rattle.std.specs.Prelude.{slice_get, get_or, ◌⊎◌}
use Rattle.std.proofs.lemmas.Bool.{cases_eq, false≢true}
use Rattle.plain_tree.specs.Trees.{Trees, leafless, tree, map_trees, size_of, count_of}
use Rattle.node_arena.specs.declared.number.NodeId.{NodeId}
use Rattle.node_arena.specs.Numbers.{same, Part, part_at, value_of, value_at, below_of, below_at, tops, top_numbers, number_of, child_at, times, way_up, IsDistinct}
use Rattle.node_arena.proofs.Same.{Here, Below, After, by_place, part_none, part_some, part_there, part_here, part_below, part_after, same_refl, same_is, same_from, one_yes, one_no, cond_yes, cond_no}
use Rattle.node_arena.proofs.Standing.{some_is, way_here, way_below, way_after}
use Rattle.node_arena.proofs.Parts.{not_here, below_within, part_within, top_there, top_part}
use Rattle.tree_rules.specs.Answers.{Kid}
use Rattle.tree_rules.specs.Chains.{Above, above_of, chain_of}
use Rattle.tree_rules.specs.Labels.{Label}
use Rattle.tree_rules.specs.Places.{Seen, above_root, answers_of, first_of_two, seen_below}
use Rattle.tree_rules.specs.Whole.{kids_of}
use Rattle.placing.specs.Nodes.{Bare, BareTrees, above_at, children_at, kids_at, label_in, label_of_bare, seen_or_nothing, sight_at}
use Rattle.placing.specs.Children.{IsNext, IsOutside}

module _ {B : Type 0} (label : NodeId × B → Label) where
  -- a node of these trees, as the rules see it
  abbrev seen_in : NodeId → Above → ℕ → Trees (NodeId × B) → Option Seen
  seen_in n above k t = seen_below label (λ x. same x.0 n) above k t

  -- one of these trees, which is the child of this number
  abbrev seen_as : Above → ℕ → NodeId × Part B → Seen
  seen_as above k top = record { label = label (top.0, top.1.0); chain = chain_of above k (label (top.0, top.1.0)); below = map_trees label top.1.1 }

  -- what the trees below a node see of it
  abbrev above_this : Above → ℕ → NodeId × B → Trees (NodeId × B) → Above
  above_this above k x below = above_of (label x) (chain_of above k (label x)) (map_trees label below)

  first_some : {A : Type 0} (o p : Option A) → IsSome o → first_of_two o p ≡ o
  first_some None p h = absurd cc
  first_some (Some x) p h = refl

  -- ---- the node by its place
  seen_not : (x : NodeId × B) (below after : Trees (NodeId × B)) (n : NodeId) (above : Above) (k : ℕ) → same x.0 n ≡ false →
      seen_in n above k (tree x below after) ≡ first_of_two (seen_in n (above_this above k x below) 0 below) (seen_in n above (k + 1) after)
  seen_not x below after n above k e = cond_no (same x.0 n) (Some (seen_as above k (x.0, (x.1, below)))) (first_of_two (seen_in n (above_this above k x below) 0 below) (seen_in n above (k + 1) after)) e

  seen_none : (t : Trees (NodeId × B)) (n : NodeId) (above : Above) (k : ℕ) → times n t ≡ 0 → seen_in n above k t ≡ None
  seen_none leafless n above k e = refl
  seen_none (tree x below after) n above k e =
      by_place x below n
      (λ p. absurd (omega (arith, one_yes (same x.0 n) p.is)))
      (λ p. absurd (omega (arith, p.in_below)))
      (λ p. seen_not x below after n above k p.not
      ∙ ap (λ o. first_of_two o (seen_in n above (k + 1) after)) (seen_none below n (above_this above k x below) 0 p.none)
      ∙ seen_none after n above (k + 1) (omega (arith, one_no (same x.0 n) p.not, p.none)))

  seen_here : (x : NodeId × B) (below after : Trees (NodeId × B)) (n : NodeId) (above : Above) (k : ℕ) → Here x n → seen_in n above k (tree x below after) ≡ Some (seen_as above k (x.0, (x.1, below)))
  seen_here x below after n above k p = cond_yes (same x.0 n) (Some (seen_as above k (x.0, (x.1, below)))) (first_of_two (seen_in n (above_this above k x below) 0 below) (seen_in n above (k + 1) after)) p.is

  seen_after : (x : NodeId × B) (below after : Trees (NodeId × B)) (n : NodeId) (above : Above) (k : ℕ) → After x below n → seen_in n above k (tree x below after) ≡ seen_in n above (k + 1) after
  seen_after x below after n above k p =
      seen_not x below after n above k p.not ∙ ap (λ o. first_of_two o (seen_in n above (k + 1) after)) (seen_none below n (above_this above k x below) 0 p.none)

  seen_some : (t : Trees (NodeId × B)) (n : NodeId) (above : Above) (k : ℕ) → 1 ≤ times n t → IsSome (seen_in n above k t)
  seen_some leafless n above k h = absurd (omega arith)
  seen_some (tree x below after) n above k h =
      by_place x below n
      (λ p. ap is_some (seen_here x below after n above k p))
      (λ p. ap is_some (seen_not x below after n above k p.not ∙ first_some (seen_in n (above_this above k x below) 0 below) (seen_in n above (k + 1) after) (seen_some below n (above_this above k x below) 0 p.in_below)) ∙ seen_some below n (above_this above k x below) 0 p.in_below)
      (λ p. ap is_some (seen_after x below after n above k p) ∙ seen_some after n above (k + 1) (omega (arith, one_no (same x.0 n) p.not, p.none)))

  seen_lower : (x : NodeId × B) (below after : Trees (NodeId × B)) (n : NodeId) (above : Above) (k : ℕ) → Below x below n → seen_in n above k (tree x below after) ≡ seen_in n (above_this above k x below) 0 below
  seen_lower x below after n above k p =
      seen_not x below after n above k p.not ∙ first_some (seen_in n (above_this above k x below) 0 below) (seen_in n above (k + 1) after) (seen_some below n (above_this above k x below) 0 p.in_below)

  -- ---- what is seen is what stands there
  pub record IsPart (n : NodeId) (s : Seen) (p : Part B) : Type 0 where
    pub its_label : s.label ≡ label (n, p.0)
    pub its_trees : s.below ≡ map_trees label p.1

  seen_part : (t : Trees (NodeId × B)) (n : NodeId) (above : Above) (k : ℕ) (s : Seen) (p : Part B) → seen_in n above k t ≡ Some s → part_at t n ≡ Some p → IsPart n s p
  seen_part leafless n above k s p e f = absurd cc
  seen_part (tree x below after) n above k s p e f =
      by_place x below n
      (λ h. let is : seen_as above k (x.0, (x.1, below)) ≡ s = some_is _ s (sym (seen_here x below after n above k h) ∙ e) in
      let here : (x.1, below) ≡ p = some_is _ p (sym (part_here x below after n h) ∙ f) in
      record { its_label = ap (λ z. z.label) (sym is) ∙ (λ i. label (same_is x.0 n h.is i, (here i).0)); its_trees = ap (λ z. z.below) (sym is) ∙ ap (λ z. map_trees label z.1) here })
      (λ h. seen_part below n (above_this above k x below) 0 s p (sym (seen_lower x below after n above k h) ∙ e) (sym (part_below x below after n h) ∙ f))
      (λ h. seen_part after n above (k + 1) s p (sym (seen_after x below after n above k h) ∙ e) (sym (part_after x below after n h) ∙ f))

  -- ---- one of the trees of a list
  seen_top : (u : Trees (NodeId × B)) (above : Above) (k i : ℕ) (top : NodeId × Part B) → slice_get (tops u) i ≡ Some top → times top.0 u ≤ 1 → seen_in top.0 above k u ≡ Some (seen_as above (k + i) top)
  seen_top leafless above k i top e d = absurd cc
  seen_top (tree x below after) above k zero top e d =
      let is : (x.0, (x.1, below)) ≡ top = some_is _ top e in
      let same_number : k ≡ k + 0 = omega arith in
      seen_here x below after top.0 above k (record { is = same_from x.0 top.0 (ap (λ z. z.0) is) }) ∙ (λ i. Some (seen_as above (same_number i) (is i)))
  seen_top (tree x below after) above k (suc i) top e d =
      let w = top_there after i top e in
      let same_number : (k + 1) + i ≡ k + suc i = omega arith in
      seen_after x below after top.0 above k (record { not = not_here x below after top.0 d (omega arith); none = omega arith })
      ∙ seen_top after above (k + 1) i top e (omega arith) ∙ ap (λ j. Some (seen_as above j top)) same_number

  -- ---- a child under its parent
  above_seen : Seen → Above
  above_seen s = above_of s.label s.chain s.below

  seen_child : (t : Trees (NodeId × B)) (n : NodeId) (p : Part B) (i : ℕ) (top : NodeId × Part B) (above : Above) (k : ℕ) (s : Seen) → part_at t n ≡ Some p → slice_get (tops p.1) i ≡ Some top → times top.0 t ≤ 1 →
      seen_in n above k t ≡ Some s → seen_in top.0 above k t ≡ Some (seen_as (above_of s.label s.chain s.below) i top)
  seen_child leafless n p i top above k s e f d g = absurd cc
  seen_child (tree x below after) n p i top above k s e f d g =
      let there : 1 ≤ times top.0 p.1 = top_there p.1 i top f in
      by_place x below n
      (λ h. let is : seen_as above k (x.0, (x.1, below)) ≡ s = some_is _ s (sym (seen_here x below after n above k h) ∙ g) in
      let b : below ≡ p.1 = ap below_of (sym (part_here x below after n h) ∙ e) in
      let w : times top.0 below ≡ times top.0 p.1 = ap (times top.0) b in
      let zero_more : 0 + i ≡ i = omega arith in
      seen_lower x below after top.0 above k (record { not = not_here x below after top.0 d (omega arith); in_below = omega arith })
      ∙ seen_top below (above_this above k x below) 0 i top (ap (λ u. slice_get (tops u) i) b ∙ f) (omega arith)
      ∙ (λ j. Some (seen_as (above_of (is j).label (is j).chain (is j).below) (zero_more j) top)))
      (λ h. let q = sym (part_below x below after n h) ∙ e in
      let w : 1 ≤ times top.0 below = omega (arith, below_within below n top.0 p q) in
      seen_lower x below after top.0 above k (record { not = not_here x below after top.0 d (omega arith); in_below = w })
      ∙ seen_child below n p i top (above_this above k x below) 0 s q f (omega arith) (sym (seen_lower x below after n above k h) ∙ g))
      (λ h. let q = sym (part_after x below after n h) ∙ e in
      let w : 1 ≤ times top.0 after = omega (arith, below_within after n top.0 p q) in
      seen_after x below after top.0 above k (record { not = not_here x below after top.0 d (omega arith); none = omega arith })
      ∙ seen_child after n p i top above (k + 1) s q f (omega arith) (sym (seen_after x below after n above k h) ∙ g))

  -- ---- lists of the children
  length_kids : (u : Trees (NodeId × B)) (above : Above) (k : ℕ) → length (kids_of above k (map_trees label u)) ≡ count_of u
  length_kids leafless above k = refl
  length_kids (tree x below after) above k = omega (arith, length_kids after above (k + 1))

  length_tops : (u : Trees (NodeId × B)) → length (top_numbers u) ≡ count_of u
  length_tops leafless = refl
  length_tops (tree x below after) = omega (arith, length_tops after)

  abbrev kid_seen : Seen → Kid
  kid_seen s = record { label = s.label; chain = s.chain; answers = answers_of s }

  next_kid : (u : Trees (NodeId × B)) (above : Above) (k i : ℕ) (top : NodeId × Part B) → slice_get (tops u) i ≡ Some top →
      drop i (kids_of above k (map_trees label u)) ≡ kid_seen (seen_as above (k + i) top) ∷ drop (suc i) (kids_of above k (map_trees label u))
  next_kid leafless above k i top e = absurd cc
  next_kid (tree x below after) above k zero top e =
      let is : (x.0, (x.1, below)) ≡ top = some_is _ top e in
      let same_number : k ≡ k + 0 = omega arith in
      λ i. kid_seen (seen_as above (same_number i) (is i)) ∷ kids_of above (k + 1) (map_trees label after)
  next_kid (tree x below after) above k (suc i) top e =
      let same_number : (k + 1) + i ≡ k + suc i = omega arith in
      next_kid after above (k + 1) i top e ∙ ap (λ j. kid_seen (seen_as above j top) ∷ drop (suc i) (kids_of above (k + 1) (map_trees label after))) same_number

  next_number : (u : Trees (NodeId × B)) (i : ℕ) (top : NodeId × Part B) → slice_get (tops u) i ≡ Some top → drop i (top_numbers u) ≡ top.0 ∷ drop (suc i) (top_numbers u)
  next_number leafless i top e = absurd cc
  next_number (tree x below after) zero top e =
      let is : x.0 ≡ top.0 = ap (λ z. z.0) (some_is _ top e) in
      ap (λ n. n ∷ top_numbers after) is
  next_number (tree x below after) (suc i) top e = next_number after i top e

  top_smaller : (u : Trees (NodeId × B)) (i : ℕ) (top : NodeId × Part B) → slice_get (tops u) i ≡ Some top → size_of top.1.1 < size_of u
  top_smaller leafless i top e = absurd cc
  top_smaller (tree x below after) zero top e =
      let is : size_of below ≡ size_of top.1.1 = ap (λ z. size_of z.1.1) (some_is _ top e) in
      omega arith
  top_smaller (tree x below after) (suc i) top e = omega (arith, top_smaller after i top e)

  -- no two of them have one number
  only_top : (u : Trees (NodeId × B)) (i j : ℕ) (top other : NodeId × Part B) → slice_get (tops u) i ≡ Some top → slice_get (tops u) j ≡ Some other → other.0 ≡ top.0 → times top.0 u ≤ 1 → j ≡ i
  only_top leafless i j top other e f same_number d = absurd cc
  only_top (tree x below after) zero zero top other e f same_number d = refl
  only_top (tree x below after) zero (suc j) top other e f same_number d =
      let is : x.0 ≡ top.0 = ap (λ z. z.0) (some_is _ top e) in
      let w : 1 ≤ times top.0 after = subst (λ n. 1 ≤ times n after) same_number (top_there after j other f) in
      absurd (omega (arith, one_yes (same x.0 top.0) (same_from x.0 top.0 is)))
  only_top (tree x below after) (suc i) zero top other e f same_number d =
      let is : x.0 ≡ top.0 = ap (λ z. z.0) (some_is _ other f) ∙ same_number in
      let w : 1 ≤ times top.0 after = top_there after i top e in
      absurd (omega (arith, one_yes (same x.0 top.0) (same_from x.0 top.0 is)))
  only_top (tree x below after) (suc i) (suc j) top other e f same_number d = ap suc (only_top after i j top other e f same_number (omega arith))

  -- ---- the way up
  way_top : (u : Trees (NodeId × B)) (i : ℕ) (top : NodeId × Part B) → slice_get (tops u) i ≡ Some top → times top.0 u ≤ 1 → way_up u top.0 ≡ top.0 ∷ []
  way_top leafless i top e d = absurd cc
  way_top (tree x below after) zero top e d = way_here x below after top.0 (record { is = same_from x.0 top.0 (ap (λ z. z.0) (some_is _ top e)) })
  way_top (tree x below after) (suc i) top e d =
      let w = top_there after i top e in
      way_after x below after top.0 (record { not = not_here x below after top.0 d (omega arith); none = omega arith }) ∙ way_top after i top e (omega arith)

  way_child : (t : Trees (NodeId × B)) (n : NodeId) (p : Part B) (i : ℕ) (top : NodeId × Part B) → part_at t n ≡ Some p → slice_get (tops p.1) i ≡ Some top → times top.0 t ≤ 1 → way_up t top.0 ≡ top.0 ∷ way_up t n
  way_child leafless n p i top e f d = absurd cc
  way_child (tree x below after) n p i top e f d =
      let there : 1 ≤ times top.0 p.1 = top_there p.1 i top f in
      by_place x below n
      (λ h. let b : below ≡ p.1 = ap below_of (sym (part_here x below after n h) ∙ e) in
      let w : times top.0 below ≡ times top.0 p.1 = ap (times top.0) b in
      way_below x below after top.0 (record { not = not_here x below after top.0 d (omega arith); in_below = omega arith })
      ∙ ap (λ l. l ++ x.0 ∷ []) (way_top below i top (ap (λ u. slice_get (tops u) i) b ∙ f) (omega arith))
      ∙ (λ j. top.0 ∷ same_is x.0 n h.is j ∷ []) ∙ ap (λ l. top.0 ∷ l) (sym (way_here x below after n h)))
      (λ h. let q = sym (part_below x below after n h) ∙ e in
      let w : 1 ≤ times top.0 below = omega (arith, below_within below n top.0 p q) in
      way_below x below after top.0 (record { not = not_here x below after top.0 d (omega arith); in_below = w })
      ∙ ap (λ l. l ++ x.0 ∷ []) (way_child below n p i top q f (omega arith))
      ∙ ap (λ l. top.0 ∷ l) (sym (way_below x below after n h)))
      (λ h. let q = sym (part_after x below after n h) ∙ e in
      let w : 1 ≤ times top.0 after = omega (arith, below_within after n top.0 p q) in
      way_after x below after top.0 (record { not = not_here x below after top.0 d (omega arith); none = omega arith })
      ∙ way_child after n p i top q f (omega arith) ∙ ap (λ l. top.0 ∷ l) (sym (way_after x below after n h)))

  -- ---- a number that stands in none of a node's children
  below_top : (u : Trees (NodeId × B)) (i : ℕ) (top : NodeId × Part B) (m : NodeId) → slice_get (tops u) i ≡ Some top → times m top.1.1 ≤ times m u
  below_top leafless i top m e = absurd cc
  below_top (tree x below after) zero top m e =
      let is : times m below ≡ times m top.1.1 = ap (λ z. times m z.1.1) (some_is _ top e) in
      omega arith
  below_top (tree x below after) (suc i) top m e = omega (arith, below_top after i top m e)

  no_times : (t : Trees (NodeId × B)) (m : NodeId) → part_at t m ≡ None → times m t ≡ 0
  no_times t m e = at (cases_eq (times m t) 0)
    where
      at : (times m t ≡ 0) ⊎ (times m t ≢ 0) → times m t ≡ 0
      at (inl z) = z
      at (inr nz) = absurd (false≢true (sym (ap is_some e) ∙ part_some t m (omega arith)))

-- ---- what holds of the child of an index
module _ (b : BareTrees) (d : IsDistinct b) where
  -- of a node with a child
  module _ (n : NodeId) (p : Part Bare) (i : ℕ) (top : NodeId × Part Bare) (e : part_at b n ≡ Some p) (f : slice_get (tops p.1) i ≡ Some top) where
    few_tops : times top.0 p.1 ≤ 1
    few_tops = let few = d top.0 in omega (arith, below_within b n top.0 p e)

    child_part : part_at b top.0 ≡ Some top.1
    child_part = part_within b n top.0 p e (d top.0) (top_there p.1 i top f) ∙ top_part p.1 i top f few_tops

    below_is : below_at b n ≡ p.1
    below_is = ap below_of e

    child_below : below_at b top.0 ≡ top.1.1
    child_below = ap below_of child_part

    sight_of : (s : Seen) → seen_in label_in n above_root 0 b ≡ Some s → sight_at b n ≡ s
    unfolding sight_at
    sight_of s g = ap seen_or_nothing g

    child_sight : (s : Seen) → seen_in label_in n above_root 0 b ≡ Some s → sight_at b top.0 ≡ seen_as label_in (above_of s.label s.chain s.below) i top
    unfolding sight_at
    child_sight s g = ap seen_or_nothing (seen_child label_in b n p i top above_root 0 s e f (d top.0) g)

    next_by : (s : Seen) → seen_in label_in n above_root 0 b ≡ Some s → IsNext b n i top.0
    next_by s g =
        let part : IsPart label_in n s p = seen_part label_in b n above_root 0 s p g e in
        let own = sight_of s g in
        let lower = child_sight s g in
        let zero_more : 0 + i ≡ i = omega arith in
        record {
          number = ap (λ u. number_of (slice_get (tops u) i)) below_is ∙ ap number_of f;
          only = λ other h. at other (slice_get (tops p.1) other) refl (sym (ap (λ u. number_of (slice_get (tops u) other)) below_is) ∙ h);
          live = ap is_some child_part;
          smaller = omega (arith, ap size_of child_below, ap size_of below_is, top_smaller label_in p.1 i top f);
          level = ap length (way_child label_in b n p i top e f (d top.0)) ∙ omega arith;
          chain = ap (λ z. z.chain) lower ∙ (λ j. chain_of (above_of (sym own j).label (sym own j).chain (sym own j).below) i (sym (ap (λ z. z.label) lower) j));
          kids =
              (λ j. drop i (kids_of (above_of (own j).label (own j).chain (own j).below) 0 (own j).below))
              ∙ (λ j. drop i (kids_of (above_of s.label s.chain s.below) 0 (part.its_trees j)))
              ∙ next_kid label_in p.1 (above_of s.label s.chain s.below) 0 i top f
              ∙ (λ j. kid_seen label_in (seen_as label_in (above_of s.label s.chain s.below) (zero_more j) top) ∷ drop (suc i) (kids_of (above_of s.label s.chain s.below) 0 (sym part.its_trees j)))
              ∙ (λ j. kid_seen label_in (sym lower j) ∷ drop (sym (add-one i) j) (kids_of (above_of (sym own j).label (sym own j).chain (sym own j).below) 0 (sym own j).below));
          children =
              ap (λ u. drop i (top_numbers u)) below_is ∙ next_number label_in p.1 i top f
              ∙ (λ j. top.0 ∷ drop (sym (add-one i) j) (top_numbers (sym below_is j)));
          apart = λ m out. apart m out.below;
          parent = record {
            other = λ same_number. absurd (omega (arith, one_yes (same n top.0) (same_from n top.0 same_number), d top.0, below_within b n top.0 p e, top_there p.1 i top f));
            below = none_below n (omega (arith, one_yes (same n n) (same_refl n), d n, below_within b n n p e, below_top label_in p.1 i top n f));
          };
        }
      where
        at : (other : ℕ) (o : Option (NodeId × Part Bare)) → slice_get (tops p.1) other ≡ o → number_of o ≡ Some top.0 → other ≡ i
        at other None h k = absurd cc
        at other (Some x) h k = only_top label_in p.1 i other top x f h (some_is x.0 top.0 k) few_tops

        none_below : (m : NodeId) → times m top.1.1 ≡ 0 → part_at (below_at b top.0) m ≡ None
        none_below m z = ap (λ u. part_at u m) child_below ∙ part_none top.1.1 m z

        apart : (m : NodeId) → part_at (below_at b n) m ≡ None → IsOutside b top.0 m
        apart m out =
            let none : times m p.1 ≡ 0 = no_times label_in p.1 m (sym (ap (λ u. part_at u m) below_is) ∙ out) in
            record {
              other = λ same_number. absurd (omega (arith, ap (λ k. times k p.1) same_number, top_there p.1 i top f));
              below = none_below m (omega (arith, below_top label_in p.1 i top m f));
            }

  pub next_there : (n c : NodeId) (i : ℕ) → child_at b n i ≡ Some c → IsNext b n i c
  next_there n c i e = at (part_at b n) refl e
    where
      seen : (p : Part Bare) (top : NodeId × Part Bare) → part_at b n ≡ Some p → slice_get (tops p.1) i ≡ Some top → (o : Option Seen) → seen_in label_in n above_root 0 b ≡ o → IsSome o → IsNext b n i top.0
      seen p top f g None h k = absurd cc
      seen p top f g (Some s) h k = next_by n p i top f g s h

      top_of : (p : Part Bare) → part_at b n ≡ Some p → (o : Option (NodeId × Part Bare)) → slice_get (tops p.1) i ≡ o → number_of o ≡ Some c → IsNext b n i c
      top_of p f None g h = absurd cc
      top_of p f (Some top) g h = subst (IsNext b n i) (some_is top.0 c h) (seen p top f g (seen_in label_in n above_root 0 b) refl (seen_some label_in b n above_root 0 (part_there b n (ap is_some f))))

      at : (o : Option (Part Bare)) → part_at b n ≡ o → number_of (slice_get (tops (below_of o)) i) ≡ Some c → IsNext b n i c
      at None f g = absurd cc
      at (Some p) f g = top_of p f (slice_get (tops p.1) i) refl g

-- ---- the node itself
pub sight_part : (b : BareTrees) (n : NodeId) (p : Part Bare) → part_at b n ≡ Some p → IsPart label_in n (sight_at b n) p
unfolding sight_at
sight_part b n p e = at (seen_in label_in n above_root 0 b) refl (seen_some label_in b n above_root 0 (part_there b n (ap is_some e)))
  where
    at : (o : Option Seen) → seen_in label_in n above_root 0 b ≡ o → IsSome o → IsPart label_in n (seen_or_nothing (seen_in label_in n above_root 0 b)) p
    at None f g = absurd cc
    at (Some s) f g = subst (λ o. IsPart label_in n (seen_or_nothing o) p) (sym f) (seen_part label_in b n above_root 0 s p f e)

pub sight_label : (b : BareTrees) (n : NodeId) (v : Bare) → Some v ≡ value_at b n → label_of_bare v ≡ (sight_at b n).label
sight_label b n v e = at (part_at b n) refl e
  where
    at : (o : Option (Part Bare)) → part_at b n ≡ o → Some v ≡ value_of o → label_of_bare v ≡ (sight_at b n).label
    at None f g = absurd cc
    at (Some p) f g = ap label_of_bare (some_is v p.0 g) ∙ sym (sight_part b n p f).its_label

pub sight_none : (b : BareTrees) (n : NodeId) → part_at b n ≡ None → (sight_at b n).below ≡ leafless
unfolding sight_at
sight_none b n e = ap (λ o. (seen_or_nothing o).below) (seen_none label_in b n above_root 0 (no_times label_in b n e))

pub count_kids : (b : BareTrees) (n : NodeId) → length (kids_at b n) ≡ count_of (below_at b n)
count_kids b n = at (part_at b n) refl
  where
    at : (o : Option (Part Bare)) → part_at b n ≡ o → length (kids_at b n) ≡ count_of (below_at b n)
    at None f = ap (λ t. length (kids_of (above_at b n) 0 t)) (sight_none b n f) ∙ ap (λ o. count_of (below_of o)) (sym f)
    at (Some p) f = ap (λ t. length (kids_of (above_at b n) 0 t)) (sight_part b n p f).its_trees ∙ length_kids label_in p.1 (above_at b n) 0 ∙ ap (λ o. count_of (below_of o)) (sym f)

pub count_children : (b : BareTrees) (n : NodeId) → length (children_at b n) ≡ count_of (below_at b n)
count_children b n = length_tops label_in (below_at b n)

-- the root has no links
pub top_chain : (t : BareTrees) (root : NodeId) → top_numbers t ≡ root ∷ [] → (sight_at t root).chain ≡ []
unfolding sight_at
top_chain leafless root e = absurd cc
top_chain (tree x below leafless) root e =
    ap (λ o. (seen_or_nothing o).chain) (seen_here label_in x below leafless root above_root 0 (record { is = same_from x.0 root (first x.0 root e) }))
  where
    first : (a b : NodeId) → a ∷ [] ≡ b ∷ [] → a ≡ b
    first a b q = cc
top_chain (tree x below (tree y c d)) root e = absurd (omega (arith, ap length e))

child_top : {A : Type 0} (u : Trees (NodeId × A)) (i : ℕ) → i < count_of u → IsSome (number_of (slice_get (tops u) i))
child_top leafless i h = absurd (omega arith)
child_top (tree x below after) zero h = refl
child_top (tree x below after) (suc i) h = child_top after i (omega arith)

pub child_some : {A : Type 0} (t : Trees (NodeId × A)) (n : NodeId) (i : ℕ) → i < count_of (below_at t n) → IsSome (child_at t n i)
child_some t n i h = child_top (below_at t n) i h

top_listed : {A : Type 0} (u : Trees (NodeId × A)) (i : ℕ) (d : NodeId) → i < length (top_numbers u) → number_of (slice_get (tops u) i) ≡ Some (get_or (top_numbers u) i d)
top_listed leafless i d h = absurd (omega (arith, h))
top_listed (tree x below after) zero d h = refl
top_listed (tree x below after) (suc i) d h = top_listed after i d (omega (arith, h))

-- the child of an index in the list of the children
pub child_listed : {A : Type 0} (t : Trees (NodeId × A)) (n : NodeId) (list : List NodeId) (i : ℕ) (d : NodeId) → list ≡ top_numbers (below_at t n) → i < length list → child_at t n i ≡ Some (get_or list i d)
child_listed t n list i d e h = top_listed (below_at t n) i d (omega (arith, h, ap length e)) ∙ ap (λ l. Some (get_or l i d)) (sym e)
