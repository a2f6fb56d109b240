-- What stands below one child of a node stands below no other.
use Rattle.std.proofs.Common.{arith, ◌≡◌, ◌≢◌, refl, sym, ap, ◌∙◌, ℕ, zero, suc, ◌+◌, ◌≤◌, Option, Some, None}
use Rattle.std.specs.Prelude.{slice_get}
use Rattle.plain_tree.specs.Trees.{Trees, leafless, tree}
use Rattle.node_arena.specs.declared.number.NodeId.{NodeId}
use Rattle.node_arena.specs.Numbers.{IsChild, IsDistinct, Part, below_at, below_of, child_at, number_of, one, part_at, same, times, tops, whole_of}
use Rattle.node_arena.proofs.Parts.{below_within, child_is}
use Rattle.node_arena.proofs.Same.{one_yes, part_none, same_from, same_refl}
use Rattle.node_arena.proofs.Standing.{some_is}
use Rattle.placing.specs.Children.{IsOutside}
use Rattle.placing.specs.Nodes.{BareTrees}
use Rattle.tree_rules.specs.declared.query.Query.{Query}
use Rattle.box_layout.specs.Paths.{Passes, its_own, on}

-- ---- of the trees of a list

module _ {A : Type 0} (m : NodeId) where
  -- how often a number stands at a tree or below it
  abbrev in_top : NodeId × Part A → ℕ
  in_top top = one (same top.0 m) + times m top.1.1

  one_top : (u : Trees (NodeId × A)) (i : ℕ) (top : NodeId × Part A) → slice_get (tops u) i ≡ Some top → in_top top ≤ times m u
  one_top leafless i top e = absurd cc
  one_top (tree x below after) zero top e =
      let is : (x.0, (x.1, below)) ≡ top = some_is _ top e in
      omega (arith, ap in_top is)
  one_top (tree x below after) (suc i) top e = omega (arith, one_top after i top e)

  two_tops : (u : Trees (NodeId × A)) (i j : ℕ) (top other : NodeId × Part A) → i ≢ j → slice_get (tops u) i ≡ Some top → slice_get (tops u) j ≡ Some other → in_top top + in_top other ≤ times m u
  two_tops leafless i j top other apart e f = absurd cc
  two_tops (tree x below after) zero zero top other apart e f = absurd (apart refl)
  two_tops (tree x below after) zero (suc j) top other apart e f =
      let is : (x.0, (x.1, below)) ≡ top = some_is _ top e in
      omega (arith, ap in_top is, one_top after j other f)
  two_tops (tree x below after) (suc i) zero top other apart e f =
      let is : (x.0, (x.1, below)) ≡ other = some_is _ other f in
      omega (arith, ap in_top is, one_top after i top e)
  two_tops (tree x below after) (suc i) (suc j) top other apart e f = omega (arith, two_tops after i j top other (λ is. apart (ap suc is)) e f)

-- ---- of a whole tree

module _ {A : Type 0} (b : Trees (NodeId × A)) (d : IsDistinct b) where
  -- a child, as one of the trees below its parent
  record IsTop (n c : NodeId) (i : ℕ) : Type 0 where
    top : NodeId × Part A
    there : slice_get (tops (below_at b n)) i ≡ Some top
    number : top.0 ≡ c
    below : below_at b c ≡ top.1.1

  is_top : (n c : NodeId) (i : ℕ) → child_at b n i ≡ Some c → IsTop n c i
  is_top n c i is = at (slice_get (tops (below_at b n)) i) refl is
    where
      whole : IsChild b n i c
      whole = child_is b n i c d is

      at : (o : Option (NodeId × Part A)) → slice_get (tops (below_at b n)) i ≡ o → number_of o ≡ Some c → IsTop n c i
      at None e k = absurd cc
      at (Some top) e k = record { top = top; there = e; number = some_is top.0 c k; below = ap below_of (whole.whole ∙ ap whole_of e) }

  -- a number of a node, or of one below it
  abbrev pub IsUnder : NodeId → NodeId → Type 0
  IsUnder c m = 1 ≤ one (same c m) + times m (below_at b c)

  pub under_itself : (n : NodeId) → IsUnder n n
  under_itself n = omega (arith, one_yes (same n n) (same_refl n))

  -- how often a number stands at a child or below it
  at_child : (n c m : NodeId) (i : ℕ) (t : IsTop n c i) → one (same c m) + times m (below_at b c) ≡ one (same t.top.0 m) + times m t.top.1.1
  at_child n c m i t = λ j. one (same (sym t.number j) m) + times m (t.below j)

  below_child : (n c m : NodeId) (i : ℕ) → child_at b n i ≡ Some c → IsUnder c m → 1 ≤ times m (below_at b n)
  below_child n c m i is under =
      let t = is_top n c i is in
      omega (arith, under, at_child n c m i t, one_top m (below_at b n) i t.top t.there)

  pub under_child : (n c m : NodeId) (i : ℕ) → child_at b n i ≡ Some c → IsUnder c m → IsUnder n m
  under_child n c m i is under = omega (arith, below_child n c m i is under)

  at_most_once : (n c m : NodeId) (i : ℕ) → child_at b n i ≡ Some c → one (same n m) + times m (below_at b n) ≤ 1
  at_most_once n c m i is = at (part_at b n) refl is
    where
      at : (o : Option (Part A)) → part_at b n ≡ o → number_of (slice_get (tops (below_of o)) i) ≡ Some c → one (same n m) + times m (below_at b n) ≤ 1
      at None e k = absurd cc
      at (Some p) e k = omega (arith, ap (λ o. times m (below_of o)) e, below_within b n m p e, d m)

  -- what stands below a child is not its parent
  pub not_parent : (n c m : NodeId) (i : ℕ) → child_at b n i ≡ Some c → IsUnder c m → m ≢ n
  not_parent n c m i is under same_number = absurd (omega (arith, one_yes (same n m) (same_from n m (sym same_number)), below_child n c m i is under, at_most_once n c m i is))

  module _ (n c e m : NodeId) (i j : ℕ) (is : child_at b n i ≡ Some c) (also : child_at b n j ≡ Some e) (apart : i ≢ j) (under : IsUnder c m) where
    none : one (same e m) + times m (below_at b e) ≡ 0
    none =
        let t = is_top n c i is in
        let u = is_top n e j also in
        omega (arith, under, at_child n c m i t, at_child n e m j u, two_tops m (below_at b n) i j t.top u.top apart t.there u.there, at_most_once n c m i is)

    -- nor another child
    pub not_sibling : m ≢ e
    not_sibling same_number = absurd (omega (arith, one_yes (same e m) (same_from e m (sym same_number)), none))

    -- what stands below one child does not stand below another
    pub not_below : part_at (below_at b e) m ≡ None
    not_below = part_none (below_at b e) m (omega (arith, none))

-- ---- on the way of the boxes

passes_under : (b : BareTrees) (c m : NodeId) (r s : Query) → Passes b c r m s → (d : IsDistinct b) → IsUnder b d c m
passes_under b _ _ _ _ (its_own n q) d = under_itself b d n
passes_under b _ _ _ _ (on n c m q r s index is passed rest) d = under_child b d n c m index is (passes_under b c m r s rest d)

module _ (b : BareTrees) (d : IsDistinct b) where
  -- what is asked on the way below one child is outside another
  pub passes_apart : (n c e m : NodeId) (i j : ℕ) (r s : Query) → child_at b n i ≡ Some c → child_at b n j ≡ Some e → i ≢ j → Passes b c r m s → IsOutside b e m
  passes_apart n c e m i j r s is also apart way =
      let under : IsUnder b d c m = passes_under b c m r s way d in
      record { other = not_sibling b d n c e m i j is also apart under; below = not_below b d n c e m i j is also apart under }

  -- what is asked on the way below a child is not its parent
  pub passes_below : (n c m : NodeId) (i : ℕ) (r s : Query) → child_at b n i ≡ Some c → Passes b c r m s → m ≢ n
  passes_below n c m i r s is way = not_parent b d n c m i is (passes_under b c m r s way d)
