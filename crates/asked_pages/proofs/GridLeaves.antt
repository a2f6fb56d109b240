-- The leaves of the grids of a document, by the numbers of a page's nodes.
use Rattle.std.proofs.Common.{◌≡◌, refl, sym, ap, subst, ◌∙◌, arith, ℕ, zero, suc, ◌≤◌, ◌+◌, Bool, true, false, List, [], ◌∷◌, ◌++◌, Option, Some, None, is_some, inl, inr, true≢false}
use Rattle.std.specs.Prelude.{◌&&◌, ◌⊎◌, Contains, if◌then◌else◌, slice_get, ⊤}
use Rattle.std.proofs.lemmas.Bool.{and_from, or_left, or_right}
use Rattle.std.proofs.lemmas.List.Elements.{Contains-append_cases, Contains-push_cases}
use Rattle.plain_tree.specs.Trees.{Trees, leafless, map_trees, tree}
use Rattle.node_arena.specs.declared.number.NodeId.{NodeId}
use Rattle.node_arena.specs.Numbers.{EachNode, IsDistinct, Part, below_of, child_at, mapped, number_of, part_at, second, times, tops, value_at, value_of, way_up}
use Rattle.node_arena.proofs.Parts.{below_within, not_here, top_there}
use Rattle.node_arena.proofs.Same.{by_place, part_after, part_below, part_here, part_there, same_from, same_is, same_refl}
use Rattle.node_arena.proofs.Standing.{some_is, way_after, way_below, way_head, way_here}
use Rattle.tree_rules.specs.Chains.{is_grid_kind}
use Rattle.tree_rules.specs.Labels.{Label}
use Rattle.tree_rules.specs.declared.kind.NodeKind.{NodeKind}
use Rattle.tree_rules.specs.declared.kind.NodeKind.TheVariants as kind
use Rattle.doc_text.specs.Documents as doc
use Rattle.placing.specs.Keeping.{is_leaf}
use Rattle.placing.specs.Kept.{kept_at, kept_of}
use Rattle.placing.specs.Nodes.{NodeTrees, bare, bare_of, label_in, label_of_bare, sight_at}
use Rattle.placing.specs.declared.node.Node.{Node}
use Rattle.placing.proofs.Bares.{bare_there, child_bare}
use Rattle.placing.proofs.Sights.{sight_label}
use Rattle.asked_names.specs.Asked.{name_in}
use Rattle.page_tree.specs.Documents.{kind_of, plain_trees}
use Rattle.asked_pages.specs.Leaves.{PassesUp, has_leaf_by, leaves_among, leaves_of_grids}

-- ---- a child has one parent

module _ {A : Type 0} where
  way_top : (u : Trees (NodeId × A)) (i : ℕ) (top : NodeId × Part A) → slice_get (tops u) i ≡ Some top → times top.0 u ≤ 1 → way_up u top.0 ≡ top.0 ∷ []
  way_top leafless i top e d = absurd cc
  way_top (tree x below after) zero top e d = way_here x below after top.0 (record { is = same_from x.0 top.0 (ap (λ z. z.0) (some_is _ top e)) })
  way_top (tree x below after) (suc i) top e d =
      let w = top_there after i top e in
      way_after x below after top.0 (record { not = not_here x below after top.0 d (omega arith); none = omega arith }) ∙ way_top after i top e (omega arith)

  way_child : (t : Trees (NodeId × A)) (n : NodeId) (p : Part A) (i : ℕ) (top : NodeId × Part A) → part_at t n ≡ Some p → slice_get (tops p.1) i ≡ Some top → times top.0 t ≤ 1 → way_up t top.0 ≡ top.0 ∷ way_up t n
  way_child leafless n p i top e f d = absurd cc
  way_child (tree x below after) n p i top e f d =
      let there : 1 ≤ times top.0 p.1 = top_there p.1 i top f in
      by_place x below n
      (λ h. let b : below ≡ p.1 = ap below_of (sym (part_here x below after n h) ∙ e) in
      let w : times top.0 below ≡ times top.0 p.1 = ap (times top.0) b in
      way_below x below after top.0 (record { not = not_here x below after top.0 d (omega arith); in_below = omega arith })
      ∙ ap (λ l. l ++ x.0 ∷ []) (way_top below i top (ap (λ u. slice_get (tops u) i) b ∙ f) (omega arith))
      ∙ (λ j. top.0 ∷ same_is x.0 n h.is j ∷ []) ∙ ap (λ l. top.0 ∷ l) (sym (way_here x below after n h)))
      (λ h. let q = sym (part_below x below after n h) ∙ e in
      let w : 1 ≤ times top.0 below = omega (arith, below_within below n top.0 p q) in
      way_below x below after top.0 (record { not = not_here x below after top.0 d (omega arith); in_below = w })
      ∙ ap (λ l. l ++ x.0 ∷ []) (way_child below n p i top q f (omega arith))
      ∙ ap (λ l. top.0 ∷ l) (sym (way_below x below after n h)))
      (λ h. let q = sym (part_after x below after n h) ∙ e in
      let w : 1 ≤ times top.0 after = omega (arith, below_within after n top.0 p q) in
      way_after x below after top.0 (record { not = not_here x below after top.0 d (omega arith); none = omega arith })
      ∙ way_child after n p i top q f (omega arith) ∙ ap (λ l. top.0 ∷ l) (sym (way_after x below after n h)))

  parent_second : (t : Trees (NodeId × A)) (n c : NodeId) (i : ℕ) → IsDistinct t → child_at t n i ≡ Some c → second (way_up t c) ≡ Some n
  parent_second t n c i d e = at (part_at t n) refl e
    where
      top : (p : Part A) → part_at t n ≡ Some p → (o : Option (NodeId × Part A)) → slice_get (tops p.1) i ≡ o → number_of o ≡ Some c → second (way_up t c) ≡ Some n
      top p f None g h = absurd cc
      top p f (Some x) g h =
          ap (λ m. second (way_up t m)) (sym (some_is x.0 c h)) ∙ ap second (way_child t n p i x f g (d x.0)) ∙ way_head t n x.0 (part_there t n (ap is_some f))

      at : (o : Option (Part A)) → part_at t n ≡ o → number_of (slice_get (tops (below_of o)) i) ≡ Some c → second (way_up t c) ≡ Some n
      at None f g = absurd cc
      at (Some p) f g = top p f (slice_get (tops p.1) i) refl g

  pub one_parent : (t : Trees (NodeId × A)) (n m c : NodeId) (i j : ℕ) → IsDistinct t → child_at t n i ≡ Some c → child_at t m j ≡ Some c → m ≡ n
  one_parent t n m c i j d e f = some_is m n (sym (parent_second t m c j d f) ∙ parent_second t n c i d e)

-- ---- each node stands under its number

module _ (whole : NodeTrees) where
  AreParts : NodeTrees → Type 0
  AreParts leafless = ⊤
  AreParts (tree x below after) = (part_at whole x.0 ≡ Some (x.1, below)) × (AreParts below × AreParts after)

parts_weaker : (s u t : NodeTrees) → ((n : NodeId) (p : Part Node) → part_at s n ≡ Some p → part_at u n ≡ Some p) → AreParts s t → AreParts u t
unfolding AreParts
parts_weaker s u leafless h p = tt
parts_weaker s u (tree x below after) h p = (h x.0 (x.1, below) p.0, (parts_weaker s u below h p.1.0, parts_weaker s u after h p.1.1))

parts_there : (t : NodeTrees) → IsDistinct t → AreParts t t
unfolding AreParts
parts_there leafless d = tt
parts_there (tree x below after) d = (
  part_here x below after x.0 (record { is = same_refl x.0 }),
  (
    parts_weaker below (tree x below after) below
        (λ n p e. let w = part_there below n (ap is_some e) in let f = d n in
        part_below x below after n (record { not = not_here x below after n f (omega arith); in_below = w }) ∙ e)
        (parts_there below (λ c. let f = d c in omega arith)),
    parts_weaker after (tree x below after) after
        (λ n p e. let w = part_there after n (ap is_some e) in let f = d n in
        part_after x below after n (record { not = not_here x below after n f (omega arith); none = omega arith }) ∙ e)
        (parts_there after (λ c. let f = d c in omega arith)),
  ),
)

-- ---- what a name keeps

same_leaf : (k : NodeKind) → doc.is_leaf (kind_of k) ≡ is_leaf k
same_leaf kind.Grid = refl
same_leaf kind.Flex = refl
same_leaf (kind.Leaf content) = refl

grid_is : (k : NodeKind) → is_grid_kind k ≡ true → k ≡ kind.Grid
grid_is kind.Grid e = refl
grid_is kind.Flex e = absurd (true≢false (sym e))
grid_is (kind.Leaf content) e = absurd (true≢false (sym e))

label_there : (t : NodeTrees) (n : NodeId) (v : Node) → value_at t n ≡ Some v → label_of_bare (bare_of v) ≡ (sight_at (bare t) n).label
label_there t n v e = sight_label (bare t) n (bare_of v) (bare_there t n v (sym e))

name_there : (t : NodeTrees) (n : NodeId) (v : Node) → value_at t n ≡ Some v → v.name ≡ name_in (bare t) n
unfolding label_of_bare
name_there t n v e = ap (λ (x : Label). x.name) (label_there t n v e)

each_at : (P : NodeId × Node → Type 0) (t : NodeTrees) (n : NodeId) (v : Node) → EachNode P t → value_at t n ≡ Some v → P (n, v)
each_at P leafless n v each e = absurd cc
each_at P (tree x below after) n v each e =
    by_place x below n
    (λ p. subst P (λ i. (same_is x.0 n p.is i, some_is x.1 v (ap value_of (sym (part_here x below after n p)) ∙ e) i)) each.0)
    (λ p. each_at P below n v each.1.0 (ap value_of (sym (part_below x below after n p)) ∙ e))
    (λ p. each_at P after n v each.1.1 (ap value_of (sym (part_after x below after n p)) ∙ e))

pub emptied : (test : List ℕ → Bool) (t : NodeTrees) → EachNode (λ x. test x.1.name ≡ true → x.1.kept ≡ []) t → (n : NodeId) → test (name_in (bare t) n) ≡ true → kept_at t n ≡ []
unfolding kept_at
emptied test t each n passes = at (value_at t n) refl
  where
    at : (o : Option Node) → value_at t n ≡ o → kept_of o ≡ []
    at None e = refl
    at (Some v) e = each_at (λ (x : NodeId × Node). test x.1.name ≡ true → x.1.kept ≡ []) t n v each e (ap test (name_there t n v e) ∙ passes)

-- ---- a leaf of a grid

module _ (test : List ℕ → Bool) (whole : NodeTrees) where
  -- a leaf at the top of these trees
  record IsTop (t : NodeTrees) (x : Label) : Type 0 where
    index : ℕ
    child : NodeId
    number : number_of (slice_get (tops t) index) ≡ Some child
    label : (sight_at (bare whole) child).label ≡ x
    leaf : is_leaf x.kind ≡ true
    has : test x.name ≡ true → has_leaf_by test (plain_trees t) ≡ true

  one_there : (y x : Label) (c : Bool) → Contains (if c then y ∷ [] else []) x → (c ≡ true) × (y ≡ x)
  one_there y x false h = absurd (omega (arith, h.1))
  one_there y x true h = at (Contains-push_cases [] y x h)
    where
      at : Contains [] x ⊎ (y ≡ x) → (true ≡ true) × (y ≡ x)
      at (inl none) = absurd (omega (arith, none.1))
      at (inr e) = (refl, e)

  top_found : (t : NodeTrees) (x : Label) → AreParts whole t → Contains (leaves_among (map_trees label_in (mapped (λ n v. bare_of v) t))) x → IsTop t x
  unfolding AreParts label_of_bare
  top_found leafless x p h = absurd (omega (arith, h.1))
  top_found (tree y below after) x p h = at (top_found after x p.1.1) (Contains-append_cases (if is_leaf y.1.kind then label_in (y.0, bare_of y.1) ∷ [] else []) (leaves_among (map_trees label_in (mapped (λ n v. bare_of v) after))) x h)
    where
      at : (Contains (leaves_among (map_trees label_in (mapped (λ n v. bare_of v) after))) x → IsTop after x) → Contains (if is_leaf y.1.kind then label_in (y.0, bare_of y.1) ∷ [] else []) x ⊎ Contains (leaves_among (map_trees label_in (mapped (λ n v. bare_of v) after))) x →
          IsTop (tree y below after) x
      at found (inl here) =
          let one = one_there (label_in (y.0, bare_of y.1)) x (is_leaf y.1.kind) here in
          record {
            index = 0;
            child = y.0;
            number = refl;
            label = sym (label_there whole y.0 y.1 (ap value_of p.0)) ∙ one.1;
            leaf = ap (λ (l : Label). is_leaf l.kind) (sym one.1) ∙ one.0;
            has = λ passes. or_left _ _ (and_from _ _ (same_leaf y.1.kind ∙ one.0) (ap (λ (l : Label). test l.name) one.1 ∙ passes));
          }
      at found (inr later) =
          let rest = found later in
          record { index = suc rest.index; child = rest.child; number = rest.number; label = rest.label; leaf = rest.leaf; has = λ passes. or_right (doc.is_leaf (kind_of y.1.kind) && test y.1.name) _ (rest.has passes) }

  -- a leaf that is a child of a grid
  pub record IsGridLeaf (x : Label) : Type 0 where
    pub parent : NodeId
    pub index : ℕ
    pub child : NodeId
    pub is : child_at (bare whole) parent index ≡ Some child
    pub grid : (sight_at (bare whole) parent).label.kind ≡ kind.Grid
    pub label : (sight_at (bare whole) child).label ≡ x
    pub leaf : is_leaf x.kind ≡ true
    pub up : test x.name ≡ true → test (name_in (bare whole) parent) ≡ true

  leaf_found : (t : NodeTrees) (x : Label) → AreParts whole t → PassesUp test (plain_trees t) → Contains (leaves_of_grids (map_trees label_in (mapped (λ n v. bare_of v) t))) x → IsGridLeaf x
  unfolding AreParts label_of_bare
  leaf_found leafless x p u h = absurd (omega (arith, h.1))
  leaf_found (tree y below after) x p u h =
      at (leaf_found below x p.1.0 u.1.0) (leaf_found after x p.1.1 u.1.1) (Contains-append_cases (if is_grid_kind y.1.kind then leaves_among (map_trees label_in (mapped (λ n v. bare_of v) below)) else []) _ x h)
    where
      own : (c : Bool) → is_grid_kind y.1.kind ≡ c → Contains (if c then leaves_among (map_trees label_in (mapped (λ n v. bare_of v) below)) else []) x → IsGridLeaf x
      own false e k = absurd (omega (arith, k.1))
      own true e k =
          let top = top_found below x p.1.0 k in
          record {
            parent = y.0;
            index = top.index;
            child = top.child;
            is = child_bare whole y.0 top.index ∙ ap (λ o. number_of (slice_get (tops (below_of o)) top.index)) p.0 ∙ top.number;
            grid = ap (λ (l : Label). l.kind) (sym (label_there whole y.0 y.1 (ap value_of p.0))) ∙ grid_is y.1.kind e;
            label = top.label;
            leaf = top.leaf;
            up = λ passes. ap test (sym (name_there whole y.0 y.1 (ap value_of p.0))) ∙ u.0 (top.has passes);
          }

      rest : (Contains (leaves_of_grids (map_trees label_in (mapped (λ n v. bare_of v) below))) x → IsGridLeaf x) → (Contains (leaves_of_grids (map_trees label_in (mapped (λ n v. bare_of v) after))) x → IsGridLeaf x)
          → Contains (leaves_of_grids (map_trees label_in (mapped (λ n v. bare_of v) below))) x ⊎ Contains (leaves_of_grids (map_trees label_in (mapped (λ n v. bare_of v) after))) x → IsGridLeaf x
      rest f g (inl lower) = f lower
      rest f g (inr later) = g later

      at : (Contains (leaves_of_grids (map_trees label_in (mapped (λ n v. bare_of v) below))) x → IsGridLeaf x) → (Contains (leaves_of_grids (map_trees label_in (mapped (λ n v. bare_of v) after))) x → IsGridLeaf x)
          → Contains (if is_grid_kind y.1.kind then leaves_among (map_trees label_in (mapped (λ n v. bare_of v) below)) else []) x ⊎
          Contains (leaves_of_grids (map_trees label_in (mapped (λ n v. bare_of v) below)) ++ leaves_of_grids (map_trees label_in (mapped (λ n v. bare_of v) after))) x → IsGridLeaf x
      at f g (inl k) = own (is_grid_kind y.1.kind) refl k
      at f g (inr k) = rest f g (Contains-append_cases (leaves_of_grids (map_trees label_in (mapped (λ n v. bare_of v) below))) _ x k)

pub grid_leaf : (test : List ℕ → Bool) (t : NodeTrees) (x : Label) → IsDistinct t → PassesUp test (plain_trees t) → Contains (leaves_of_grids (map_trees label_in (bare t))) x → IsGridLeaf test t x
unfolding bare
grid_leaf test t x d u h = leaf_found test t t x (parts_there t d) u h
