-- The boxes of a container that no change reached are still those that were found last.
use Rattle.std.proofs.Common.{◌≡◌, ℕ, ℤ, ◌≤◌, Bool, true, false, List, ◌∷◌, Option, Some, None, IsSome, is_some, refl, sym, ap, subst, ◌∙◌, arith, inl, inr}
use Rattle.std.specs.Prelude.{◌⊎◌, Contains, if◌then◌else◌}
use Rattle.plain_tree.specs.Trees.{leafless, tree}
use Rattle.node_arena.specs.declared.number.NodeId.{NodeId}
use Rattle.node_arena.specs.Edits.{graft, moved, nothing}
use Rattle.node_arena.specs.Numbers.{EachNode, IsDistinct, Part, child_at, is_among, part_at, replaced, same, times, value_at, value_of}
use Rattle.node_arena.proofs.Edited.{each_edited, each_put}
use Rattle.node_arena.proofs.Parts.{each_weaker, numbered}
use Rattle.node_arena.proofs.Same.{part_some, part_there}
use Rattle.layout_cache.specs.Kept.{answer_to}
use Rattle.layout_cache.specs.Reach.{reached_by}
use Rattle.doc_text.specs.Edits.{with_kind}
use Rattle.doc_text.specs.Growth.{holds}
use Rattle.doc_text.specs.Label.{Label}
use Rattle.doc_text.specs.Texts.{Word}
use Rattle.edit_journal.specs.declared.change.Change.{Change}
use Rattle.edit_journal.specs.declared.change.Change.TheVariants as change
use Rattle.edit_journal.specs.Changes.{tree_of_node, with_style}
use Rattle.tree_rules.specs.AskedQueries.{passes_from}
use Rattle.tree_rules.specs.Answers.{Box}
use Rattle.tree_rules.specs.Chains.{above_of}
use Rattle.tree_rules.specs.Places.{Seen, answers_of}
use Rattle.tree_rules.specs.Queries.{is_container}
use Rattle.tree_rules.specs.Whole.{kids_of}
use Rattle.tree_rules.specs.declared.query.Query.{Query}
use Rattle.box_layout.specs.BoxesSeen.{boxes_seen}
use Rattle.box_layout.specs.LastBoxes.{Found, IsFound}
use Rattle.box_layout.specs.Paths.{Passes, its_own, on, passes_at}
use Rattle.placing.specs.declared.node.Node.{Node}
use Rattle.placing.specs.Kept.{kept_at}
use Rattle.placing.specs.Nodes.{Bare, BareTrees, NodeTrees, bare, bare_of, children_at, sight_at}
use Rattle.placing.proofs.Bares.{bare_there, distinct_bare, height_bare, live_bare, tops_bare}
use Rattle.reach_frame.specs.Local.{IsLocal, IsRooted}
use Rattle.reach_frame.proofs.CalmBelow.{child_not_found}
use Rattle.reach_frame.proofs.Frame.{not_both, same_child}
use Rattle.reach_frame.proofs.Rooted.{rooted}
use Rattle.reach_frame.proofs.Unreached.{node_sub, same_sight}
use Rattle.page_tree.specs.Forgotten.{has_name_in, is_brought}
use Rattle.page_tree.specs.Documents.{plain_trees}
use Rattle.page_tree.specs.Left.{left_in}
use Rattle.page_tree.specs.Restyled.{Styles, restyled}
use Rattle.page_tree.specs.Shapes.{IsChanged, Relabels}
use Rattle.page_tree.proofs.Reaching.{IsChange, IsWhole, bare_left, each_at, height_left, kept_calm, there_in, times_left, tops_left}
use Rattle.page_tree.proofs.Locals.{own_names}
use Rattle.page_tree.proofs.Relabels.{each_mapped}
use Rattle.page_tree.proofs.Shifted.{each_moved, each_styled}

-- ---- what was found of a node that is not reached
-- what was found last of a container that still stands and is not of these numbers still holds
abbrev pub FindsOn : NodeTrees → NodeTrees → List NodeId → Type 0
FindsOn t u list = (f : Found) → IsFound (bare t) (kept_at t) f → IsSome (part_at t f.id) → IsSome (part_at u f.id) → is_among f.id list ≡ false → IsFound (bare u) (kept_at u) f

module _ (ts : List NodeId) (grid placing : Bool) (marks : Word → Bool) (root : NodeId) (t u : NodeTrees) (wt : IsWhole root t) (wu : IsWhole root u) (c : IsChange ts grid marks t u) where
  abbrev found : List NodeId
  found = reached_by node_sub t ts grid

  abbrev left : NodeTrees
  left = left_in grid placing found u

  -- a node of both trees that is not reached
  abbrev Stays : NodeId → Type 0
  Stays n = (IsSome (part_at t n) × IsSome (part_at left n)) × (is_among n found ≡ false)

  distinct_left : IsDistinct left
  distinct_left n = let one = wu.distinct n in omega (arith, times_left grid placing found u n, one)

  local_left : IsLocal (λ n. is_among n ts) grid (bare t) (bare left)
  local_left = subst (λ b. IsLocal (λ n. is_among n ts) grid (bare t) b) (sym (bare_left grid placing found u)) c.local

  rooted_old : IsRooted root (bare t)
  rooted_old = rooted root (bare t) (distinct_bare t wt.distinct) (omega (arith, wt.low, height_bare t)) (tops_bare t ∙ wt.tops)

  rooted_left : IsRooted root (bare left)
  rooted_left = rooted root (bare left) (distinct_bare left distinct_left) (omega (arith, wu.low, height_left grid placing found u, height_bare left)) (tops_bare left ∙ tops_left grid placing found u ∙ wu.tops)

  seen_same : (n : NodeId) → Stays n → (sight_at (bare left) n ≡ sight_at (bare t) n) × (children_at (bare left) n ≡ children_at (bare t) n)
  seen_same n s =
      same_sight t left wt.distinct distinct_left root wt.tops (tops_left grid placing found u ∙ wu.tops) wt.low (omega (arith, height_left grid placing found u, wu.low)) ts grid local_left n s.0.0 s.0.1 s.1

  value_there : (n : NodeId) → IsSome (part_at left n) → IsSome (value_at u n)
  value_there n l = by (part_at u n) refl
    where
      by : (o : Option (Part Node)) → part_at u n ≡ o → IsSome (value_of (part_at u n))
      by None f = let none : 1 ≤ times n u = omega (arith, part_there left n l, times_left grid placing found u n) in let some = part_some u n none in absurd cc
      by (Some q) f = ap (λ o. is_some (value_of o)) f

  kept_same : (n : NodeId) → Stays n → kept_at left n ≡ kept_at t n
  kept_same n s = kept_calm ts grid placing marks root t u wt wu c n s.0.0 (value_there n s.0.1) s.1

  -- it passes the same questions on, and its children are such nodes
  passes_same : (n : NodeId) (q : Query) → Stays n → passes_at (bare left) n q ≡ passes_at (bare t) n q
  passes_same n q s = ap (λ (v : Seen). passes_from q.ask v.label v.chain (kids_of (above_of v.label v.chain v.below) 0 v.below) q) (seen_same n s).0

  child_before : (n m : NodeId) (i : ℕ) → Stays n → child_at (bare left) n i ≡ Some m → child_at (bare t) n i ≡ Some m
  child_before n m i s e = same_child (bare left) (bare t) n m i (seen_same n s).1 e

  child_stays : (n m : NodeId) (i : ℕ) → Stays n → child_at (bare left) n i ≡ Some m → Stays m
  child_stays n m i s e =
      let old = child_before n m i s e in (
        (sym (live_bare t m) ∙ (rooted_old.tree.next n m i old).live, sym (live_bare left m) ∙ (rooted_left.tree.next n m i e).live),
        child_not_found root t rooted_old wt.distinct ts grid n m i old s.0.0 s.1,
      )

  passes_before : (n : NodeId) (q : Query) (m : NodeId) (r : Query) → Passes (bare left) n q m r → Stays n → Passes (bare t) n q m r × Stays m
  passes_before _ _ _ _ (its_own n q) s = (its_own n q, s)
  passes_before _ _ _ _ (on n k m q r p index is passed rest) s =
      let below = passes_before k r m p rest (child_stays n k index s is) in
      (on n k m q r p index (child_before n k index s is) (subst (λ l. Contains l (index, r)) (passes_same n q s) passed) below.0, below.1)

  boxes_same : (n : NodeId) (q : Query) → sight_at (bare left) n ≡ sight_at (bare t) n → ◌≡◌ {A = ℤ × ℤ → List Box} (boxes_seen (bare left) n q) (boxes_seen (bare t) n q)
  unfolding boxes_seen
  boxes_same n q e = ap (λ (v : Seen). λ at. ((answers_of v).down q.reps q.inline).boxes q.block at) e

  pub finds_on : FindsOn t left found
  finds_on f was old new calm =
      let s : Stays f.id = ((old, new), calm) in
      let seen = (seen_same f.id s).0 in
      record {
        container = ap (λ (v : Seen). is_container v.label.kind) seen ∙ was.container;
        own = was.own;
        boxes = was.boxes ∙ (λ i. ((sym seen i).label.name, was.own) ∷ sym (boxes_same f.id f.query seen) i (was.own.x, was.own.y));
        paths = paths;
      }
    where
      paths : (m : NodeId) (r : Query) → Passes (bare left) f.id f.query m r → IsSome (answer_to r (kept_at left m))
      paths m r way =
          let before = passes_before f.id f.query m r way ((old, new), calm) in
          subst (λ l. IsSome (answer_to r l)) (sym (kept_same m before.1)) (was.paths m r before.0)

-- ---- which nodes stood there before
-- the name is that of a node that the change brought
abbrev brings : Change → Word → Bool
brings (change.Style name values) w = false
brings (change.Take name) w = false
brings (change.Bring parent index node) w = holds (tree_of_node node) w
brings (change.Shift name parent index) w = false
brings (change.Kind name kind) w = false
brings (change.View width height) w = false

abbrev Stood : Change → NodeTrees → NodeId × Node → Type 0
Stood e t x = IsSome (part_at t x.0) ⊎ (brings e x.1.name ≡ true)

-- a fact of numbers alone
module _ (P : NodeId → Type 0) where
  relabelled : (id : NodeId) (v : Node) (styles : Styles) (t : NodeTrees) → EachNode (λ x. P x.0) t → EachNode (λ x. P x.0) (restyled styles (replaced id v t))
  relabelled id v styles t own = each_styled (λ x. P x.0) styles (replaced id v t) (λ x z p. p) (each_mapped (λ x. P x.0) (λ k (w : Node). if same k id then v else w) t own)

all_stood : (e : Change) (t u : NodeTrees) → IsDistinct t → IsChanged e t u → EachNode (Stood e t) u
all_stood e t u d h = by e h
  where
    own : EachNode (λ x. IsSome (part_at t x.0)) t
    own = each_weaker (λ x. value_at t x.0 ≡ Some x.1) (λ x. IsSome (part_at t x.0)) t (λ x e. there_in t x.0 x.1 e) (numbered t d).each

    old : (e : Change) (s : NodeTrees) → EachNode (λ x. IsSome (part_at t x.0)) s → EachNode (Stood e t) s
    old e s each = each_weaker (λ x. IsSome (part_at t x.0)) (Stood e t) s (λ x l. inl l) each

    valued : (e : Change) (name : Word) (f : Label → Label) → Relabels name f t u → EachNode (Stood e t) u
    valued e name f h = subst (EachNode (Stood e t)) (sym h.is) (old e (restyled h.styles (replaced h.id h.value t)) (relabelled (λ n. IsSome (part_at t n)) h.id h.value h.styles t own))

    by : (e : Change) → IsChanged e t u → EachNode (Stood e t) u
    by (change.Style name values) h = valued (change.Style name values) name (with_style values) h
    by (change.Take name) h =
        let P : NodeId × Node → Type 0 = Stood (change.Take name) t in
        subst (EachNode P) (sym h.is) (each_edited P h.id nothing t (λ x below p b. tt) (old (change.Take name) t own))
    by (change.Bring parent index node) h =
        let P : NodeId × Node → Type 0 = Stood (change.Bring parent index node) t in
        let new : EachNode P h.new = each_weaker (λ x. holds (plain_trees h.new) x.1.name ≡ true) P h.new (λ x m. inr (ap (λ s. holds s x.1.name) (sym h.plain) ∙ m)) (own_names h.new) in
        subst (EachNode P) (sym h.is) (each_edited P h.upper (graft index h.new) t (λ x below p b. (p, (each_put P index h.new below new b, tt))) (old (change.Bring parent index node) t own))
    by (change.Shift name parent index) h =
        let P : NodeId × Node → Type 0 = λ x. IsSome (part_at t x.0) in
        subst (EachNode (Stood (change.Shift name parent index) t)) (sym h.is) (old (change.Shift name parent index) (restyled h.styles (moved h.id h.to index t)) (each_styled P h.styles (moved h.id h.to index t) (λ x z p. p) (each_moved P h.id h.to index t own)))
    by (change.Kind name kind) h = valued (change.Kind name kind) name (with_kind kind) h
    by (change.View width height) h = subst (EachNode (Stood (change.View width height) t)) (sym h) (old (change.View width height) t own)

-- the numbers that are brought are those of the brought names
name_brought : (e : Change) (w : NodeTrees) (n : NodeId) (v : Node) → value_at w n ≡ Some v → is_brought e w n ≡ brings e v.name
name_brought (change.Style name values) w n v e = refl
name_brought (change.Take name) w n v e = refl
name_brought (change.Bring parent index node) w n v e = ap (has_name_in (tree_of_node node)) e
name_brought (change.Shift name parent index) w n v e = refl
name_brought (change.Kind name kind) w n v e = refl
name_brought (change.View width height) w n v e = refl

-- a node of a changed tree that the change did not bring stood there before
pub stood_before : (e : Change) (t u w : NodeTrees) → IsDistinct t → IsChanged e t u → bare w ≡ bare u → (n : NodeId) → IsSome (part_at w n) → is_brought e w n ≡ false → IsSome (part_at t n)
stood_before e t u w d h alike n live old = at (value_at w n) (value_at u n) refl refl (some_value w live) (some_value u (sym (live_bare u n) ∙ ap (λ (b : BareTrees). is_some (part_at b n)) (sym alike) ∙ live_bare w n ∙ live))
  where
    some_value : (s : NodeTrees) → IsSome (part_at s n) → IsSome (value_at s n)
    some_value s l = by (part_at s n) refl l
      where
        by : (o : Option (Part Node)) → part_at s n ≡ o → IsSome o → IsSome (value_of (part_at s n))
        by None f l = absurd cc
        by (Some q) f l = ap (λ o. is_some (value_of o)) f

    some_bare : (a b : Bare) → Some a ≡ Some b → a ≡ b
    some_bare a b e = cc

    stood : (v : Node) → brings e v.name ≡ false → Stood e t (n, v) → IsSome (part_at t n)
    stood v f (inl l) = l
    stood v f (inr m) = absurd (not_both (brings e v.name) m f)

    at : (o p : Option Node) → value_at w n ≡ o → value_at u n ≡ p → IsSome o → IsSome p → IsSome (part_at t n)
    at None p f g l m = absurd cc
    at (Some a) None f g l m = absurd cc
    at (Some a) (Some b) f g l m =
        let name = ap (λ (v : Bare). v.name) (some_bare (bare_of a) (bare_of b) (bare_there w n a (sym f) ∙ ap (λ (s : BareTrees). value_at s n) alike ∙ sym (bare_there u n b (sym g)))) in
        stood b (ap (brings e) (sym name) ∙ sym (name_brought e w n a f) ∙ old) (each_at (Stood e t) u n b (all_stood e t u d h) g)
