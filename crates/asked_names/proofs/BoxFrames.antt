-- Each box but the root's is that of a child, by the frame that it has on the path of the boxes.
use Rattle.std.proofs.Common.{◌≡◌, refl, sym, ap, ◌∙◌, subst, arith, ℕ, zero, suc, ◌+◌, ◌<◌, ◌≤◌, ℤ, pos, Bool, true, false, List, [], ◌∷◌, ◌++◌, drop, Option, Some, None, IsSome, inl, inr}
use Rattle.std.specs.Prelude.{◌⊎◌, Contains, if◌then◌else◌}
use Rattle.std.proofs.lemmas.Bool.{false≢true}
use Rattle.std.proofs.lemmas.List.Elements.{Contains-append_cases}
use Rattle.plain_tree.specs.Trees.{leafless, tree}
use Rattle.node_arena.specs.declared.number.NodeId.{NodeId}
use Rattle.node_arena.specs.Numbers.{IsDistinct, child_at, top_numbers}
use Rattle.node_arena.proofs.Same.{part_here, same_from}
use Rattle.placing.specs.Children.{IsNext}
use Rattle.placing.specs.Nodes.{BareTrees, kid_at, kids_at, sight_at, size_at}
use Rattle.placing.proofs.Sights.{child_some, count_kids, next_there, sight_part, top_chain}
use Rattle.tree_rules.specs.Answers.{Box, Frame, Kid, Pair}
use Rattle.tree_rules.specs.AskedQueries.{ToChild, all_of, frames_query, passed_to, passes_from}
use Rattle.tree_rules.specs.Boxes.{boxes, root_framed, root_of}
use Rattle.tree_rules.specs.Chains.{Link, above_of}
use Rattle.tree_rules.specs.Frames.{moved_by}
use Rattle.tree_rules.specs.GridSizes.{pairs_for}
use Rattle.tree_rules.specs.Labels.{Label}
use Rattle.tree_rules.specs.Orders.{numbered_from}
use Rattle.tree_rules.specs.Queries.{is_container}
use Rattle.tree_rules.specs.Whole.{answers_by, kids_of, step}
use Rattle.tree_rules.specs.declared.kind.NodeKind.{NodeKind}
use Rattle.tree_rules.specs.declared.kind.NodeKind.TheVariants as kind
use Rattle.tree_rules.specs.declared.query.Ask.TheVariants as ask
use Rattle.tree_rules.specs.declared.query.Query.{Query}
use Rattle.part_rules.specs.Lists.{zipped}
use Rattle.box_layout.specs.BoxesSeen.{bare_boxes, boxes_seen, frames_seen, pairs_seen}
use Rattle.box_layout.specs.KidBoxes.{boxes_from, kid_boxes}
use Rattle.box_layout.specs.Paths.{IsOnPath, its_own, passes_at}
use Rattle.asked_names.specs.Asked.{name_in}
use Rattle.asked_names.proofs.Containers.{passed_at, passes_framed, passes_more, root_framed_first, within}
use Rattle.asked_names.proofs.KidFrames.{told_by}
use Rattle.asked_names.proofs.Pigeons.{in_cases, in_front, none_in}

-- ---- one node

boxes_are : (b : BareTrees) (n : NodeId) (q : Query) (at : ℤ × ℤ) → boxes_seen b n q at ≡ boxes_from (pairs_seen b n q) at (kids_at b n) (frames_seen b n q)
unfolding boxes_seen frames_seen pairs_seen
boxes_are b n q at = told_by (sight_at b n).label.kind (sight_at b n).label (sight_at b n).chain (kids_at b n) q q.block at

leaf_boxes : (k : NodeKind) (x : Label) (chain : List Link) (kids : List Kid) (q : Query) (at : ℤ × ℤ) → is_container k ≡ false → ((answers_by k x chain kids).down q.reps q.inline).boxes q.block at ≡ []
leaf_boxes kind.Grid x chain kids q at e = absurd (false≢true (sym e))
leaf_boxes kind.Flex x chain kids q at e = absurd (false≢true (sym e))
leaf_boxes (kind.Leaf content) x chain kids q at e = refl

-- the boxes below a child with this frame
abbrev beneath : List Pair → ℤ × ℤ → Kid → Frame → List Box
beneath pairs at k f = (k.answers.down (pairs_for k pairs) f.inline).boxes f.block ((moved_by at f.rect).x, (moved_by at f.rect).y)

-- a box of one of these children, or of what is below it
record IsBelow (pairs : List Pair) (at : ℤ × ℤ) (kids : List Kid) (frames : List Frame) (box : Box) : Type 0 where
  index : ℕ
  kid : Kid
  more : List Kid
  frame : Frame
  others : List Frame
  kids_are : drop index kids ≡ kid ∷ more
  frames_are : drop index frames ≡ frame ∷ others
  one : Contains (kid_boxes pairs at kid frame) box

below_there : (pairs : List Pair) (at : ℤ × ℤ) (kids : List Kid) (frames : List Frame) (box : Box) → Contains (boxes_from pairs at kids frames) box → IsBelow pairs at kids frames box
unfolding boxes_from
below_there pairs at [] frames box h = absurd (none_in {A = Box} box h)
below_there pairs at (k ∷ kids) [] box h = absurd (none_in {A = Box} box h)
below_there pairs at (k ∷ kids) (f ∷ frames) box h = go (Contains-append_cases (kid_boxes pairs at k f) (boxes_from pairs at kids frames) box h) (below_there pairs at kids frames box)
  where
    go : Contains (kid_boxes pairs at k f) box ⊎ Contains (boxes_from pairs at kids frames) box → (Contains (boxes_from pairs at kids frames) box → IsBelow pairs at kids frames box) → IsBelow pairs at (k ∷ kids) (f ∷ frames) box
    go (inl here) rec = record { index = 0; kid = k; more = kids; frame = f; others = frames; kids_are = refl; frames_are = refl; one = here }
    go (inr there) rec = let r = rec there in record { index = suc r.index; kid = r.kid; more = r.more; frame = r.frame; others = r.others; kids_are = r.kids_are; frames_are = r.frames_are; one = r.one }

-- a box is that of a child, by its frame on the path
pub record IsFrameBox (b : BareTrees) (width height : ℤ) (box : Box) : Type 0 where
  pub parent : NodeId
  pub query : Query
  pub on_path : IsOnPath b width height parent query
  pub index : ℕ
  pub child : NodeId
  pub is : child_at b parent index ≡ Some child
  pub frame : Frame
  pub others : List Frame
  pub there : drop index (frames_seen b parent query) ≡ frame ∷ others
  pub name : box.0 ≡ name_in b child
  pub across : box.1.width ≡ frame.rect.width

first_is : {A : Type 0} (x y : A) (xs ys : List A) → x ∷ xs ≡ y ∷ ys → x ≡ y
first_is x y xs ys e = cc

module _ (b : BareTrees) (d : IsDistinct b) (width height : ℤ) (box : Box) where
  path_framed : (n : NodeId) (q : Query) → IsOnPath b width height n q → q.ask ≡ ask.Frames
  path_framed n q p = passes_framed b p.root n p.first q p.passes (root_framed_first width height (sight_at b p.root).label (sight_at b p.root).below p.first p.own)

  child_path : (n c : NodeId) (q : Query) (i : ℕ) (f : Frame) (others : List Frame) → IsOnPath b width height n q → child_at b n i ≡ Some c → drop i (frames_seen b n q) ≡ f ∷ others → is_container (sight_at b c).label.kind ≡ true
      → IsOnPath b width height c (frames_query (pairs_for (kid_at b c) (pairs_seen b n q)) f)
  unfolding frames_seen pairs_seen
  child_path n c q i f others p is there container =
      let next : IsNext b n i c = next_there b d n c i is in
      let x = (sight_at b n).label in
      let chain = (sight_at b n).chain in
      let pairs = pairs_seen b n q in
      let r = frames_query (pairs_for (kid_at b c) pairs) f in
      let number : 0 + i ≡ i = omega arith in
      let passed : Contains {X = ToChild} (passes_at b n q) (i, r) =
      subst (λ z. Contains {X = ToChild} (passes_from z x chain (kids_at b n) q) (i, r)) (sym (path_framed n q p))
      (subst (λ (m : ℕ). Contains {X = ToChild} (all_of (zipped (passed_to pairs) (numbered_from 0 (kids_at b n)) (frames_seen b n q))) (m, r)) number
      (passed_at pairs (kids_at b n) (drop (i + 1) (kids_at b n)) (frames_seen b n q) others 0 i (kid_at b c) f next.kids there container)) in
      record { root = p.root; top = p.top; first = p.first; own = p.own; passes = passes_more b p.root n c p.first q r i p.passes is passed }

  -- a box below a node, where those below its children are known
  Known : NodeId → Type 0
  Known n = (c : NodeId) (r : Query) (to : ℤ × ℤ) → size_at b c < size_at b n → IsOnPath b width height c r → Contains (boxes_seen b c r to) box → IsFrameBox b width height box

  with_child : (n c : NodeId) (q : Query) (at : ℤ × ℤ) (below : IsBelow (pairs_seen b n q) at (kids_at b n) (frames_seen b n q) box) → IsOnPath b width height n q → child_at b n below.index ≡ Some c → Known n → IsFrameBox b width height box
  unfolding boxes_seen Known
  with_child n c q at below p e rec =
      let next : IsNext b n below.index c = next_there b d n c below.index e in
      let pairs = pairs_seen b n q in
      let one : Contains (kid_boxes pairs at (kid_at b c) below.frame) box =
      subst (λ (z : Kid). Contains (kid_boxes pairs at z below.frame) box) (first_is below.kid (kid_at b c) below.more (drop (below.index + 1) (kids_at b n)) (sym below.kids_are ∙ next.kids)) below.one in
      go (in_cases {A = Box} ((kid_at b c).label.name, moved_by at below.frame.rect) box (beneath pairs at (kid_at b c) below.frame) one)
    where
      lower : (t : Bool) → is_container (sight_at b c).label.kind ≡ t → Contains (beneath (pairs_seen b n q) at (kid_at b c) below.frame) box → IsFrameBox b width height box
      lower true container there =
          rec c (frames_query (pairs_for (kid_at b c) (pairs_seen b n q)) below.frame) ((moved_by at below.frame.rect).x, (moved_by at below.frame.rect).y) (next_there b d n c below.index e).smaller
          (child_path n c q below.index below.frame below.others p e below.frames_are container) there
      lower false leaf there =
          absurd (none_in {A = Box} box (subst (λ l. Contains l box)
          (leaf_boxes (sight_at b c).label.kind (sight_at b c).label (sight_at b c).chain (kids_at b c) (frames_query (pairs_for (kid_at b c) (pairs_seen b n q)) below.frame) ((moved_by at below.frame.rect).x, (moved_by at below.frame.rect).y) leaf) there))

      go : (((kid_at b c).label.name, moved_by at below.frame.rect) ≡ box) ⊎ Contains (beneath (pairs_seen b n q) at (kid_at b c) below.frame) box → IsFrameBox b width height box
      go (inl same) =
          record {
            parent = n;
            query = q;
            on_path = p;
            index = below.index;
            child = c;
            is = e;
            frame = below.frame;
            others = below.others;
            there = below.frames_are;
            name = ap (λ (z : Box). z.0) (sym same);
            across = ap (λ (z : Box). z.1.width) (sym same);
          }
      go (inr there) = lower (is_container (sight_at b c).label.kind) refl there

  step_there : (n : NodeId) (q : Query) (at : ℤ × ℤ) → IsOnPath b width height n q → Contains (boxes_seen b n q at) box → Known n → IsFrameBox b width height box
  step_there n q at p h rec =
      let below = below_there (pairs_seen b n q) at (kids_at b n) (frames_seen b n q) box (subst (λ l. Contains l box) (boxes_are b n q at) h) in
      child_of below (child_at b n below.index) refl (child_some b n below.index (omega (arith, within (kids_at b n) below.more below.index below.kid below.kids_are, count_kids b n)))
    where
      child_of : (below : IsBelow (pairs_seen b n q) at (kids_at b n) (frames_seen b n q) box) (o : Option NodeId) → child_at b n below.index ≡ o → IsSome o → IsFrameBox b width height box
      child_of below None e s = absurd cc
      child_of below (Some c) e s = with_child n c q at below p e rec

  box_by : (fuel : ℕ) (n : NodeId) (q : Query) (at : ℤ × ℤ) → size_at b n ≤ fuel → IsOnPath b width height n q → Contains (boxes_seen b n q at) box → IsFrameBox b width height box
  unfolding Known
  box_by zero n q at few p h = step_there n q at p h (λ c r to less path there. absurd (omega (arith, less, few)))
  box_by (suc fuel) n q at few p h = step_there n q at p h (λ c r to less path there. box_by fuel c r to (omega (arith, less, few)) path there)

  -- ---- the whole tree

  module _ (root : NodeId) (top : top_numbers b ≡ root ∷ []) where
    root_boxes : (u : BareTrees) → top_numbers u ≡ root ∷ [] → bare_boxes width height u ≡ boxes width height (sight_at u root).label (sight_at u root).below
    root_boxes leafless e = absurd cc
    root_boxes (tree x below after) e =
        let seen = sight_part (tree x below after) root (x.1, below) (part_here x below after root (record { is = same_from x.0 root (first_is x.0 root (top_numbers after) [] e) })) in
        λ j. boxes width height (sym seen.its_label j) (sym seen.its_trees j)

    -- the root's frame, and the boxes below it as one that has these links
    abbrev g : Frame
    g = (root_framed width height (root_of (sight_at b root).label (sight_at b root).below)).frame

    abbrev to : ℤ × ℤ
    to = ((moved_by (pos 0, pos 0) g.rect).x, (moved_by (pos 0, pos 0) g.rect).y)

    abbrev lower : List Link → List Box
    lower chain = ((step (sight_at b root).label chain (kids_of (above_of (sight_at b root).label chain (sight_at b root).below) 0 (sight_at b root).below)).down [] g.inline).boxes g.block to

    abbrev asked : ToChild
    asked = (0, frames_query [] g)

    pub box_there : Contains (bare_boxes width height b) box → (box.0 ≡ name_in b root) ⊎ IsFrameBox b width height box
    unfolding boxes_seen
    box_there h = go (in_cases {A = Box} ((sight_at b root).label.name, moved_by (pos 0, pos 0) g.rect) box (lower [] ++ []) (subst (λ l. Contains l box) (root_boxes b top) h))
      where
        further : (t : Bool) → is_container (sight_at b root).label.kind ≡ t → Contains (lower (sight_at b root).chain) box → IsFrameBox b width height box
        further true container there =
            box_by (size_at b root) root asked.1 to (omega arith)
            (record { root = root; top = top; first = asked.1; own = subst (λ (t : Bool). Contains (if t then asked ∷ [] else []) asked) (sym container) (in_front asked []); passes = its_own root asked.1 }) there
        further false leaf there = absurd (none_in {A = Box} box (subst (λ l. Contains l box) (leaf_boxes (sight_at b root).label.kind (sight_at b root).label (sight_at b root).chain (kids_at b root) asked.1 to leaf) there))

        rest_of : Contains (lower []) box ⊎ Contains [] box → IsFrameBox b width height box
        rest_of (inl there) = further (is_container (sight_at b root).label.kind) refl (subst (λ (chain : List Link). Contains (lower chain) box) (sym (top_chain b root top)) there)
        rest_of (inr none) = absurd (none_in {A = Box} box none)

        go : (((sight_at b root).label.name, moved_by (pos 0, pos 0) g.rect) ≡ box) ⊎ Contains (lower [] ++ []) box → (box.0 ≡ name_in b root) ⊎ IsFrameBox b width height box
        go (inl same) = inl (ap (λ (z : Box). z.0) (sym same))
        go (inr there) = inr (rest_of (Contains-append_cases (lower []) [] box there))
