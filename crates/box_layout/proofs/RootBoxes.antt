-- The boxes of the whole tree are those of its root and of all below it.
use Rattle.std.proofs.Common.{arith, ◌≡◌, ◌≤◌, ◌∷◌, ◌++◌, [], List, Bool, true, false, if◌then◌else◌, length, sym, ap, ◌∙◌, subst, ℤ, pos, append-nil}
use Rattle.std.specs.Prelude.{Contains, Option, Some}
use Rattle.std.proofs.lemmas.List.Elements.{Contains-append_right, Contains-push}
use Rattle.node_arena.specs.declared.number.NodeId.{NodeId}
use Rattle.node_arena.specs.Numbers.{same, top_numbers, upwards, way_up}
use Rattle.node_arena.proofs.Same.{same_from}
use Rattle.plain_tree.specs.Trees.{leafless, map_trees, tree}
use Rattle.placing.specs.Nodes.{Bare, BareTrees, label_in, level_at, seen_or_nothing, sight_at}
use Rattle.placing.specs.Walks.{State}
use Rattle.tree_rules.specs.Answers.{Box, Frame, Pair}
use Rattle.tree_rules.specs.AskedQueries.{ToChild, block_query, inline_query, root_query}
use Rattle.tree_rules.specs.Boxes.{boxes, root_framed, root_inline, root_of, root_width}
use Rattle.tree_rules.specs.Chains.{above_of}
use Rattle.tree_rules.specs.Frames.{moved_by}
use Rattle.tree_rules.specs.Places.{Seen, above_root, first_of_two, seen_below}
use Rattle.tree_rules.specs.Queries.{is_container}
use Rattle.tree_rules.specs.Whole.{kids_of, step}
use Rattle.box_layout.specs.Asking.{frames_asked}
use Rattle.box_layout.specs.BoxesSeen.{bare_boxes, boxes_seen, boxes_with}
use Rattle.box_layout.specs.Paths.{AreKeptBelow, IsAllKept, IsPathKept, first_asked}

-- ---- the root

-- what the rules see of it
pub record IsRootOf (b : BareTrees) (root : NodeId) : Type 0 where
  pub boxes : (width height : ℤ) → bare_boxes width height b ≡ boxes width height (sight_at b root).label (sight_at b root).below
  pub level : level_at b root ≡ 1

module _ (x : NodeId × Bare) (below after : BareTrees) (root : NodeId) (its : x.0 ≡ root) where
  here : same x.0 root ≡ true
  here = same_from x.0 root its

  sight_here : sight_at (tree x below after) root ≡ record { label = label_in x; chain = []; below = map_trees label_in below }
  unfolding sight_at
  sight_here =
      let lower : Option Seen = seen_below label_in (λ (y : NodeId × Bare). same y.0 root) (above_of (label_in x) [] (map_trees label_in below)) 0 below in
      let later : Option Seen = seen_below label_in (λ (y : NodeId × Bare). same y.0 root) above_root 1 after in
      ap (λ (t : Bool). seen_or_nothing (if t then Some (record { label = label_in x; chain = []; below = map_trees label_in below }) else first_of_two lower later)) here

  level_here : level_at (tree x below after) root ≡ 1
  level_here = ap (λ (t : Bool). length (if t then x.0 ∷ [] else upwards x.0 (way_up below root) (way_up after root))) here

first_is : (a b : NodeId) (more : List NodeId) → a ∷ more ≡ b ∷ [] → a ≡ b
first_is a b more e = cc

pub root_is : (b : BareTrees) (root : NodeId) → top_numbers b ≡ root ∷ [] → IsRootOf b root
root_is leafless root e = absurd cc
root_is (tree x below after) root e =
    let its : x.0 ≡ root = first_is x.0 root (top_numbers after) e in
    record {
      boxes = λ width height. ap (λ (s : Seen). boxes width height s.label s.below) (sym (sight_here x below after root its));
      level = level_here x below after root its;
    }

-- ---- its boxes

pub boxes_told : (b : BareTrees) (root : NodeId) (width height : ℤ) (f : Frame) → (sight_at b root).chain ≡ [] → f ≡ (root_framed width height (root_of (sight_at b root).label (sight_at b root).below)).frame
    → boxes_with b root [] f (pos 0, pos 0) ≡ boxes width height (sight_at b root).label (sight_at b root).below
unfolding boxes_seen
boxes_told b root width height f top is =
    let s = sight_at b root in
    let r = root_of s.label s.below in
    let g = (root_framed width height r).frame in
    let rect = moved_by (pos 0, pos 0) g.rect in
    ap (λ (z : Frame). boxes_with b root [] z (pos 0, pos 0)) is
    ∙ (λ i. (s.label.name, rect) ∷ ((step s.label (top i) (kids_of (above_of s.label (top i) s.below) 0 s.below)).down [] g.inline).boxes g.block (rect.x, rect.y))
    ∙ ap (λ l. (s.label.name, rect) ∷ l) (sym (append-nil ((r.answers.down [] g.inline).boxes g.block (rect.x, rect.y))))

-- ---- the question for its frames

asked_of_root : (b : BareTrees) (root : NodeId) (width height : ℤ) (f : Frame) → is_container (sight_at b root).label.kind ≡ true → f ≡ (root_framed width height (root_of (sight_at b root).label (sight_at b root).below)).frame
    → Contains (root_query width height (sight_at b root).label (sight_at b root).below) (0, frames_asked [] f.inline f.block)
asked_of_root b root width height f container is =
    let s = sight_at b root in
    let g = (root_framed width height (root_of s.label s.below)).frame in
    let asked : ToChild = (0, frames_asked [] g.inline g.block) in
    subst (λ (z : Frame). Contains (root_query width height s.label s.below) (0, frames_asked [] z.inline z.block)) (sym is)
    (subst (λ (l : List ToChild). Contains l asked) (ap (λ (t : Bool). if t then asked ∷ [] else []) (sym container)) (Contains-push [] asked))

pub first_of_root : (b : BareTrees) (root : NodeId) (width height : ℤ) (f : Frame) → is_container (sight_at b root).label.kind ≡ true → f ≡ (root_framed width height (root_of (sight_at b root).label (sight_at b root).below)).frame
    → Contains (first_asked width height (sight_at b root).label (sight_at b root).below) (0, frames_asked [] f.inline f.block)
first_of_root b root width height f container is =
    let s = sight_at b root in
    let r = root_of s.label s.below in
    let before : List ToChild = (0, inline_query false []) ∷ (0, block_query false [] (root_inline r (root_width width r))) ∷ [] in
    Contains-append_right before (root_query width height s.label s.below) (0, frames_asked [] f.inline f.block) (asked_of_root b root width height f container is)

-- where the path is kept, so is what it leads to
pub path_kept : (b : BareTrees) (root : NodeId) (width height : ℤ) (f : Frame) (s : State) → top_numbers b ≡ root ∷ [] → f ≡ (root_framed width height (root_of (sight_at b root).label (sight_at b root).below)).frame
    → IsPathKept b width height s → is_container (sight_at b root).label.kind ≡ true → AreKeptBelow b root (frames_asked [] f.inline f.block) s
path_kept b root width height f s top is kept container =
    λ m r passes. kept m r (record { root = root; top = top; first = frames_asked [] f.inline f.block; own = asked_of_root b root width height f container is; passes = passes })

-- ---- all of it

pub value_all : (b d : BareTrees) (root : NodeId) (width height : ℤ) (reps : List Pair) (f : Frame) (x y : ℤ) (old new : List Box) → d ≡ b → top_numbers b ≡ root ∷ [] → (sight_at b root).chain ≡ [] → reps ≡ [] → x ≡ pos 0 → y ≡ pos 0 → old ≡ []
    → f ≡ (root_framed width height (root_of (sight_at b root).label (sight_at b root).below)).frame → new ≡ old ++ boxes_with d root reps f (x, y) → new ≡ bare_boxes width height b
value_all b d root width height reps f x y old new same top alone none zero_x zero_y empty is grown =
    grown
    ∙ (λ i. empty i ++ boxes_with (same i) root (none i) f (zero_x i, zero_y i))
    ∙ boxes_told b root width height f alone is
    ∙ sym ((root_is b root top).boxes width height)

pub level_some : (b : BareTrees) (root : NodeId) → top_numbers b ≡ root ∷ [] → 1 ≤ level_at b root
level_some b root top = omega (arith, (root_is b root top).level)

-- where all is kept nothing changes
pub quiet_all : (b d : BareTrees) (root : NodeId) (width height : ℤ) (f : Frame) (s t u : State) → d ≡ b → top_numbers b ≡ root ∷ [] → f ≡ (root_framed width height (root_of (sight_at b root).label (sight_at b root).below)).frame → (IsAllKept b width height s → t ≡ s)
    → ((is_container (sight_at d root).label.kind ≡ true → AreKeptBelow d root (frames_asked [] f.inline f.block) t) → u ≡ t) → IsAllKept b width height s → u ≡ s
quiet_all b d root width height f s t u same top is before quiet kept =
    quiet (λ container. subst (λ z. AreKeptBelow d root (frames_asked [] f.inline f.block) z) (sym (before kept)) (subst (λ z. AreKeptBelow z root (frames_asked [] f.inline f.block) s) (sym same)
    (path_kept b root width height f s top is kept.path (subst (λ z. is_container (sight_at z root).label.kind ≡ true) same container)))) ∙ before kept
