-- The boxes below a container, child by child.
use Rattle.std.proofs.Common.{arith, ◌≡◌, ℕ, zero, suc, ◌+◌, ◌≤◌, ◌<◌, ◌∷◌, ◌++◌, [], List, Bool, true, false, if◌then◌else◌, length, map, drop, refl, sym, ap, ◌∙◌, subst, ℤ, Some, append_assoc, append-nil}
use Rattle.std.specs.Prelude.{Contains, get_or}
use Rattle.std.proofs.lemmas.Bool.{false≢true}
use Rattle.std.proofs.lemmas.List.{drop_all, drop_more}
use Rattle.std.proofs.lemmas.List.Elements.{Contains-append_left, Contains-append_right, Contains-push}
use Rattle.node_arena.specs.declared.number.NodeId.{NodeId}
use Rattle.node_arena.specs.Numbers.{child_at}
use Rattle.part_rules.specs.Lists.{zipped}
use Rattle.placing.specs.Kept.{frame_of}
use Rattle.placing.specs.Nodes.{BareTrees, kid_at, kids_at, sight_at}
use Rattle.placing.specs.Walks.{State}
use Rattle.placing.specs.declared.node.Frame.{Frame as NodeFrame}
use Rattle.tree_rules.specs.Answers.{Box, Frame, Kid, Pair}
use Rattle.tree_rules.specs.AskedQueries.{ToChild, all_of, frames_query, passed_to}
use Rattle.tree_rules.specs.Frames.{moved_by}
use Rattle.tree_rules.specs.GridSizes.{pairs_for}
use Rattle.tree_rules.specs.Orders.{numbered_from}
use Rattle.tree_rules.specs.Queries.{Answer, answer_of, child_frames, is_container}
use Rattle.tree_rules.specs.declared.kind.NodeKind.{NodeKind}
use Rattle.tree_rules.specs.declared.kind.NodeKind.TheVariants as kind
use Rattle.tree_rules.specs.declared.query.Given.{Given}
use Rattle.tree_rules.specs.declared.query.Query.{Query}
use Rattle.tree_rules.specs.Whole.{answers_by}
use Rattle.box_layout.specs.Asking.{frames_asked}
use Rattle.box_layout.specs.BoxesSeen.{boxes_seen, boxes_with, frames_seen, pairs_seen}
use Rattle.box_layout.specs.KidBoxes.{boxes_from, kid_boxes}
use Rattle.box_layout.specs.Paths.{AreKeptBelow, on, passes_at}
use Rattle.box_layout.proofs.KidFrames.{told_by}

-- ---- what is answered

frames_in : List Frame → Answer → List Frame
frames_in other (child_frames frames) = frames
frames_in other a = other

frames_are : (x y : List Frame) → child_frames x ≡ child_frames y → x ≡ y
unfolding frames_in
frames_are x y e = ap (frames_in x) e

pub frames_told : (b : BareTrees) (n : NodeId) (reps : List Pair) (inline block : Given) (frames : List NodeFrame) → child_frames (map frame_of frames) ≡ answer_of (sight_at b n) (frames_asked reps inline block) → frames_seen b n (frames_asked reps inline block) ≡ map frame_of frames
unfolding frames_seen
frames_told b n reps inline block frames e = sym (frames_are _ _ e)

-- the boxes below a container are those of its children
pub boxes_are : (b : BareTrees) (n : NodeId) (q : Query) (at : ℤ × ℤ) → boxes_seen b n q at ≡ boxes_from (pairs_seen b n q) at (kids_at b n) (frames_seen b n q)
unfolding boxes_seen frames_seen pairs_seen
boxes_are b n q at = told_by (sight_at b n).label.kind (sight_at b n).label (sight_at b n).chain (kids_at b n) q q.block at

-- none stand below a leaf
pub leaf_boxes : (b : BareTrees) (n : NodeId) (q : Query) (at : ℤ × ℤ) → is_container (sight_at b n).label.kind ≡ false → boxes_seen b n q at ≡ []
unfolding boxes_seen
leaf_boxes b n q at leaf = go (sight_at b n).label.kind leaf
  where
    go : (k : NodeKind) → is_container k ≡ false → ((answers_by k (sight_at b n).label (sight_at b n).chain (kids_at b n)).down q.reps q.inline).boxes q.block at ≡ []
    go kind.Grid e = absurd (false≢true (sym e))
    go kind.Flex e = absurd (false≢true (sym e))
    go (kind.Leaf content) e = refl

-- ---- one child more

pub with_is : (b : BareTrees) (c : NodeId) (pairs reps : List Pair) (f : Frame) (at : ℤ × ℤ) → reps ≡ pairs_for (kid_at b c) pairs → boxes_with b c reps f at ≡ kid_boxes pairs at (kid_at b c) f
unfolding boxes_seen
with_is b c pairs reps f at same =
    let rect = moved_by at f.rect in
    λ i. ((sight_at b c).label.name, rect) ∷ ((kid_at b c).answers.down (same i) f.inline).boxes f.block (rect.x, rect.y)

boxes_next : (pairs : List Pair) (at : ℤ × ℤ) (k : Kid) (kids : List Kid) (f : Frame) (frames : List Frame) → boxes_from pairs at (k ∷ kids) (f ∷ frames) ≡ kid_boxes pairs at k f ++ boxes_from pairs at kids frames
unfolding boxes_from
boxes_next pairs at k kids f frames = refl

pub boxes_more : (pairs : List Pair) (at : ℤ × ℤ) (kids : List Kid) (frames : List Frame) (i : ℕ) (k : Kid) (f : Frame) (old new all : List Box) → drop i kids ≡ k ∷ drop (i + 1) kids → drop i frames ≡ f ∷ drop (i + 1) frames
    → new ≡ old ++ kid_boxes pairs at k f → old ++ boxes_from pairs at (drop i kids) (drop i frames) ≡ all → new ++ boxes_from pairs at (drop (i + 1) kids) (drop (i + 1) frames) ≡ all
boxes_more pairs at kids frames i k f old new all next there grown so_far =
    ap (λ z. z ++ boxes_from pairs at (drop (i + 1) kids) (drop (i + 1) frames)) grown
    ∙ append_assoc old (kid_boxes pairs at k f) (boxes_from pairs at (drop (i + 1) kids) (drop (i + 1) frames))
    ∙ ap (λ z. old ++ z) (sym (boxes_next pairs at k (drop (i + 1) kids) f (drop (i + 1) frames)) ∙ (λ j. boxes_from pairs at (sym next j) (sym there j)))
    ∙ so_far

no_boxes : (pairs : List Pair) (at : ℤ × ℤ) (kids : List Kid) → boxes_from pairs at kids [] ≡ []
unfolding boxes_from
no_boxes pairs at [] = refl
no_boxes pairs at (k ∷ kids) = refl

pub boxes_all : (pairs : List Pair) (at : ℤ × ℤ) (kids : List Kid) (frames : List Frame) (i : ℕ) (done all : List Box) → length frames ≤ i → done ++ boxes_from pairs at (drop i kids) (drop i frames) ≡ all → done ≡ all
boxes_all pairs at kids frames i done all end so_far =
    sym (ap (λ l. done ++ boxes_from pairs at (drop i kids) l) (drop_all i frames end) ∙ ap (λ l. done ++ l) (no_boxes pairs at (drop i kids)) ∙ append-nil done) ∙ so_far

-- its frame
drop_map : {A B : Type 0} (f : A → B) (xs : List A) (i : ℕ) → drop i (map f xs) ≡ map f (drop i xs)
drop_map f xs zero = refl
drop_map f [] (suc i) = refl
drop_map f (x ∷ xs) (suc i) = drop_map f xs i

pub frame_there : (seen : List Frame) (frames : List NodeFrame) (i : ℕ) (f : NodeFrame) → seen ≡ map frame_of frames → i < length frames → f ≡ get_or frames i f → drop i seen ≡ frame_of f ∷ drop (i + 1) seen
frame_there seen frames i f same within is =
    ap (drop i) same ∙ drop_map frame_of frames i ∙ ap (map frame_of) (drop_more frames i f within) ∙ (λ j. frame_of (sym is j) ∷ sym (drop_map frame_of frames (i + 1)) j) ∙ ap (λ l. frame_of f ∷ drop (i + 1) l) (sym same)

-- ---- the question to it

passed_in : (pairs : List Pair) (kids rest : List Kid) (frames after : List Frame) (n i : ℕ) (k : Kid) (f : Frame) → drop i kids ≡ k ∷ rest → drop i frames ≡ f ∷ after → is_container k.label.kind ≡ true
    → Contains (all_of (zipped (passed_to pairs) (numbered_from n kids) frames)) (n + i, frames_query (pairs_for k pairs) f)
passed_in pairs [] rest frames after n zero k f e h c = absurd cc
passed_in pairs [] rest frames after n (suc i) k f e h c = absurd cc
passed_in pairs (x ∷ xs) rest [] after n zero k f e h c = absurd cc
passed_in pairs (x ∷ xs) rest [] after n (suc i) k f e h c = absurd cc
passed_in pairs (x ∷ xs) rest (g ∷ gs) after n zero k f e h c =
    let own : x ≡ k = cc in
    let its : g ≡ f = cc in
    let number : n ≡ n + 0 = omega arith in
    let later : List ToChild = all_of (zipped (passed_to pairs) (numbered_from (n + 1) xs) gs) in
    let asked : ToChild = (n, frames_query (pairs_for x pairs) g) in
    let container : is_container x.label.kind ≡ true = ap (λ (z : Kid). is_container z.label.kind) own ∙ c in
    subst (Contains (passed_to pairs (n, x) g ++ later)) (λ j. (number j, frames_query (pairs_for (own j) pairs) (its j)))
    (Contains-append_left (passed_to pairs (n, x) g) later asked (subst (λ (l : List ToChild). Contains l asked) (ap (λ (t : Bool). if t then asked ∷ [] else []) (sym container)) (Contains-push [] asked)))
passed_in pairs (x ∷ xs) rest (g ∷ gs) after n (suc i) k f e h c =
    let number : n + 1 + i ≡ n + suc i = omega arith in
    subst (λ (m : ℕ). Contains (all_of (zipped (passed_to pairs) (numbered_from n (x ∷ xs)) (g ∷ gs))) (m, frames_query (pairs_for k pairs) f)) number
    (Contains-append_right (passed_to pairs (n, x) g) (all_of (zipped (passed_to pairs) (numbered_from (n + 1) xs) gs)) (n + 1 + i, frames_query (pairs_for k pairs) f) (passed_in pairs xs rest gs after (n + 1) i k f e h c))

pub passed_there : (b : BareTrees) (n c : NodeId) (reps above_reps : List Pair) (inline block : Given) (i : ℕ) (f : Frame) (rest : List Kid) (after : List Frame)
    → drop i (kids_at b n) ≡ kid_at b c ∷ rest → drop i (frames_seen b n (frames_asked above_reps inline block)) ≡ f ∷ after → reps ≡ pairs_for (kid_at b c) (pairs_seen b n (frames_asked above_reps inline block)) → is_container (sight_at b c).label.kind ≡ true
    → Contains (passes_at b n (frames_asked above_reps inline block)) (i, frames_asked reps f.inline f.block)
unfolding frames_seen pairs_seen
passed_there b n c reps above_reps inline block i f rest after kid frame same container =
    let number : 0 + i ≡ i = omega arith in
    subst (λ (r : List Pair). Contains (passes_at b n (frames_asked above_reps inline block)) (i, frames_asked r f.inline f.block)) (sym same)
    (subst (λ (m : ℕ). Contains (passes_at b n (frames_asked above_reps inline block)) (m, frames_query (pairs_for (kid_at b c) (pairs_seen b n (frames_asked above_reps inline block))) f)) number
    (passed_in _ (kids_at b n) rest _ after 0 i (kid_at b c) f kid frame container))

-- what is kept below a container is kept below its children
pub kept_through : (b : BareTrees) (n c : NodeId) (q r : Query) (i : ℕ) (s : State) → child_at b n i ≡ Some c → Contains (passes_at b n q) (i, r) → AreKeptBelow b n q s → AreKeptBelow b c r s
kept_through b n c q r i s child passed kept = λ m p passes. kept m p (on n c m q r p i child passed passes)
