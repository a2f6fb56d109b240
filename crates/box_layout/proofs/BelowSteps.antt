-- The children of a container one after the other, on the way of the boxes.
use Rattle.std.proofs.Common.{arith, refl, ◌≡◌, ℕ, ◌+◌, ◌≤◌, ◌<◌, ◌∷◌, ◌++◌, [], List, Bool, true, false, if◌then◌else◌, length, map, drop, sym, ap, ◌∙◌, subst, ℤ, Some, inl, inr, OnOk, Ok, Err}
use Rattle.std.specs.Prelude.{Contains, Option, Result, get_or}
use Rattle.std.proofs.lemmas.List.{get_or_default, get_or-map, length-map}
use Rattle.lunit.specs.declared.geometry.Area.{Area}
use Rattle.lunit.specs.declared.geometry.Rect.{Rect}
use Rattle.node_arena.specs.declared.number.NodeId.{NodeId}
use Rattle.node_arena.specs.Numbers.{child_at}
use Rattle.placing.specs.Children.{IsNext, IsTree}
use Rattle.placing.specs.Counted.{IsGivenSize}
use Rattle.placing.specs.Kept.{frame_of}
use Rattle.placing.specs.Nodes.{BareTrees, children_at, kid_at, kids_at, level_at, sight_at}
use Rattle.placing.specs.Seats.{IsSeat}
use Rattle.placing.specs.Walks.{State, bare_in}
use Rattle.placing.specs.declared.contexts.Above.{Above}
use Rattle.placing.specs.declared.contexts.Above.TheVariants as above
use Rattle.placing.specs.declared.node.Frame.{Frame as NodeFrame}
use Rattle.placing.proofs.Sights.{child_listed, count_children, count_kids}
use Rattle.tree_rules.specs.Answers.{Box, Frame, Pair}
use Rattle.tree_rules.specs.AskedQueries.{pairs_below}
use Rattle.tree_rules.specs.Chains.{has_chain}
use Rattle.tree_rules.specs.Frames.{moved_by}
use Rattle.tree_rules.specs.Places.{answers_of}
use Rattle.tree_rules.specs.GridSizes.{pairs_for}
use Rattle.tree_rules.specs.Queries.{Fits, IsGivenFor, is_container}
use Rattle.tree_rules.specs.declared.kind.NodeKind.{NodeKind}
use Rattle.tree_rules.specs.declared.query.Given.{Given}
use Rattle.tree_rules.specs.declared.query.Given.TheVariants as given
use Rattle.tree_rules.specs.declared.query.Query.{Query}
use Rattle.box_layout.specs.Asking.{frames_asked}
use Rattle.box_layout.specs.Beneath.{AreSeats, AreTelling, HasPairs, IsSeatTo, above_held, above_to, is_lower, pairs_held, pairs_to}
use Rattle.box_layout.specs.BoxesSeen.{AreNear, IsNearAt, IsNearRect, boxes_seen, boxes_with, frames_seen, pairs_seen, reach}
use Rattle.box_layout.specs.KidBoxes.{boxes_from}
use Rattle.box_layout.specs.LastBoxes.{AddsFew}
use Rattle.box_layout.specs.Paths.{AreKeptBelow, IsChildLaid, IsChildPart, IsLaidOut, IsLaidPart, passes_at}
use Rattle.box_layout.specs.Ranges.{IsWithin}
use Rattle.box_layout.specs.Stands.{StandBelow}
use Rattle.box_layout.specs.declared.child_seats.ChildSeats.{ChildSeats}
use Rattle.box_layout.proofs.BoxSteps.{boxes_more, frame_there, kept_through, leaf_boxes, passed_there, with_is}
use Rattle.box_layout.proofs.LaidWalks.{laid_then, part_then}
use Rattle.box_layout.proofs.NearBoxes.{near_child, near_rect, stands_at}
use Rattle.box_layout.proofs.Seating.{counts_here, pairs_here, seat_here}

-- what fits is a size of at least 0, where it is a size
pub given_some : (shared : Bool) (n : ℕ) (g : Given) → IsGivenFor true shared n g → IsGivenSize g
given_some true n (given.Size x) h = absurd h
given_some false n (given.Size x) h = h
given_some shared n (given.Tracks edges gap) h = tt
given_some shared n given.None h = tt

-- ---- a node itself

pub ok_then : {T E : Type 0} (r : Result T E) (P Q : Type 0) → (P → Q) → OnOk r P → OnOk r Q
ok_then (Ok x) P Q f h = f h
ok_then (Err e) P Q f h = tt

-- the box of a node, and those below it
pub leaf_told : (b : BareTrees) (n : NodeId) (reps : List Pair) (f : Frame) (at : ℤ × ℤ) (name : List ℕ) (rect : Rect) → is_container (sight_at b n).label.kind ≡ false → name ≡ (sight_at b n).label.name → rect ≡ moved_by at f.rect
    → (name, rect) ∷ [] ≡ boxes_with b n reps f at
leaf_told b n reps f at name rect leaf named moved =
    let none = leaf_boxes b n (frames_asked reps f.inline f.block) ((moved_by at f.rect).x, (moved_by at f.rect).y) leaf in
    λ i. (named i, moved i) ∷ sym none i

pub below_told : (b : BareTrees) (n : NodeId) (reps pairs : List Pair) → reps ≡ pairs → (f : Frame) (at : ℤ × ℤ) (name : List ℕ) (rect : Rect) → name ≡ (sight_at b n).label.name → rect ≡ moved_by at f.rect
    → (name, rect) ∷ boxes_seen b n (frames_asked reps f.inline f.block) (rect.x, rect.y) ≡ boxes_with b n pairs f at
below_told b n reps pairs same f at name rect named moved = λ i. (named i, moved i) ∷ boxes_seen b n (frames_asked (same i) f.inline f.block) ((moved i).x, (moved i).y)

pub near_told : (level : ℕ) (x y : ℤ) (f : Frame) (rect : Rect) → rect ≡ moved_by (x, y) f.rect → IsNearAt level x y f → IsNearRect rect
near_told level x y f rect moved near = subst IsNearRect (sym moved) (near_rect level x y f near)

-- What a sink took between two of its states, where these boxes are still to come of all: each number of it is near, and it came to the few
-- boxes too.
pub record HasTaken {S : Type 0} (adds : S → S → List Box → Type 0) (old now : S) (few_old few_now : Option (List Box)) (rest all : List Box) : Type 0 where
  pub part : List Box
  pub added : adds old now part
  pub few : AddsFew part few_old few_now
  pub whole : part ++ rest ≡ all
  pub near : AreNear part

pub kind_is : (k l : NodeKind) (t : Bool) → k ≡ l → t ≡ is_container k → is_container l ≡ t
kind_is k l t same told = ap is_container (sym same) ∙ sym told

-- what the child of a frame sees, once it is found whether it is a subgrid
module _ (seats : ChildSeats) (f : Frame) (lower : Bool) (is : lower ≡ is_lower f) (reps : List Pair) (same : reps ≡ (if lower then pairs_held seats.held else [])) where
  pub to_pairs : reps ≡ pairs_to seats f
  to_pairs = same ∙ ap (λ (t : Bool). if t then pairs_held seats.held else []) is

  pub seat_to : (b : BareTrees) (c : NodeId) (i : ℕ) → IsSeatTo b c seats i f → (up : Above) → up ≡ (if lower then above_held seats.held above.Nothing else above.Nothing) → (area : Area) → (i < length seats.areas → (d : Area) → area ≡ get_or seats.areas i d)
      → IsSeat (sight_at b c) reps up area
  seat_to b c i seated up above_is area area_is =
      subst (λ (r : List Pair). IsSeat (sight_at b c) r up area) (sym to_pairs)
      (subst (λ (u : Above). IsSeat (sight_at b c) (pairs_to seats f) u area) (sym (above_is ∙ ap (λ (t : Bool). if t then above_held seats.held above.Nothing else above.Nothing) is)) (seated area area_is))

-- ---- below a container

-- what is known of the children before the first of them is gone to
pub record IsBelow (b : BareTrees) (n : NodeId) (q : Query) (listed : List NodeFrame) (seats : ChildSeats) (x y : ℤ) : Type 0 where
  pub tree : IsTree b
  pub seen : frames_seen b n q ≡ map frame_of listed
  pub counted : length listed ≡ length (kids_at b n)
  pub stand : StandBelow (level_at b n) (frames_seen b n q)
  pub fit : (index : ℕ) (c : NodeId) (f : Frame) (rest : List Frame) → child_at b n index ≡ Some c → drop index (frames_seen b n q) ≡ f ∷ rest → is_container (sight_at b c).label.kind ≡ true → Fits (sight_at b c) (frames_asked (pairs_for (kid_at b c) (pairs_seen b n q)) f.inline f.block)
  pub tell : AreTelling b n (frames_seen b n q)
  pub seated : AreSeats b n seats
  pub pairs : HasPairs b n q seats
  pub some : 1 ≤ level_at b n
  pub place_x : IsWithin (reach (level_at b n)) x
  pub place_y : IsWithin (reach (level_at b n)) y

pub fit_seen : (b : BareTrees) (n : NodeId) (reps : List Pair) (inline block : Given) →
    ((index : ℕ) (c : NodeId) (f : Frame) (rest : List Frame) → child_at b n index ≡ Some c → drop index (((answers_of (sight_at b n)).down reps inline).frames block) ≡ f ∷ rest → is_container (sight_at b c).label.kind ≡ true
    → Fits (sight_at b c) (frames_asked (pairs_for (kid_at b c) (pairs_below (sight_at b n).label.kind (sight_at b n).label (sight_at b n).chain (kids_at b n) (frames_asked reps inline block))) f.inline f.block)) →
    (index : ℕ) (c : NodeId) (f : Frame) (rest : List Frame) → child_at b n index ≡ Some c → drop index (frames_seen b n (frames_asked reps inline block)) ≡ f ∷ rest → is_container (sight_at b c).label.kind ≡ true
    → Fits (sight_at b c) (frames_asked (pairs_for (kid_at b c) (pairs_seen b n (frames_asked reps inline block))) f.inline f.block)
unfolding frames_seen pairs_seen
fit_seen b n reps inline block fit = fit

pub frames_counted : (b : BareTrees) (n : NodeId) (frames listed : List NodeFrame) → map (λ (f : NodeFrame). f.child) frames ≡ children_at b n → listed ≡ frames → length listed ≡ length (kids_at b n)
frames_counted b n frames listed named same = ap length same ∙ sym (length-map frames (λ (f : NodeFrame). f.child)) ∙ ap length named ∙ count_children b n ∙ sym (count_kids b n)

-- the child that the frame of an index is of
pub child_framed : (b : BareTrees) (n : NodeId) (frames : List NodeFrame) (i : ℕ) (other : NodeFrame) → IsTree b → map (λ (f : NodeFrame). f.child) frames ≡ children_at b n → i < length frames → IsNext b n i (get_or frames i other).child
child_framed b n frames i other tree named within =
    tree.next n (get_or frames i other).child i
    (child_listed b n (map (λ (f : NodeFrame). f.child) frames) i other.child named (omega (arith, within, length-map frames (λ (f : NodeFrame). f.child)))
    ∙ ap (λ c. Some c) (get_or-map (λ (f : NodeFrame). f.child) frames i other other.child within))

-- what is known of a child with its frame and its seat
pub record IsTurn (b : BareTrees) (n : NodeId) (q : Query) (x y : ℤ) (i : ℕ) (c : NodeId) (reps : List Pair) (up : Above) (area : Area) (f : NodeFrame) : Type 0 where
  pub next : IsNext b n i c
  pub level : 1 ≤ level_at b c
  pub counts : length reps ≡ length (sight_at b c).chain
  pub seat : IsSeat (sight_at b c) reps up area
  pub near : IsNearAt (level_at b c) x y (frame_of f)
  pub fits : is_container (sight_at b c).label.kind ≡ true → Fits (sight_at b c) (frames_asked reps f.inline f.block)
  pub frame : drop i (frames_seen b n q) ≡ frame_of f ∷ drop (i + 1) (frames_seen b n q)
  pub pairs : reps ≡ pairs_for (kid_at b c) (pairs_seen b n q)
  pub passes : is_container (sight_at b c).label.kind ≡ true → Contains (passes_at b n q) (i, frames_asked reps f.inline f.block)

pub turn_here : (b : BareTrees) (n : NodeId) (outer : List Pair) (inline block : Given) (listed : List NodeFrame) (seats : ChildSeats) (x y : ℤ) → IsBelow b n (frames_asked outer inline block) listed seats x y → (i : ℕ) (c : NodeId) → IsNext b n i c → i < length listed
    → (f : NodeFrame) → f ≡ get_or listed i f → (lower : Bool) → lower ≡ is_lower (frame_of f) → (reps : List Pair) → reps ≡ (if lower then pairs_held seats.held else []) → (up : Above) → up ≡ (if lower then above_held seats.held above.Nothing else above.Nothing)
    → (area : Area) → (i < length seats.areas → (d : Area) → area ≡ get_or seats.areas i d) → IsTurn b n (frames_asked outer inline block) x y i c reps up area f
turn_here b n outer inline block listed seats x y below i c next within f at lower is reps same up above_is area area_is =
    let q = frames_asked outer inline block in
    let frame = frame_there (frames_seen b n q) listed i f below.seen within at in
    let chained : lower ≡ has_chain (sight_at b c).chain = is ∙ sym (below.tell i c (frame_of f) _ next.number frame) in
    let pairs = pairs_here b n c i seats below.seated next.number lower chained reps same q below.pairs in
    record {
      next = next;
      level = omega (arith, next.level);
      counts = counts_here b n c i seats below.seated next.number lower chained reps same;
      seat = seat_here b n c i seats below.seated next.number lower chained reps same up area above_is area_is;
      near = near_child (level_at b n) (level_at b c) x y (frame_of f) below.some next.level (below.tree.level c) below.place_x below.place_y (stands_at (level_at b n) (frames_seen b n q) _ i (frame_of f) below.stand frame);
      fits = λ container. subst (λ (r : List Pair). Fits (sight_at b c) (frames_asked r f.inline f.block)) (sym pairs) (below.fit i c (frame_of f) _ next.number frame container);
      frame = frame;
      pairs = pairs;
      passes = λ container. passed_there b n c reps outer inline block i (frame_of f) _ _ next.kids frame pairs container;
    }

module _ (b : BareTrees) (n : NodeId) (outer : List Pair) (inline block : Given) (listed : List NodeFrame) (seats : ChildSeats) (x y : ℤ) (below : IsBelow b n (frames_asked outer inline block) listed seats x y) (i : ℕ) (c : NodeId) (next : IsNext b n i c) (within : i < length listed)
    (f : NodeFrame) (at : f ≡ get_or listed i f) where
  pub turn_of : (other : Area) → IsTurn b n (frames_asked outer inline block) x y i c (pairs_to seats (frame_of f)) (above_to seats (frame_of f)) (get_or seats.areas i other) f
  turn_of other = turn_here b n outer inline block listed seats x y below i c next within f at (is_lower (frame_of f)) refl (pairs_to seats (frame_of f)) refl (above_to seats (frame_of f)) refl (get_or seats.areas i other) (λ there d. get_or_default seats.areas i other d there)

  pub seat_of : IsSeatTo b c seats i (frame_of f)
  seat_of area area_is = (turn_here b n outer inline block listed seats x y below i c next within f at (is_lower (frame_of f)) refl (pairs_to seats (frame_of f)) refl (above_to seats (frame_of f)) refl area area_is).seat

-- ---- after a child

pub child_same : (d : BareTrees) (c : NodeId) (r : Query) (old new : State) → IsChildLaid d c r old new → bare_in new ≡ bare_in old
child_same d c r old new (inl e) = ap bare_in e
child_same d c r old new (inr k) = k.1.walk.bare_same

pub part_same : (d : BareTrees) (c : NodeId) (r : Query) (old new : State) → IsChildPart d c r old new → bare_in new ≡ bare_in old
part_same d c r old new (inl e) = ap bare_in e
part_same d c r old new (inr k) = k.1.walk.bare_same

module _ (b d : BareTrees) (is : d ≡ b) (n : NodeId) (q : Query) (x y : ℤ) (i : ℕ) (c : NodeId) (reps : List Pair) (up : Above) (area : Area) (f : NodeFrame) (turn : IsTurn d n q x y i c reps up area f) where
  turn_now : IsTurn b n q x y i c reps up area f
  turn_now = subst (λ z. IsTurn z n q x y i c reps up area f) is turn

  pub laid_next : (s t u : State) → bare_in t ≡ d → IsLaidOut n q s t → IsChildLaid d c (frames_asked reps f.inline f.block) t u → IsLaidOut n q s u
  laid_next s t u here w x = laid_then d n c i turn.next q (frames_asked reps f.inline f.block) s t turn.passes here w u x

  pub part_next : (s t u : State) → bare_in t ≡ d → IsLaidOut n q s t → IsChildPart d c (frames_asked reps f.inline f.block) t u → IsLaidPart n q s u
  part_next s t u here w x = part_then d n c i turn.next q (frames_asked reps f.inline f.block) s t turn.passes here w u x

  pub value_next : (old new all : List Box) → new ≡ old ++ boxes_with d c reps (frame_of f) (x, y) → old ++ boxes_from (pairs_seen b n q) (x, y) (drop i (kids_at b n)) (drop i (frames_seen b n q)) ≡ all
      → new ++ boxes_from (pairs_seen b n q) (x, y) (drop (i + 1) (kids_at b n)) (drop (i + 1) (frames_seen b n q)) ≡ all
  value_next old new all grown so_far =
      boxes_more (pairs_seen b n q) (x, y) (kids_at b n) (frames_seen b n q) i (kid_at b c) (frame_of f) old new all turn_now.next.kids turn_now.frame
      (grown ∙ ap (λ z. old ++ boxes_with z c reps (frame_of f) (x, y)) is ∙ ap (λ l. old ++ l) (with_is b c (pairs_seen b n q) reps (frame_of f) (x, y) turn_now.pairs)) so_far

  pub quiet_next : (s t u : State) → (AreKeptBelow b n q s → t ≡ s) → ((is_container (sight_at d c).label.kind ≡ true → AreKeptBelow d c (frames_asked reps f.inline f.block) t) → u ≡ t) → AreKeptBelow b n q s → u ≡ s
  quiet_next s t u before quiet kept =
      quiet (λ container. subst (λ z. AreKeptBelow d c (frames_asked reps f.inline f.block) z) (sym (before kept)) (kept_through d n c q (frames_asked reps f.inline f.block) i s turn.next.number (turn.passes container) (subst (λ z. AreKeptBelow z n q s) (sym is) kept)))
      ∙ before kept
