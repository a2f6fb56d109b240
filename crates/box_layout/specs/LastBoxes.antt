-- The boxes of containers as they were found last, and when they are still those of the definitions (own rule).
use Rattle.std.specs.Prelude.{◌≡◌, ◌⊎◌, ◌++◌, ◌-◌, ◌+◌, ◌-ℤ◌, ◌^◌, ◌≤◌, ℕ, ℤ, pos, refl, true, List, [], ◌∷◌, Contains, Option, Some, None, IsSome, codes, drop, length, slice_get, take}
use Rattle.layout_cache.specs.Kept.{answer_to}
use Rattle.lunit.specs.declared.geometry.Rect.{Rect}
use Rattle.node_arena.specs.declared.number.NodeId.{NodeId}
use Rattle.placing.specs.declared.node.Answer.{Answer}
use Rattle.placing.specs.Nodes.{BareTrees, IsLive, sight_at}
use Rattle.tree_rules.specs.Answers.{Box}
use Rattle.tree_rules.specs.Frames.{moved_boxes}
use Rattle.tree_rules.specs.Queries.{is_container}
use Rattle.tree_rules.specs.declared.query.Query.{Query}
use Rattle.box_layout.specs.BoxesSeen.{boxes_seen}
use Rattle.box_layout.specs.Paths.{Passes}
use Rattle.box_layout.specs.Ranges.{IsWithin}
use Rattle.box_layout.specs.declared.last_boxes.Below.{Below}

-- ---- few boxes

-- These boxes come to others: where they are all there afterwards, they were before, and these stand after them.
abbrev pub AddsFew : List Box → Option (List Box) → Option (List Box) → Type 0
AddsFew more old None = Unit {0}
AddsFew more None (Some all) = ⊥
AddsFew more (Some front) (Some all) = all ≡ front ++ more

-- ---- what is kept

-- A container, the question for its frames, and its own box and those below it, in document order.
pub record Found : Type 0 where
  pub id : NodeId
  pub query : Query
  pub boxes : List Box

-- the boxes at the places from one up to another
abbrev pub boxes_between : List Box → ℕ → ℕ → List Box
boxes_between boxes start end = take (end - start) (drop start boxes)

abbrev pub found_at : List Box → Below → Found
found_at boxes b = record { id = b.id; query = b.query; boxes = boxes_between boxes b.start b.end }

-- all that is kept
abbrev pub all_found : List Box → List (Option Below) → List Found
all_found boxes [] = []
all_found boxes (None ∷ rest) = all_found boxes rest
all_found boxes (Some b ∷ rest) = found_at boxes b ∷ all_found boxes rest

-- each number of a rectangle has a magnitude of at most 2^50
pub record IsClose (r : Rect) : Type 0 where
  pub x : IsWithin (2 ^ 50) r.x
  pub y : IsWithin (2 ^ 50) r.y
  pub width : IsWithin (2 ^ 50) r.width
  pub height : IsWithin (2 ^ 50) r.height

-- the rectangle of each of these boxes is close: its numbers have a magnitude of at most 2^50
abbrev pub AreClose : List Box → Type 0
AreClose [] = Unit {0}
AreClose (b ∷ rest) = IsClose b.1 × AreClose rest

-- Each container that is listed is found by the slot of its number, and its boxes stand in the list of all, and are close.
pub record AreListed (slots : List ℕ) (containers : List (Option Below)) (boxes : List Box) : Type 0 where
  pub placed : (i : ℕ) (b : Below) → slice_get containers i ≡ Some (Some b) → slice_get slots b.id.slot ≡ Some i
  pub ordered : (i : ℕ) (b : Below) → slice_get containers i ≡ Some (Some b) → b.start ≤ b.end
  pub within : (i : ℕ) (b : Below) → slice_get containers i ≡ Some (Some b) → b.end ≤ length boxes
  pub close : (i : ℕ) (b : Below) → slice_get containers i ≡ Some (Some b) → AreClose (boxes_between boxes b.start b.end)

-- what stands in the slots stays there
abbrev pub KeepsSlots : List ℕ → List ℕ → Type 0
KeepsSlots before now = (i x : ℕ) → slice_get before i ≡ Some x → slice_get now i ≡ Some x

-- At most this container comes to those that are listed, and all stay listed as they should be. That it comes is not said: memory may be wanting.
pub record IsListed (b : Below) (slots : List ℕ) (containers : List (Option Below)) (later : List ℕ) (now : List (Option Below)) : Type 0 where
  pub listed : (boxes : List Box) → AreListed slots containers boxes → b.start ≤ b.end → b.end ≤ length boxes →
      AreClose (boxes_between boxes b.start b.end) → AreListed later now boxes
  pub all : (boxes : List Box) (f : Found) → Contains (all_found boxes now) f → Contains (all_found boxes containers) f ⊎ (f ≡ found_at boxes b)

-- what comes to it: a container with its own box, and those below it where they are few
pub record IsFoundOf (n : NodeId) (q : Query) (own : Box) (listed : Option (List Box)) (f : Found) : Type 0 where
  pub id : f.id ≡ n
  pub query : f.query ≡ q
  pub below : List Box
  pub few : listed ≡ Some below
  pub boxes : f.boxes ≡ own ∷ below

-- At most a container with its own box and those below it comes to those that are listed, and its boxes come to the list of all. Nothing
-- comes where they are not few.
pub record IsPut (n : NodeId) (q : Query) (own : Box) (few : Option (List Box)) (slots : List ℕ)
    (containers : List (Option Below)) (boxes : List Box) (later : List ℕ) (now : List (Option Below)) (longer : List Box) : Type
    0 where
  pub listed : AreListed slots containers boxes → AreListed later now longer
  pub all : AreListed slots containers boxes → (f : Found) → Contains (all_found longer now) f →
      Contains (all_found boxes containers) f ⊎ IsFoundOf n q own few f

-- ---- what is right

-- These are the box of a container, wherever it was, and those below it, by the answers of the definitions, and the questions on the way of these are kept.
pub record IsFound (b : BareTrees) (kept : NodeId → List (Query × Answer)) (f : Found) : Type 0 where
  pub container : is_container (sight_at b f.id).label.kind ≡ true
  pub own : Rect
  pub boxes : f.boxes ≡ ((sight_at b f.id).label.name, own) ∷ boxes_seen b f.id f.query (own.x, own.y)
  pub paths : (m : NodeId) (r : Query) → Passes b f.id f.query m r → IsSome (answer_to r (kept m))

-- the boxes that are kept of each container that is in the tree are right
abbrev pub AreFound : BareTrees → (NodeId → List (Query × Answer)) → List Found → Type 0
AreFound b kept all = (f : Found) → Contains all f → IsLive b f.id → IsFound b kept f

-- ---- what is handed over

-- The boxes of a container whose border box is this rectangle now: its own, and those below it as far away as it is itself.
abbrev pub boxes_now : List Box → Rect → List Box
boxes_now [] r = []
boxes_now (own ∷ below) r = (own.0, r) ∷ moved_boxes (r.x -ℤ own.1.x, r.y -ℤ own.1.y) below

-- ---- worked rows

-- A container that was 5 by 6 at (10, 20) with a box at (12, 23), and is 8 by 6 at (10, 50).
abbrev place : ℤ → ℤ → ℤ → ℤ → Rect
place x y width height = record { x = x; y = y; width = width; height = height }

moved_down : boxes_now ((codes "a", place (pos 10) (pos 20) (pos 5) (pos 6)) ∷ (codes "b", place (pos 12) (pos 23) (pos 1) (pos 2)) ∷ [])
    (place (pos 10) (pos 50) (pos 8) (pos 6))
    ≡ (codes "a", place (pos 10) (pos 50) (pos 8) (pos 6)) ∷ (codes "b", place (pos 12) (pos 53) (pos 1) (pos 2)) ∷ []
moved_down = refl
