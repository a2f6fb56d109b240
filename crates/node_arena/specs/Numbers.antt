-- What a caller sees of an arena's tree: values, each with its number.
use Rattle.std.specs.Prelude.{◌≡◌, ℕ, ◌+◌, ◌≤◌, ◌==◌, ◌&&◌, ◌||◌, Bool, true, false, List, [], ◌∷◌, ◌++◌, Option, Some, None, slice_get, if◌then◌else◌, ⊤}
use Rattle.plain_tree.specs.Trees.{Trees, leafless, tree, count_of}
use Rattle.node_arena.specs.declared.number.NodeId.{NodeId}

-- two numbers have the same slot and the same turn
unfoldable pub same : NodeId → NodeId → Bool
same a b = (a.slot == b.slot) && (a.turn == b.turn)

-- a number's value and the trees below it
abbrev pub Part : Type 0 → Type 0
Part A = A × Trees (NodeId × A)

-- each value by a function of its number and itself
abbrev pub mapped : {A B : Type 0} → (NodeId → A → B) → Trees (NodeId × A) → Trees (NodeId × B)
mapped f leafless = leafless
mapped f (tree x below after) = tree (x.0, f x.0 x.1) (mapped f below) (mapped f after)

abbrev pub one : Bool → ℕ
one true = 1
one false = 0

-- a way that goes on to a parent, or the other way where there is none
abbrev pub upwards : NodeId → List NodeId → List NodeId → List NodeId
upwards parent [] other = other
upwards parent (n ∷ way) other = n ∷ way ++ parent ∷ []

module _ {A : Type 0} where
  abbrev pub either : Option (Part A) → Option (Part A) → Option (Part A)
  either None other = other
  either (Some part) other = Some part

  -- what stands under a number, the first in the tree's order
  abbrev pub part_at : Trees (NodeId × A) → NodeId → Option (Part A)
  part_at leafless n = None
  part_at (tree x below after) n = if same x.0 n then Some (x.1, below) else either (part_at below n) (part_at after n)

  abbrev pub value_of : Option (Part A) → Option A
  value_of None = None
  value_of (Some part) = Some part.0

  abbrev pub below_of : Option (Part A) → Trees (NodeId × A)
  below_of None = leafless
  below_of (Some part) = part.1

  abbrev pub value_at : Trees (NodeId × A) → NodeId → Option A
  value_at t n = value_of (part_at t n)

  abbrev pub below_at : Trees (NodeId × A) → NodeId → Trees (NodeId × A)
  below_at t n = below_of (part_at t n)

  -- the trees of a list, each with its number
  abbrev pub tops : Trees (NodeId × A) → List (NodeId × Part A)
  tops leafless = []
  tops (tree x below after) = (x.0, (x.1, below)) ∷ tops after

  abbrev pub top_numbers : Trees (NodeId × A) → List NodeId
  top_numbers leafless = []
  top_numbers (tree x below after) = x.0 ∷ top_numbers after

  abbrev pub number_of : Option (NodeId × Part A) → Option NodeId
  number_of None = None
  number_of (Some top) = Some top.0

  abbrev pub whole_of : Option (NodeId × Part A) → Option (Part A)
  whole_of None = None
  whole_of (Some top) = Some top.1

  -- how many children a number has; none where it names no node
  abbrev pub count_at : Trees (NodeId × A) → NodeId → ℕ
  count_at t n = count_of (below_at t n)

  -- the number of the child of this index, if there is one
  abbrev pub child_at : Trees (NodeId × A) → NodeId → ℕ → Option NodeId
  child_at t n index = number_of (slice_get (tops (below_at t n)) index)

  -- the child of this index, and that what stands under its number is its tree
  pub record IsChild (t : Trees (NodeId × A)) (n : NodeId) (index : ℕ) (c : NodeId) : Type 0 where
    pub number : child_at t n index ≡ Some c
    pub whole : part_at t c ≡ whole_of (slice_get (tops (below_at t n)) index)

  -- the numbers on the way up from a node to the top, its own first; none where it is not there
  abbrev pub way_up : Trees (NodeId × A) → NodeId → List NodeId
  way_up leafless n = []
  way_up (tree x below after) n = if same x.0 n then x.0 ∷ [] else upwards x.0 (way_up below n) (way_up after n)

  -- a fact of each node
  abbrev pub EachNode : (NodeId × A → Type 0) → Trees (NodeId × A) → Type 0
  EachNode P leafless = ⊤
  EachNode P (tree x below after) = P x × (EachNode P below × EachNode P after)

  -- each node is what stands under its number, and none stands below itself
  pub record IsNumbered (t : Trees (NodeId × A)) : Type 0 where
    pub each : EachNode (λ x. value_at t x.0 ≡ Some x.1) t
    pub apart : (n : NodeId) → part_at (below_at t n) n ≡ None

  -- how many nodes have a number
  abbrev pub times : NodeId → Trees (NodeId × A) → ℕ
  times n leafless = 0
  times n (tree x below after) = one (same x.0 n) + times n below + times n after

  -- no two nodes have one number
  abbrev pub IsDistinct : Trees (NodeId × A) → Type 0
  IsDistinct t = (n : NodeId) → times n t ≤ 1

  -- no node has more children
  abbrev pub IsNarrow : ℕ → Trees (NodeId × A) → Type 0
  IsNarrow most leafless = ⊤
  IsNarrow most (tree x below after) = (count_of below ≤ most) × (IsNarrow most below × IsNarrow most after)

  -- the tree with this value under a number
  abbrev pub replaced : NodeId → A → Trees (NodeId × A) → Trees (NodeId × A)
  replaced n w = mapped (λ k v. if same k n then w else v)

-- the numbers on the way up from a node, if there is one
abbrev pub way_of : {A : Type 0} → Trees (NodeId × A) → Option NodeId → List NodeId
way_of t None = []
way_of t (Some n) = way_up t n

-- a list of numbers without the first place of one
abbrev pub dropped : NodeId → List NodeId → List NodeId
dropped n [] = []
dropped n (m ∷ ms) = if same m n then ms else m ∷ dropped n ms

-- a number among others
abbrev pub is_among : NodeId → List NodeId → Bool
is_among n [] = false
is_among n (m ∷ ms) = same m n || is_among n ms

-- the number of the parent, if there is one
abbrev pub second : List NodeId → Option NodeId
second [] = None
second (n ∷ []) = None
second (n ∷ parent ∷ way) = Some parent

abbrev pub parent_at : {A : Type 0} → Trees (NodeId × A) → NodeId → Option NodeId
parent_at t n = second (way_up t n)
