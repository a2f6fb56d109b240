-- Which answer each change of an arena gives.
use Rattle.std.specs.Prelude.{◌≡◌, ℕ, ◌+◌, Bool, false, not, ◌&&◌, ◌||◌, nat_lt, nat_le, Option, Some, None, Result, Ok, Err, IsOk, length, if◌then◌else◌, ⊤}
use Rattle.plain_tree.specs.Trees.{Trees, leafless, tree, size_of, height_of}
use Rattle.node_arena.specs.declared.number.NodeId.{NodeId}
use Rattle.node_arena.specs.declared.error.ArenaError.{ArenaError}
use Rattle.node_arena.specs.declared.error.ArenaError.TheVariants.{Stale, Root, Cycle, BadIndex, TooDeep, Full, NoMemory}
use Rattle.node_arena.specs.Numbers.{same, count_at, way_up, below_at, top_numbers, dropped, is_among}
use Rattle.node_arena.specs.Edits.{tree_at}
use Rattle.node_arena.specs.Plain.{Nodes, is_live}

-- the call answers this error, or it answers Ok
abbrev pub Answers : {X : Type 0} → Option ArenaError → Result X ArenaError → Type 0
Answers None result = IsOk result
Answers (Some error) result = result ≡ Err error

-- the call answers this error, or it answers Ok or, where memory is wanting, NoMemory
abbrev pub AnswersOrNoMemory : {X : Type 0} → Option ArenaError → Result X ArenaError → Type 0
AnswersOrNoMemory None (Ok x) = ⊤
AnswersOrNoMemory None (Err error) = error ≡ NoMemory
AnswersOrNoMemory (Some error) result = result ≡ Err error

abbrev pub is_top : {T : Type 0} → Trees (NodeId × T) → NodeId → Bool
is_top leafless n = false
is_top (tree x below after) n = same x.0 n || is_top after n

module _ {T : Type 0} where
  abbrev pub put_fault : Nodes T → NodeId → Option ArenaError
  put_fault n id = if is_live n id then None else Some Stale

  abbrev pub remove_fault : Nodes T → NodeId → Option ArenaError
  remove_fault n id = if not (is_live n id) then Some Stale else if is_top n.tree id then Some Root else None

  -- a new node stands one level below its parent, whose level is the number of nodes on its way up
  abbrev pub insert_fault : Nodes T → NodeId → ℕ → Option ArenaError
  insert_fault n parent index =
      if not (is_live n parent) then Some Stale
      else if nat_lt (count_at n.tree parent) index then Some BadIndex
      else if nat_le 64 (length (way_up n.tree parent)) then Some TooDeep
      else if nat_le n.most_nodes (size_of n.tree) || nat_le n.most_children (count_at n.tree parent) then Some Full
      else None

  -- whether a node that moves finds its place: the new parent's children are counted without it
  abbrev pub place_fault : Nodes T → NodeId → NodeId → ℕ → Option ArenaError
  place_fault n id parent index =
      if nat_lt (length (dropped id (top_numbers (below_at n.tree parent)))) index then Some BadIndex
      else if nat_lt 64 (length (way_up n.tree parent) + height_of (tree_at id n.tree)) then Some TooDeep
      else if nat_le n.most_children (length (dropped id (top_numbers (below_at n.tree parent)))) then Some Full
      else None

  -- the new parent stands in the moved tree where the node is on the new parent's way up
  abbrev pub move_fault : Nodes T → NodeId → NodeId → ℕ → Option ArenaError
  move_fault n id parent index =
      if not (is_live n id && is_live n parent) then Some Stale
      else if is_top n.tree id then Some Root
      else if is_among id (way_up n.tree parent) then Some Cycle
      else place_fault n id parent index
