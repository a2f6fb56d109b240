-- How the slots show the tree.
use Rattle.std.specs.Prelude.{◌≡◌, ◌≢◌, ℕ, slice_set, insert, vec_len, vec_capacity, zero, suc, ◌+◌, ◌<◌, ◌≤◌, ◌==◌, List, [], ◌∷◌, Option, Some, None, slice_index_or, is_some, count_by, if◌then◌else◌, ⊤}
use Rattle.plain_tree.specs.Trees.{Trees, leafless, tree, size_of, height_of}
use Rattle.node_arena.specs.declared.number.NodeId.{NodeId}
use Rattle.node_arena.specs.declared.slots.Slot.{Slot}
use Rattle.node_arena.specs.Numbers.{top_numbers, one, dropped, EachNode, IsNarrow}

-- what a slot shows
pub record Shown (T : Type 0) : Type 0 where
  pub turn : ℕ
  pub value : T
  pub parent : Option NodeId
  pub children : List NodeId

module _ {T : Type 0} where
  abbrev pub look : Option (Slot T) → Option (Shown T)
  look None = None
  look (Some s) = Some (record { turn = s.turn; value = s.value; parent = s.parent; children = s.children.items })

  abbrev pub shown : List (Option (Slot T)) → ℕ → Option (Shown T)
  shown slots k = look (slice_index_or slots k None)

  -- a slot's tree, before the trees after it
  abbrev pub branch_of : NodeId → Option (Shown T) → (List NodeId → Trees (NodeId × T)) → Trees (NodeId × T) → Trees (NodeId × T)
  branch_of n None below after = after
  branch_of n (Some s) below after = tree (n, s.value) (below s.children) after

  -- the trees of these numbers, where the levels are at most the fuel
  unfoldable pub grown : ℕ → (ℕ → Option (Shown T)) → List NodeId → Trees (NodeId × T)
  grown fuel slots [] = leafless
  grown zero slots (n ∷ ns) = leafless
  grown (suc fuel) slots (n ∷ ns) = branch_of n (slots n.slot) (grown fuel slots) (grown (suc fuel) slots ns)

  -- each node of these trees stands in its slot
  abbrev pub Holds : (ℕ → Option (Shown T)) → Option NodeId → Trees (NodeId × T) → Type 0
  Holds slots parent leafless = ⊤
  Holds slots parent (tree x below after) =
      (slots x.0.slot ≡ Some (record { turn = x.0.turn; value = x.1; parent = parent; children = top_numbers below })) ×
      (Holds slots (Some x.0) below × Holds slots parent after)

  -- how many nodes stand in a slot
  abbrev pub in_slot : ℕ → Trees (NodeId × T) → ℕ
  in_slot k leafless = 0
  in_slot k (tree x below after) = one (x.0.slot == k) + in_slot k below + in_slot k after

  abbrev pub used : Option (Shown T) → ℕ
  used None = 0
  used (Some s) = 1

  -- these slots hold this tree and nothing else
  pub record Fits (slots : List (Option (Slot T))) (root : NodeId) (made most_nodes most_children : ℕ) (t : Trees (NodeId × T)) : Type 0 where
    pub holds : Holds (shown slots) None t
    pub rooted : top_numbers t ≡ root ∷ []
    pub filled : (k : ℕ) → in_slot k t ≡ used (shown slots k)
    pub counted : count_by is_some slots ≡ size_of t
    pub low : height_of t ≤ 64
    pub turns : EachNode (λ x. x.0.turn < made) t
    pub few : size_of t ≤ most_nodes
    pub narrow : IsNarrow most_children t

  abbrev pub whole : List (Option (Slot T)) → NodeId → Trees (NodeId × T)
  whole slots root = grown 64 (shown slots) (root ∷ [])

  -- the slot that a number names
  abbrev pub of_turn : ℕ → Option (Slot T) → Option (Slot T)
  of_turn turn None = None
  of_turn turn (Some s) = if s.turn == turn then Some s else None

  abbrev pub held : List (Option (Slot T)) → NodeId → Option (Slot T)
  held slots n = of_turn n.turn (slice_index_or slots n.slot None)

  -- what a slot shows once a number is no child of it
  abbrev pub unlisted : NodeId → Option (Shown T) → Option (Shown T)
  unlisted n None = None
  unlisted n (Some s) = Some (record s { children = dropped n s.children })

  -- what a slot shows once a number is a child of it, at an index
  abbrev pub listed : ℕ → NodeId → Option (Shown T) → Option (Shown T)
  listed index n None = None
  listed index n (Some s) = Some (record s { children = insert s.children index n })

  -- what a slot shows once it has another parent
  abbrev pub below_parent : NodeId → Option (Shown T) → Option (Shown T)
  below_parent parent None = None
  below_parent parent (Some s) = Some (record s { parent = Some parent })

  -- one slot shows something else, and there are as many
  pub record Reshows (old new : List (Option (Slot T))) (k : ℕ) (now : Option (Shown T)) : Type 0 where
    pub changed : shown new k ≡ now
    pub others : (other : ℕ) → other ≢ k → shown new other ≡ shown old other
    pub counted : count_by is_some new ≡ count_by is_some old

  -- each slot shows the same
  pub record Alike (old new : List (Option (Slot T))) : Type 0 where
    pub each : (k : ℕ) → shown new k ≡ shown old k
    pub counted : count_by is_some new ≡ count_by is_some old

  -- one more child needs no memory
  abbrev pub HasRoom : Option (Slot T) → Type 0
  HasRoom None = ⊤
  HasRoom (Some s) = vec_len s.children < vec_capacity s.children

  -- the slots once these numbers and all below them are taken out, where the levels are at most the fuel
  abbrev pub swept_from : (List NodeId → List (Option (Slot T)) → List (Option (Slot T))) → Option (Slot T) → ℕ → List (Option (Slot T)) →
      List (Option (Slot T))
  swept_from sweep None k slots = slots
  swept_from sweep (Some s) k slots = sweep s.children.items (slice_set slots k None)

  unfoldable pub swept : ℕ → List NodeId → List (Option (Slot T)) → List (Option (Slot T))
  swept fuel [] slots = slots
  swept zero (n ∷ ns) slots = slots
  swept (suc fuel) (n ∷ ns) slots = swept (suc fuel) ns (swept_from (swept fuel) (slice_index_or slots n.slot None) n.slot slots)
