-- The numbers of the nodes that a change marks.
use Rattle.std.specs.Prelude.{◌≡◌, ℕ, ℤ, ◌+◌, Bool, true, false, map, ◌||◌, ◌&&◌, not, List, [], ◌∷◌, ◌++◌, if◌then◌else◌}
use Rattle.std.specs.Ordering.{int_eq}
use Rattle.plain_tree.specs.Trees.{Trees, leafless, tree}
use Rattle.style_types.specs.Computed.{font_of}
use Rattle.doc_text.specs.Texts.{Word}
use Rattle.node_arena.specs.declared.number.NodeId.{NodeId}
use Rattle.node_arena.specs.Numbers.{EachNode, below_at, is_among}
use Rattle.layout_cache.specs.Reach.{from_tree, reached_by}
use Rattle.tree_rules.specs.Chains.{has_subgrid, is_grid_kind}
use Rattle.tree_rules.specs.Labels.{grid_of}
use Rattle.std.specs.Str.{bytes_eq}
use Rattle.doc_text.specs.declared.document.Plain.{Plain}
use Rattle.doc_text.specs.declared.kind.Kind.{Kind}
use Rattle.doc_text.specs.Growth.{holds}
use Rattle.doc_text.specs.Named.{tree_at}
use Rattle.edit_journal.specs.declared.change.Change.{Change}
use Rattle.edit_journal.specs.declared.change.Change.TheVariants as change
use Rattle.edit_journal.specs.Changes.{tree_of_node}
use Rattle.doc_text.specs.Label.{Label}
use Rattle.page_tree.specs.Reach.{font_in, gets_other_font, is_container, is_felt, is_marked, is_marked_by, is_parent, root_font_in}
use Rattle.placing.specs.declared.node.Node.{Node}
use Rattle.placing.specs.Nodes.{NodeTrees}

-- these numbers are those of the nodes of the marked names
abbrev pub AreMarked : (Word → Bool) → NodeTrees → List NodeId → Type 0
AreMarked mark t numbers = EachNode (λ x. is_among x.0 numbers ≡ mark x.1.name) t

-- these numbers are those of the nodes of the marked names, as one fact
pub record IsMarking (mark : Word → Bool) (t : NodeTrees) (numbers : List NodeId) : Type 0 where
  pub each : AreMarked mark t numbers

-- a list of numbers with those of the marked names added
abbrev pub AddsMarked : (Word → Bool) → NodeTrees → List NodeId → List NodeId → Type 0
AddsMarked mark t old new = EachNode (λ x. is_among x.0 new ≡ (is_among x.0 old || mark x.1.name)) t

-- the numbers of all of these nodes, or of those alone whose font size is another below a node of the font size `new` than below one of `old`
abbrev pub numbers_below : Bool → ℤ → ℤ → ℤ → NodeTrees → List NodeId
numbers_below all old new root leafless = []
numbers_below all old new root (tree x below after) =
    (if all || not (int_eq (font_of old root x.1.declared) (font_of new root x.1.declared)) then x.0 ∷ [] else [])
    ++ (numbers_below all (font_of old root x.1.declared) (font_of new root x.1.declared) root below ++ numbers_below all old new root after)

-- the child of an index with its font sizes below nodes of these two, before the trees of those after it
pub record IsNextBelow (old new root : ℤ) (t : NodeTrees) (n : NodeId) (index : ℕ) (c : NodeId) (old_font new_font : ℤ) : Type 0 where
  pub value : Node
  pub next : from_tree index (below_at t n) ≡ tree (c, value) (below_at t c) (from_tree (index + 1) (below_at t n))
  pub old_is : font_of old root value.declared ≡ old_font
  pub new_is : font_of new root value.declared ≡ new_font

-- these numbers are those of the nodes that are marked by a change that brings a node; that shifts one; that gives one another kind
pub record MarksBrought (parent : Word) (node : Plain) (t : NodeTrees) (numbers : List NodeId) : Type 0 where
  pub each : AreMarked (λ w. bytes_eq w parent || holds (tree_of_node node) w) t numbers

pub record MarksShift (name parent : Word) (plain : Trees Label) (t : NodeTrees) (numbers : List NodeId) : Type 0 where
  pub each : AreMarked
      (λ w. bytes_eq w name ||
      (bytes_eq w parent ||
      (is_parent plain name w || gets_other_font (font_in name plain) (font_in parent plain) (root_font_in plain) (tree_at name plain) w))) t
      numbers

pub record MarksKind (new : Kind) (name : Word) (plain : Trees Label) (t : NodeTrees) (numbers : List NodeId) : Type 0 where
  pub each : AreMarked (λ w. bytes_eq w name || (is_container new name plain && is_parent plain name w)) t numbers

-- these numbers are those of the nodes that a change marks
abbrev pub MarksChange : Change → Trees Label → NodeTrees → List NodeId → Type 0
MarksChange (change.Style name values) plain t numbers = IsMarking (is_marked_by (map (λ v. v.0) values) name plain) t numbers
MarksChange (change.Take name) plain t numbers = IsMarking (λ w. bytes_eq w name || (true && is_parent plain name w)) t numbers
MarksChange (change.Bring parent index node) plain t numbers = MarksBrought parent node t numbers
MarksChange (change.Shift name parent index) plain t numbers = MarksShift name parent plain t numbers
MarksChange (change.Kind name new) plain t numbers = MarksKind new name plain t numbers
MarksChange (change.View width height) plain t numbers = IsMarking (λ w. false) t numbers

-- the numbers of the nodes that a change of a tree reaches in it
pub record IsReach (c : Change) (plain : Trees Label) (t : NodeTrees) (list : List NodeId) : Type 0 where
  pub numbers : List NodeId
  pub marked : AreMarked (is_marked c plain) t numbers
  pub is : list ≡ reached_by (λ (v : Node). is_grid_kind v.kind && has_subgrid (grid_of v.style)) t numbers (is_felt c plain)
