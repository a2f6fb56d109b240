-- Nodes that are found by name, child by child.
use Rattle.std.proofs.Common.{◌≡◌, ℕ, zero, suc, ◌+◌, ◌<◌, ◌≤◌, Bool, true, false, cond, List, [], ◌∷◌, Option, Some, None, drop, get_or, length, ap, refl, sym, subst, ◌∙◌, arith}
use Rattle.std.proofs.lemmas.List.{drop_all}
use Rattle.std.proofs.lemmas.Bool.{true≢false}
use Rattle.std.proofs.lemmas.Option.{none-some, same_Some}
use Rattle.std.specs.Prelude.{◌==◌}
use Rattle.std.specs.Str.{bytes_eq}
use Rattle.plain_tree.specs.Trees.{Trees, leafless, tree, joined, size_of}
use Rattle.doc_text.specs.declared.document.Plain.{Plain}
use Rattle.doc_text.specs.Label.{Label}
use Rattle.doc_text.specs.View.{label_of, trees_of}
use Rattle.doc_text.specs.Texts.{Word}
use Rattle.doc_text.specs.Documents.{node_limit}
use Rattle.doc_text.specs.Named.{tree_at, has_top, place_among}
use Rattle.doc_text.proofs.Nodes.{trees_of-drop}
use Rattle.edit_journal.specs.Changes.{tree_of_node}
use Rattle.edit_journal.specs.Steps.{top_of, Position, or_position, place_in, child_of, position_in}

-- a child has fewer nodes below it than the list that it stands in has
pub child_smaller : (nodes : List Plain) (i : ℕ) (node : Plain) → i < length nodes → size_of (get_or nodes i node).children < size_of (trees_of nodes)
child_smaller nodes i node h = less nodes i h
  where
    less : (nodes : List Plain) (i : ℕ) → i < length nodes → size_of (get_or nodes i node).children < size_of (trees_of nodes)
    less [] i h = absurd (omega arith)
    less (x ∷ nodes) zero h = omega arith
    less (x ∷ nodes) (suc i) h = omega (arith, less nodes i (omega (arith, h)))

-- ---- the node of a name

abbrev pub or_node : Option Plain → Option Plain → Option Plain
or_node None other = other
or_node (Some node) other = Some node

top_joined : (s t : Trees Label) → top_of (joined s t) ≡ or_node (top_of s) (top_of t)
top_joined leafless t = refl
top_joined (tree x below after) t = refl

tops : (name : Word) (x : Label) (below after : Trees Label) → top_of (tree_at name (tree x below after)) ≡ or_node (top_of (tree_at name (tree x below leafless))) (top_of (tree_at name after))
tops name x below after = by_name (bytes_eq x.name name)
  where
    none : (o : Option Plain) → or_node o None ≡ o
    none None = refl
    none (Some node) = refl

    by_name : (e : Bool) → top_of (cond e (tree x below leafless) (joined (tree_at name below) (tree_at name after))) ≡ or_node (top_of (cond e (tree x below leafless) (joined (tree_at name below) leafless))) (top_of (tree_at name after))
    by_name true = refl
    by_name false = top_joined (tree_at name below) (tree_at name after) ∙ ap (λ o. or_node o (top_of (tree_at name after))) (sym (top_joined (tree_at name below) leafless ∙ none (top_of (tree_at name below))))

-- the first node of the name in these lists
abbrev pub found_in : Word → List Plain → Option Plain
found_in name nodes = top_of (tree_at name (trees_of nodes))

pub found_own : (name : Word) (node : Plain) → bytes_eq node.name name ≡ true → top_of (tree_at name (tree_of_node node)) ≡ Some node
found_own name node e = rw e refl

pub found_below : (name : Word) (node : Plain) → bytes_eq node.name name ≡ false → top_of (tree_at name (tree_of_node node)) ≡ top_of (tree_at name node.children)
found_below name node e = rw e (top_joined (tree_at name node.children) leafless ∙ none (top_of (tree_at name node.children)))
  where
    none : (o : Option Plain) → or_node o None ≡ o
    none None = refl
    none (Some node) = refl

pub found_next : (name : Word) (nodes : List Plain) (i : ℕ) (node : Plain) → i < length nodes
    → found_in name (drop i nodes) ≡ or_node (top_of (tree_at name (tree_of_node (get_or nodes i node)))) (found_in name (drop (i + 1) nodes))
found_next name nodes i node h = ap (λ (t : Trees Label). top_of (tree_at name t)) (trees_of-drop nodes i node h) ∙ tops name (label_of (get_or nodes i node)) (get_or nodes i node).children (trees_of (drop (i + 1) nodes))

pub found_none : (name : Word) (nodes : List Plain) (i : ℕ) → length nodes ≤ i → found_in name (drop i nodes) ≡ None
found_none name nodes i h = rw (drop_all i nodes h) refl

-- what is found below a child is found below the node
pub found_child : (name : Word) (node : Plain) (nodes : List Plain) (i : ℕ) (child found : Plain) → bytes_eq node.name name ≡ false → trees_of nodes ≡ node.children → found_in name (drop i nodes) ≡ found_in name nodes → i < length nodes
    → get_or nodes i child ≡ child → top_of (tree_at name (tree_of_node child)) ≡ Some found → Some found ≡ top_of (tree_at name (tree_of_node node))
found_child name node nodes i child found e below left h at told = sym (
    found_below name node e ∙ ap (λ (t : Trees Label). top_of (tree_at name t)) (sym below) ∙ sym left ∙ found_next name nodes i child h
    ∙ ap (λ (n : Plain). or_node (top_of (tree_at name (tree_of_node n))) (found_in name (drop (i + 1) nodes))) at ∙ ap (λ o. or_node o (found_in name (drop (i + 1) nodes))) told)

pub found_later : (name : Word) (nodes : List Plain) (i : ℕ) (child : Plain) → found_in name (drop i nodes) ≡ found_in name nodes → i < length nodes → get_or nodes i child ≡ child → top_of (tree_at name (tree_of_node child)) ≡ None
    → found_in name (drop (i + 1) nodes) ≡ found_in name nodes
found_later name nodes i child left h at told =
    sym (found_next name nodes i child h ∙ ap (λ (n : Plain). or_node (top_of (tree_at name (tree_of_node n))) (found_in name (drop (i + 1) nodes))) at ∙ ap (λ o. or_node o (found_in name (drop (i + 1) nodes))) told) ∙ left

pub ruleset finding = (found_own, found_below, found_next, found_none)

-- ---- the position of a name

abbrev pub position_among : Word → List Plain → Option Position
position_among name nodes = position_in name (trees_of nodes)

no_other : (o : Option Position) → or_position o None ≡ o
no_other None = refl
no_other (Some position) = refl

positions : (name : Word) (x : Label) (below after : Trees Label) → position_in name (tree x below after) ≡ or_position (position_in name (tree x below leafless)) (position_in name after)
positions name x below after = in_order (child_of x.name (place_in name below)) (position_in name below) (position_in name after)
  where
    in_order : (a b c : Option Position) → or_position a (or_position b c) ≡ or_position (or_position a (or_position b None)) c
    in_order None None c = refl
    in_order None (Some b) c = refl
    in_order (Some a) b c = refl

pub position_next : (name : Word) (nodes : List Plain) (i : ℕ) (node : Plain) → i < length nodes
    → position_among name (drop i nodes) ≡ or_position (position_in name (tree_of_node (get_or nodes i node))) (position_among name (drop (i + 1) nodes))
position_next name nodes i node h =
    ap (position_in name) (trees_of-drop nodes i node h) ∙ positions name (label_of (get_or nodes i node)) (get_or nodes i node).children (trees_of (drop (i + 1) nodes))

pub position_none : (name : Word) (nodes : List Plain) (i : ℕ) → length nodes ≤ i → position_among name (drop i nodes) ≡ None
position_none name nodes i h = rw (drop_all i nodes h) refl

-- a child of the node, or below its children
pub position_own : (name : Word) (node : Plain) → position_in name (tree_of_node node) ≡ or_position (child_of node.name (place_in name node.children)) (position_in name node.children)
position_own name node = ap (or_position (child_of node.name (place_in name node.children))) (no_other (position_in name node.children))

pub ruleset positioning = (position_next, position_none, position_own)

-- a place that stands so many further on, if there is one
abbrev pub past : ℕ → Option ℕ → Option ℕ
past n None = None
past n (Some place) = Some (n + place)

place_after : (name : Word) (x : Label) (below after : Trees Label) → bytes_eq x.name name ≡ false → place_in name (tree x below after) ≡ past 1 (place_in name after)
place_after name x below after e = rw e (by_top (has_top after name))
  where
    by_top : (b : Bool) → cond b (Some (suc (place_among name after))) None ≡ past 1 (cond b (Some (place_among name after)) None)
    by_top true = ap Some (omega arith)
    by_top false = refl

past_past : (m n : ℕ) (o : Option ℕ) → past m (past n o) ≡ past (m + n) o
past_past m n None = refl
past_past m n (Some place) = ap Some (omega arith)

abbrev pub place_from : Word → List Plain → ℕ → Option ℕ
place_from name nodes i = past i (place_in name (trees_of (drop i nodes)))

pub place_here : (name : Word) (nodes : List Plain) (i : ℕ) (node : Plain) → i < length nodes → bytes_eq (get_or nodes i node).name name ≡ true → place_from name nodes i ≡ Some i
place_here name nodes i node h e = ap (λ (t : Trees Label). past i (place_in name t)) (trees_of-drop nodes i node h) ∙ rw e (ap Some (omega arith))

pub place_next : (name : Word) (nodes : List Plain) (i : ℕ) (node : Plain) → i < length nodes → bytes_eq (get_or nodes i node).name name ≡ false → place_from name nodes i ≡ place_from name nodes (i + 1)
place_next name nodes i node h e =
    ap (λ (t : Trees Label). past i (place_in name t)) (trees_of-drop nodes i node h) ∙ ap (past i) (place_after name (label_of (get_or nodes i node)) (get_or nodes i node).children (trees_of (drop (i + 1) nodes)) e)
    ∙ past_past i 1 (place_in name (trees_of (drop (i + 1) nodes)))

pub place_none : (name : Word) (nodes : List Plain) (i : ℕ) → length nodes ≤ i → place_from name nodes i ≡ None
place_none name nodes i h = rw (drop_all i nodes h) refl

pub place_first : (name : Word) (nodes : List Plain) → place_from name nodes 0 ≡ place_in name (trees_of nodes)
place_first name nodes = none_past (place_in name (trees_of nodes))
  where
    none_past : (o : Option ℕ) → past 0 o ≡ o
    none_past None = refl
    none_past (Some place) = ap Some (omega arith)

pub ruleset placing = (place_here, place_next, place_none, place_first)

-- ---- an index is less than the number of nodes
small_place : (name : Word) (t : Trees Label) (index : ℕ) → place_in name t ≡ Some index → index < size_of t
small_place name t index e = by_top (has_top t name) refl e
  where
    below_count : (t : Trees Label) → has_top t name ≡ true → place_among name t < size_of t
    below_count leafless h = absurd (true≢false (sym h))
    below_count (tree x below after) h = by_name (bytes_eq x.name name) h (below_count after)
      where
        by_name : (b : Bool) → cond b true (has_top after name) ≡ true → (has_top after name ≡ true → place_among name after < size_of after) → cond b 0 (suc (place_among name after)) < 1 + size_of below + size_of after
        by_name true h f = omega arith
        by_name false h f = omega (arith, f h)

    by_top : (b : Bool) → has_top t name ≡ b → cond b (Some (place_among name t)) None ≡ Some index → index < size_of t
    by_top true h e = subst (λ n. n < size_of t) (same_Some (place_among name t) index e) (below_count t h)
    by_top false h e = absurd (none-some index e)

pub small_position : (name : Word) (t : Trees Label) (position : Position) → position_in name t ≡ Some position → position.1 < size_of t
small_position name leafless position e = absurd (none-some position e)
small_position name (tree x below after) position e = by_place (place_in name below) refl e (small_position name below position) (small_position name after position)
  where
    by_below : (o : Option Position) → or_position o (position_in name after) ≡ Some position → (o ≡ Some position → position.1 < size_of below) → (position_in name after ≡ Some position → position.1 < size_of after)
        → position.1 < 1 + size_of below + size_of after
    by_below None e b a = omega (arith, a e)
    by_below (Some other) e b a = omega (arith, b e)

    by_place : (o : Option ℕ) → place_in name below ≡ o → or_position (child_of x.name o) (or_position (position_in name below) (position_in name after)) ≡ Some position
        → (position_in name below ≡ Some position → position.1 < size_of below) → (position_in name after ≡ Some position → position.1 < size_of after) → position.1 < 1 + size_of below + size_of after
    by_place None f e b a = by_below (position_in name below) e b a
    by_place (Some index) f e b a =
        let told : index ≡ position.1 = ap (λ (p : Position). p.1) (same_Some (x.name, index) position e) in
        omega (arith, small_place name below index f, told)

pub few_nodes : (version : ℕ) → node_limit version ≤ 131072
few_nodes version = by_version (version == 2)
  where
    by_version : (b : Bool) → cond b 131072 32768 ≤ 131072
    by_version true = omega arith
    by_version false = omega arith
