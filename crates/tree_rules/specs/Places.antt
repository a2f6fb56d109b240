-- A node of a tree as the rules see it: its label, the links upwards, and what stands below it (own rule).
use Rattle.std.specs.Prelude.{◌≡◌, refl, ℕ, ◌+◌, Bool, false, List, [], Option, Some, None, bytes_eq, if◌then◌else◌, ◌∷◌}
use Rattle.plain_tree.specs.Trees.{Trees, leafless, tree, map_trees}
use Rattle.tree_rules.specs.Answers.{Answers}
use Rattle.tree_rules.specs.Chains.{Above, Link, above_of, chain_of}
use Rattle.tree_rules.specs.Labels.{Label, plain_grid, GridStyle}
use Rattle.tree_rules.specs.Whole.{kids_of, step}
use Rattle.std.specs.Prelude.{codes}
use Rattle.style_types.specs.declared.track.Template.TheVariants as template
use Rattle.tree_rules.specs.declared.kind.NodeKind.TheVariants as kind
use Rattle.tree_rules.specs.Labels.{plain_axis, plain_content}

-- All that the answers of a node depend on.
pub record Seen : Type 0 where
  pub label : Label
  pub chain : List Link
  pub below : Trees Label

-- The answers of a node.
abbrev pub answers_of : Seen → Answers
answers_of s = step s.label s.chain (kids_of (above_of s.label s.chain s.below) 0 s.below)

-- what stands above a root
abbrev pub above_root : Above
above_root = record { name = []; is_grid = false; grid = plain_grid; children = []; chain = [] }

-- the first of two that is there
abbrev pub first_of_two : {A : Type 0} → Option A → Option A → Option A
first_of_two None second = second
first_of_two (Some x) second = Some x

-- The first node in document order that passes a test, among trees of which the next is the child of this number. The trees may be of anything
-- that has labels, as numbered nodes have.
abbrev pub seen_below : {A : Type 0} → (A → Label) → (A → Bool) → Above → ℕ → Trees A → Option Seen
seen_below label is above n leafless = None
seen_below label is above n (tree x below after) =
    let chain = chain_of above n (label x) in
    let plain = map_trees label below in
    let here : Option Seen = Some (record { label = label x; chain = chain; below = plain }) in
    let lower = seen_below label is (above_of (label x) chain plain) 0 below in
    let later = seen_below label is above (n + 1) after in
    let other = first_of_two lower later in
    if is x then here else other

-- The node of a whole tree that passes a test.
abbrev pub seen_by : {A : Type 0} → (A → Label) → (A → Bool) → Trees A → Option Seen
seen_by label is t = seen_below label is above_root 0 t

-- The node of this name.
abbrev pub seen_named : List ℕ → Trees Label → Option Seen
seen_named name t = seen_by (λ x. x) (λ (x : Label). bytes_eq x.name name) t

-- ---- worked rows

abbrev grid_of : List ℕ → GridStyle → Label
grid_of name g = record { name = name; kind = kind.Grid; grid = g; content = plain_content }

abbrev sub : GridStyle
sub = record plain_grid { columns = record plain_axis { template = template.Subgrid [] } }

-- a grid of a grid and a subgrid, which has a subgrid
abbrev three_levels : Trees Label
three_levels =
    tree (grid_of (codes "a") plain_grid)
    (tree (grid_of (codes "b") plain_grid) leafless (tree (grid_of (codes "c") sub) (tree (grid_of (codes "d") sub) leafless leafless) leafless))
    leafless

abbrev name_of : Option Seen → List ℕ
name_of None = []
name_of (Some s) = s.label.name

abbrev ways_of : List Link → List ℕ
ways_of [] = []
ways_of (l ∷ rest) = l.way ∷ ways_of rest

abbrev ways : Option Seen → List ℕ
ways None = []
ways (Some s) = ways_of s.chain

found_below : name_of (seen_named (codes "d") three_levels) ≡ codes "d"
found_below = refl

not_found : seen_named (codes "e") three_levels ≡ None
not_found = refl

-- It is the first child of the second child.
two_up : ways (seen_named (codes "d") three_levels) ≡ 0 ∷ 1 ∷ []
two_up = refl

one_up : ways (seen_named (codes "c") three_levels) ≡ 1 ∷ []
one_up = refl

none_up : ways (seen_named (codes "b") three_levels) ≡ []
none_up = refl
