-- Changes and steps, worked by hand.
use Rattle.std.specs.Prelude.{◌≡◌, refl, ℕ, pos, [], ◌∷◌, Some, None, codes}
use Rattle.std.specs.FinMap as map
use Rattle.text_scan.specs.declared.line.Place.{Place}
use Rattle.part_rules.specs.declared.content.Content.TheVariants as content
use Rattle.style_types.specs.Order.{prop_cmp}
use Rattle.style_types.specs.declared.prop.Prop.TheVariants as prop
use Rattle.style_types.specs.declared.value.Value.TheVariants as value
use Rattle.style_types.specs.declared.declared.DeclaredValue.{DeclaredValue}
use Rattle.plain_tree.specs.Trees.{Trees, leafless, tree}
use Rattle.doc_text.specs.declared.document.Doc.{Doc}
use Rattle.doc_text.specs.declared.document.Plain.{Plain}
use Rattle.doc_text.specs.declared.edit.Edit.TheVariants as edit
use Rattle.doc_text.specs.declared.edit.Named.{Named}
use Rattle.doc_text.specs.declared.kind.Kind.{Kind}
use Rattle.doc_text.specs.declared.kind.Kind.TheVariants as kind
use Rattle.doc_text.specs.Label.{Label}
use Rattle.doc_text.specs.Texts.{Word}
use Rattle.edit_journal.specs.declared.change.Change.TheVariants as change
use Rattle.edit_journal.specs.Changes.{turned}
use Rattle.edit_journal.specs.Steps.{once, no_change, step_for}

abbrev place : Place
place = record { line = 9; column = 5 }

abbrev named : Word → Named
named name = record { name = name; at = place }

abbrev pub leaf : Kind
leaf = kind.Leaf (content.Fixed (pos 640) (pos 320))

abbrev label : Word → Kind → Label
label name kind = record { name = name; kind = kind; style = map.empty }

abbrev pub node : Word → Kind → Trees Label → Plain
node name kind below = record { name = name; kind = kind; style = map.empty; children = below }

abbrev with_children : Trees Label → Doc
with_children below = record { version = 1; width = pos 6400; height = pos 3200; root = node (codes "main") kind.Flex below }

-- the grid g with the leaves b and c below it
abbrev pub grid : Trees Label → Trees Label
grid after = tree (label (codes "g") kind.Grid) (tree (label (codes "b") leaf) leafless (tree (label (codes "c") leaf) leafless leafless)) after

-- the leaf a, then the grid, under a flex container
abbrev pub page : Doc
page = with_children (tree (label (codes "a") leaf) leafless (grid leafless))

abbrev without_grid : Doc
without_grid = with_children (tree (label (codes "a") leaf) leafless leafless)

-- a removed grid is brought back with all below it, as the second child
removed_grid : step_for page (edit.Remove (named (codes "g")))
    ≡ record {
      forward = change.Take (codes "g");
      back =
          change.Bring (codes "main") 1
          (node (codes "g") kind.Grid (tree (label (codes "b") leaf) leafless (tree (label (codes "c") leaf) leafless leafless)));
    }
removed_grid = refl

takes_grid : turned (change.Take (codes "g")) page ≡ without_grid
takes_grid = refl

brings_grid : turned (step_for page (edit.Remove (named (codes "g")))).back without_grid ≡ page
brings_grid = refl

-- a leaf that is moved to the front goes back to its index under the grid
moved_leaf : step_for page (edit.Move (named (codes "c")) (named (codes "main")) 0 place) ≡
    record { forward = change.Shift (codes "c") (codes "main") 0; back = change.Shift (codes "c") (codes "g") 1 }
moved_leaf = refl

shifts_leaf : turned (change.Shift (codes "c") (codes "main") 2) page
    ≡ with_children
    (tree (label (codes "a") leaf) leafless
    (tree (label (codes "g") kind.Grid) (tree (label (codes "b") leaf) leafless leafless)
    (tree (label (codes "c") leaf) leafless leafless)))
shifts_leaf = refl

-- an index is counted after the node was taken out
shifts_forth : turned (change.Shift (codes "a") (codes "main") 1) page ≡ with_children (grid (tree (label (codes "a") leaf) leafless leafless))
shifts_forth = refl

-- a node that is inserted stands alone
inserted_leaf : step_for without_grid
    (edit.Insert (named (codes "main")) 1 place (named (codes "g")) (node (codes "g") kind.Grid (tree (label (codes "z") leaf) leafless leafless)))
    ≡ record { forward = change.Bring (codes "main") 1 (node (codes "g") kind.Grid leafless); back = change.Take (codes "g") }
inserted_leaf = refl

content_back : step_for page (edit.Content (named (codes "b")) (kind.Leaf (content.Words (pos 64) (pos 128) [])))
    ≡ record { forward = change.Kind (codes "b") (kind.Leaf (content.Words (pos 64) (pos 128) [])); back = change.Kind (codes "b") leaf }
content_back = refl

viewport_back : step_for page (edit.Viewport (pos 64) (pos 32)) ≡ record { forward = change.View (pos 64) (pos 32); back = change.View (pos 6400) (pos 3200) }
viewport_back = refl

views : turned (change.View (pos 6400) (pos 3200)) (turned (change.View (pos 64) (pos 32)) page) ≡ page
views = refl

-- undo, redo and a hit change nothing by themselves
undoes_nothing : step_for page (edit.Undo 2 place) ≡ record { forward = no_change; back = no_change }
undoes_nothing = refl

stays : turned no_change page ≡ page
stays = refl

-- ---- values

abbrev order : ℕ → DeclaredValue
order n = record { value = value.Order (pos n); units = [] }

-- each property once, where it is named first
named_twice : once (prop.Order ∷ prop.FlexGrow ∷ prop.Order ∷ prop.Width ∷ prop.FlexGrow ∷ []) ≡ prop.Order ∷ prop.FlexGrow ∷ prop.Width ∷ []
named_twice = refl

sets : (step_for page (edit.Set (named (codes "a")) ((prop.Order, order 2) ∷ (prop.Order, order 3) ∷ []))).forward
    ≡ change.Style (codes "a") ((prop.Order, Some (order 2)) ∷ (prop.Order, Some (order 3)) ∷ [])
sets = refl

-- a property that was not set is no longer set after it
unsets : (step_for page (edit.Set (named (codes "a")) ((prop.Order, order 2) ∷ (prop.Order, order 3) ∷ []))).back ≡
    change.Style (codes "a") ((prop.Order, None) ∷ [])
unsets = λ i. change.Style (codes "a") ((prop.Order, map.get-empty prop_cmp prop.Order i) ∷ [])

unset_forward : (step_for page (edit.Unset (named (codes "a")) (prop.MarginTop ∷ prop.MarginLeft ∷ []))).forward ≡
    change.Style (codes "a") ((prop.MarginTop, None) ∷ (prop.MarginLeft, None) ∷ [])
unset_forward = refl
