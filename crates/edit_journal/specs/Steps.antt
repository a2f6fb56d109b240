-- The step of an edit: the change that it makes, and the change that takes it back (own rule).
use Rattle.std.specs.Prelude.{ℕ, ◌==◌, Bool, not, if◌then◌else◌, List, [], ◌∷◌, map, filter, Option, Some, None}
use Rattle.std.specs.Option.{unwrap_or}
use Rattle.std.specs.FinMap as finite
use Rattle.style_types.specs.declared.prop.Prop.{Prop}
use Rattle.style_types.specs.Order.{place_of}
use Rattle.plain_tree.specs.Trees.{Trees, leafless, tree}
use Rattle.value_text.specs.ValueText.{Settings}
use Rattle.doc_text.specs.declared.document.Doc.{Doc}
use Rattle.doc_text.specs.declared.document.Plain.{Plain}
use Rattle.doc_text.specs.declared.edit.Edit.{Edit}
use Rattle.doc_text.specs.declared.edit.Edit.TheVariants as edit
use Rattle.doc_text.specs.Label.{Label, DeclaredMap}
use Rattle.doc_text.specs.Texts.{Word}
use Rattle.doc_text.specs.Documents.{plain_of}
use Rattle.doc_text.specs.Named.{tree_at, has_top, place_among}
use Rattle.doc_text.specs.Edits.{tree_of}
use Rattle.edit_journal.specs.declared.change.Change.{Change}
use Rattle.edit_journal.specs.declared.change.Change.TheVariants as change
use Rattle.edit_journal.specs.declared.change.Step.{Step}
use Rattle.edit_journal.specs.Changes.{Values}

-- ---- the change that an edit makes

abbrev pub values_set : Settings → Values
values_set settings = map (λ setting. (setting.0, Some setting.1)) settings

abbrev pub values_unset : List Prop → Values
values_unset props = map (λ p. (p, None)) props

-- the node alone
abbrev pub bare : Plain → Plain
bare node = record node { children = leafless }

-- a change that changes nothing: it sets no property of a node, and no node has the empty name
abbrev pub no_change : Change
no_change = change.Style [] []

-- what undo and redo make of a document is told by its history, and a hit makes nothing of it; so by themselves they change
-- nothing
abbrev pub forward_of : Edit → Change
forward_of (edit.Set named settings) = change.Style named.name (values_set settings)
forward_of (edit.Unset named props) = change.Style named.name (values_unset props)
forward_of (edit.Insert parent index at named node) = change.Bring parent.name index (bare node)
forward_of (edit.Remove named) = change.Take named.name
forward_of (edit.Move named parent index at) = change.Shift named.name parent.name index
forward_of (edit.Content named kind) = change.Kind named.name kind
forward_of (edit.Viewport width height) = change.View width height
forward_of (edit.Undo times at) = no_change
forward_of (edit.Redo times at) = no_change
forward_of (edit.Hit x y) = no_change

-- ---- what stood there before

-- the first of the trees, as a node
abbrev pub top_of : Trees Label → Option Plain
top_of leafless = None
top_of (tree x below after) = Some (plain_of x below)

-- the node of this name, with all below it; the root where no node has the name
abbrev pub node_at : Word → Doc → Plain
node_at name doc = unwrap_or (top_of (tree_at name (tree_of doc))) doc.root

-- the name of a parent, and the index among its children
abbrev pub Position : Type 0
Position = Word × ℕ

abbrev pub or_position : Option Position → Option Position → Option Position
or_position None other = other
or_position (Some position) other = Some position

-- the index of the tree of this name among these
abbrev pub place_in : Word → Trees Label → Option ℕ
place_in name trees = if has_top trees name then Some (place_among name trees) else None

-- as the child of this index under this parent
abbrev pub child_of : Word → Option ℕ → Option Position
child_of parent None = None
child_of parent (Some index) = Some (parent, index)

-- where the node of this name stands; the trees themselves stand under no node
abbrev pub position_in : Word → Trees Label → Option Position
position_in name leafless = None
position_in name (tree x below after) = or_position (child_of x.name (place_in name below)) (or_position (position_in name below) (position_in name after))

-- where the node of this name stands; as the first child of the root where it stands nowhere
abbrev pub position_of : Word → Doc → Position
position_of name doc = unwrap_or (position_in name (tree_of doc)) (doc.root.name, 0)

abbrev pub is_other : Prop → Prop → Bool
is_other p q = not (place_of p == place_of q)

-- each of the properties once
abbrev pub once : List Prop → List Prop
once [] = []
once (p ∷ props) = p ∷ filter (is_other p) (once props)

-- each of the properties once, with the value that it has in a style, or with none where it is not set
abbrev pub values_in : DeclaredMap → List Prop → Values
values_in style props = map (λ p. (p, finite.get style p)) (once props)

abbrev pub props_of : Settings → List Prop
props_of settings = map (λ setting. setting.0) settings

-- ---- the change that takes an edit back

abbrev pub bring_back : Position → Plain → Change
bring_back position node = change.Bring position.0 position.1 node

abbrev pub shift_back : Word → Position → Change
shift_back name position = change.Shift name position.0 position.1

abbrev pub back_of : Doc → Edit → Change
back_of doc (edit.Set named settings) = change.Style named.name (values_in (node_at named.name doc).style (props_of settings))
back_of doc (edit.Unset named props) = change.Style named.name (values_in (node_at named.name doc).style props)
back_of doc (edit.Insert parent index at named node) = change.Take named.name
back_of doc (edit.Remove named) = bring_back (position_of named.name doc) (node_at named.name doc)
back_of doc (edit.Move named parent index at) = shift_back named.name (position_of named.name doc)
back_of doc (edit.Content named kind) = change.Kind named.name (node_at named.name doc).kind
back_of doc (edit.Viewport width height) = change.View doc.width doc.height
back_of doc (edit.Undo times at) = no_change
back_of doc (edit.Redo times at) = no_change
back_of doc (edit.Hit x y) = no_change

-- the step of an edit of a document
abbrev pub step_for : Doc → Edit → Step
step_for doc e = record { forward = forward_of e; back = back_of doc e }
