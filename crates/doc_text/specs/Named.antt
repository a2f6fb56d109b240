-- Changes of a tree, by names: the tree of a name becomes a list of trees.
use Rattle.std.specs.Prelude.{◌≡◌, ℕ, zero, suc, ◌+◌, Bool, true, false, if◌then◌else◌, ◌⊎◌, ⊤}
use Rattle.std.specs.Str.{bytes_eq}
use Rattle.plain_tree.specs.Trees.{Trees, leafless, tree, joined}
use Rattle.doc_text.specs.Label.{Label}
use Rattle.doc_text.specs.Texts.{Word}
use Rattle.doc_text.specs.Growth.{holds, alone}

-- no name stands twice
abbrev pub IsDistinct : Trees Label → Type 0
IsDistinct leafless = ⊤
IsDistinct (tree x below after) =
    (holds below x.name ≡ false) ×
    ((holds after x.name ≡ false) ×
    (((name : Word) → holds below name ≡ true → holds after name ≡ false) × (IsDistinct below × IsDistinct after)))

-- the tree of this name becomes these
abbrev pub replaced : Word → (Label → Trees Label → Trees Label) → Trees Label → Trees Label
replaced name change leafless = leafless
replaced name change (tree x below after) =
    if bytes_eq x.name name then joined (change x below) after else tree x (replaced name change below) (replaced name change after)

-- ---- a node's own values
abbrev pub relabel : (Label → Label) → Label → Trees Label → Trees Label
relabel change x below = tree (change x) below leafless

abbrev pub relabelled : Word → (Label → Label) → Trees Label → Trees Label
relabelled name change = replaced name (relabel change)

-- ---- a tree more, a tree less, a tree elsewhere

-- these trees at an index of a list, or at its end
abbrev pub put_at : ℕ → Trees Label → Trees Label → Trees Label
put_at index new leafless = new
put_at zero new (tree x below after) = joined new (tree x below after)
put_at (suc index) new (tree x below after) = tree x below (put_at index new after)

abbrev pub graft : ℕ → Trees Label → Label → Trees Label → Trees Label
graft index new x below = tree x (put_at index new below) leafless

-- more trees under a parent, at an index
abbrev pub grafted : Word → ℕ → Trees Label → Trees Label → Trees Label
grafted parent index new = replaced parent (graft index new)

abbrev pub inserted : Word → ℕ → Label → Trees Label → Trees Label
inserted parent index label = grafted parent index (alone label)

abbrev pub nothing : Label → Trees Label → Trees Label
nothing x below = leafless

abbrev pub removed : Word → Trees Label → Trees Label
removed name = replaced name nothing

-- the tree of this name, and no other
abbrev pub tree_at : Word → Trees Label → Trees Label
tree_at name leafless = leafless
tree_at name (tree x below after) = if bytes_eq x.name name then tree x below leafless else joined (tree_at name below) (tree_at name after)

abbrev pub below_of : Trees Label → Trees Label
below_of leafless = leafless
below_of (tree x below after) = below

-- the trees below the node of this name
abbrev pub below_at : Word → Trees Label → Trees Label
below_at name trees = below_of (tree_at name trees)

-- a tree under another parent, at an index of what is left
abbrev pub moved : Word → Word → ℕ → Trees Label → Trees Label
moved name parent index trees = grafted parent index (tree_at name trees) (removed name trees)

-- the level of the node of this name, that of the first trees being 1
abbrev pub level_of : Word → Trees Label → ℕ
level_of name leafless = 0
level_of name (tree x below after) =
    if bytes_eq x.name name then 1
    else if holds below name then 1 + level_of name below
    else level_of name after

-- one of the trees has this name
abbrev pub has_top : Trees Label → Word → Bool
has_top leafless name = false
has_top (tree x below after) name = if bytes_eq x.name name then true else has_top after name

-- the index of the node of this name among its siblings
abbrev pub place_among : Word → Trees Label → ℕ
place_among name leafless = 0
place_among name (tree x below after) = if bytes_eq x.name name then 0 else suc (place_among name after)

-- the node of the name stands under this parent, as the child of this index
abbrev pub StandsAt : Word → Word → ℕ → Trees Label → Type 0
StandsAt name parent index leafless = ⊥
StandsAt name parent index (tree x below after) =
    ((x.name ≡ parent) × ((has_top below name ≡ true) × (place_among name below ≡ index)))
    ⊎ (StandsAt name parent index below ⊎ StandsAt name parent index after)
