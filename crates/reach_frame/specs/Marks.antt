-- Which nodes of trees are reached where some are marked (own rule).
use Rattle.std.specs.Prelude.{Bool, false, ◌&&◌, ◌||◌}
use Rattle.plain_tree.specs.Trees.{Trees, leafless, tree}

-- one of these nodes is marked
abbrev pub has_mark : {A : Type 0} → (A → Bool) → Trees A → Bool
has_mark mark leafless = false
has_mark mark (tree x below after) = mark x || (has_mark mark below || has_mark mark after)

-- One of these nodes for which `is` holds is reached: it is marked or stands above a marked node; or, where `grid` says that subgrids feel a change, it stands
-- below
-- a marked node and is, with all nodes between, a subgrid. `felt` says this of the nodes above.
abbrev pub is_reached : {A : Type 0} → (A → Bool) → (A → Bool) → (A → Bool) → Bool → Bool → Trees A → Bool
is_reached is mark subgrid grid felt leafless = false
is_reached is mark subgrid grid felt (tree x below after) =
    (is x && (mark x || (has_mark mark below || (felt && subgrid x))))
    || (is_reached is mark subgrid grid ((grid && mark x) || (felt && subgrid x)) below || is_reached is mark subgrid grid felt after)
