-- No reached node is told twice.
use Rattle.std.proofs.Common.{◌≡◌, ◌+◌, ◌≤◌, Bool, true, false, List, [], ◌∷◌, ◌++◌, ap, arith}
use Rattle.std.specs.Prelude.{◌||◌, ◌&&◌, if◌then◌else◌}
use Rattle.plain_tree.specs.Trees.{Trees, leafless, tree}
use Rattle.node_arena.specs.declared.number.NodeId.{NodeId}
use Rattle.node_arena.specs.Numbers.{is_among, times, IsDistinct}
use Rattle.layout_cache.specs.Reach.{is_above, occurs, reached, reached_by}

occurs_joined : (n : NodeId) (xs ys : List NodeId) → occurs n (xs ++ ys) ≡ occurs n xs + occurs n ys
occurs_joined n [] ys = omega arith
occurs_joined n (x ∷ xs) ys = omega (arith, occurs_joined n xs ys)

module _ {A : Type 0} (subgrid : A → Bool) (touched above : NodeId → Bool) (grid : Bool) (n : NodeId) where
  few : (felt : Bool) (t : Trees (NodeId × A)) → occurs n (reached subgrid touched above grid felt t) ≤ times n t
  few felt leafless = omega arith
  few felt (tree x below after) = at (few ((grid && touched x.0) || (felt && subgrid x.1)) below) (few felt after) (above x.0 || (felt && subgrid x.1))
    where
      at : occurs n (reached subgrid touched above grid ((grid && touched x.0) || (felt && subgrid x.1)) below) ≤ times n below → occurs n (reached subgrid touched above grid felt after) ≤ times n after
          → (c : Bool) → occurs n ((if c then x.0 ∷ reached subgrid touched above grid ((grid && touched x.0) || (felt && subgrid x.1)) below else []) ++ reached subgrid touched above grid felt after) ≤ times n (tree x below after)
      at b a true = omega (arith, occurs_joined n (reached subgrid touched above grid ((grid && touched x.0) || (felt && subgrid x.1)) below) (reached subgrid touched above grid felt after))
      at b a false = omega arith

pub once_in : {A : Type 0} (subgrid : A → Bool) (t : Trees (NodeId × A)) (touched : List NodeId) (grid : Bool) (list : List NodeId) → IsDistinct t → list ≡ reached_by subgrid t touched grid → (n : NodeId) → occurs n list ≤ 1
once_in subgrid t touched grid list d e n =
    let k : occurs n list ≡ occurs n (reached_by subgrid t touched grid) = ap (occurs n) e in
    let once = d n in
    omega (arith, few subgrid (λ m. is_among m touched) (is_above t touched) grid n false t)
