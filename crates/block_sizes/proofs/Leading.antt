-- The questions of a grid lead to its children, and so do those of a flex container.
use Rattle.std.proofs.Common.{◌≡◌, ℕ, zero, suc, ◌+◌, ◌∷◌, ◌++◌, [], List, Bool, true, if◌then◌else◌, map, drop, sym, ap, subst}
use Rattle.std.specs.Prelude.{Contains}
use Rattle.std.proofs.lemmas.List.Elements.{Contains-append_left, Contains-append_right, Contains-push}
use Rattle.node_arena.specs.declared.number.NodeId.{NodeId}
use Rattle.placing.specs.Nodes.{BareTrees, kids_at, sight_at}
use Rattle.tree_rules.specs.Answers.{Pair}
use Rattle.tree_rules.specs.AskedQueries.{ToChild, grid_asks_block, grid_asks_inline, uses_by}
use Rattle.tree_rules.specs.Queries.{needs_inline}
use Rattle.tree_rules.specs.declared.kind.NodeKind.{NodeKind}
use Rattle.tree_rules.specs.declared.kind.NodeKind.TheVariants as kind
use Rattle.tree_rules.specs.declared.query.Given.{Given}
use Rattle.tree_rules.specs.declared.query.Query.{Query}
use Rattle.inline_sizes.specs.GridsSeen.{grid_seen}
use Rattle.block_sizes.specs.Wides.{LeadsDown, asks_of, columns_seen, wides_seen}

-- ---- lists

-- what stands at the front of the rest of a list is in it
pub contains_drop : {A : Type 0} (xs rest : List A) (i : ℕ) (x : A) → drop i xs ≡ x ∷ rest → Contains xs x
contains_drop [] rest zero x e = absurd cc
contains_drop [] rest (suc i) x e = absurd cc
contains_drop (u ∷ us) rest zero x e = let same : x ≡ u = cc in subst (λ z. Contains (z ∷ us) x) same (Contains-append_left (x ∷ []) us x (Contains-push [] x))
contains_drop (u ∷ us) rest (suc i) x e = Contains-append_right (u ∷ []) us x (contains_drop us rest i x e)

pub map_drop : {A B : Type 0} (f : A → B) (xs rest : List A) (i : ℕ) (x : A) → drop i xs ≡ x ∷ rest → drop i (map f xs) ≡ f x ∷ map f rest
map_drop f [] rest zero x e = absurd cc
map_drop f [] rest (suc i) x e = absurd cc
map_drop f (u ∷ us) rest zero x e =
    let a : u ≡ x = cc in
    let b : us ≡ rest = cc in
    λ j. f (a j) ∷ map f (b j)
map_drop f (u ∷ us) rest (suc i) x e = map_drop f us rest i x e

-- ---- a grid

module _ (b : BareTrees) (n : NodeId) (q : Query) where
  blocks : List ToChild
  blocks = map (grid_asks_block (grid_seen b n q.reps q.inline)) (wides_seen b n q.reps q.inline)

  inlines : List ToChild
  inlines = map (grid_asks_inline (grid_seen b n q.reps q.inline)) (grid_seen b n q.reps q.inline).entries

  -- all questions of a grid
  uses_are : (k : NodeKind) → k ≡ kind.Grid → uses_by k (sight_at b n).label (sight_at b n).chain (kids_at b n) q ≡ inlines ++ (if needs_inline q.ask then blocks else [])
  unfolding grid_seen columns_seen wides_seen blocks inlines
  uses_are k e = ap (λ (z : NodeKind). uses_by z (sight_at b n).label (sight_at b n).chain (kids_at b n) q) e

  leads_by : (sight_at b n).label.kind ≡ kind.Grid → needs_inline q.ask ≡ true → LeadsDown b n q.reps q.inline q
  unfolding blocks
  leads_by is needs k w next =
      subst (λ (l : List ToChild). Contains l (w.entry.number, asks_of b n q.reps q.inline w)) (sym (uses_are (sight_at b n).label.kind is))
      (Contains-append_right inlines _ (w.entry.number, asks_of b n q.reps q.inline w)
      (subst (λ (t : Bool). Contains (if t then blocks else []) (w.entry.number, asks_of b n q.reps q.inline w)) (sym needs)
      (contains_drop blocks (map (grid_asks_block (grid_seen b n q.reps q.inline)) (drop (k + 1) (wides_seen b n q.reps q.inline))) k (w.entry.number, asks_of b n q.reps q.inline w)
      (map_drop (grid_asks_block (grid_seen b n q.reps q.inline)) (wides_seen b n q.reps q.inline) (drop (k + 1) (wides_seen b n q.reps q.inline)) k w next))))

-- A question with these counts and this width, of which the answer depends on the width, leads to the children.
pub leads_down : (b : BareTrees) (n : NodeId) (outer : List Pair) (width : Given) (q : Query) → (sight_at b n).label.kind ≡ kind.Grid → q.reps ≡ outer → q.inline ≡ width → needs_inline q.ask ≡ true → LeadsDown b n outer width q
leads_down b n outer width q is r w needs = subst (λ (o : List Pair). LeadsDown b n o width q) r (subst (λ (g : Given). LeadsDown b n q.reps g q) w (leads_by b n q is needs))
