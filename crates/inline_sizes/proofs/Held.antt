-- A grid as an answer holds it is the grid that the walk tells, and the other way round.
use Rattle.std.proofs.Common.{◌≡◌, ℕ, zero, suc, ◌∷◌, ◌++◌, [], List, map, length, refl, sym, ap, ◌∙◌, arith, length-append}
use Rattle.std.specs.Prelude.{slice_get}
use Rattle.plain_tree.specs.Trees.{Trees, leafless, tree}
use Rattle.node_arena.specs.declared.number.NodeId.{NodeId}
use Rattle.node_arena.specs.Numbers.{below_at, child_at, number_of, top_numbers, tops}
use Rattle.placing.specs.Areas.{IsPlaced}
use Rattle.placing.specs.Bases.{HoldsPlaces}
use Rattle.placing.specs.Nodes.{BareTrees, children_at, sight_at}
use Rattle.placing.specs.Wides.{HoldsAreas, HoldsBase, HoldsGrid, grid_in}
use Rattle.placing.specs.declared.contexts.Placed.{Placed}
use Rattle.placing.specs.declared.wide.GridBase.{GridBase}
use Rattle.placing.specs.declared.wide.GridParts.{GridParts}
use Rattle.tree_rules.specs.Answers.{Pair}
use Rattle.tree_rules.specs.Contexts.{Context}
use Rattle.tree_rules.specs.declared.query.Given.{Given}
use Rattle.inline_sizes.specs.Grids.{IsBase, IsCounted, IsGrid}
use Rattle.inline_sizes.specs.GridsSeen.{grid_seen}

pub tops_get : {A : Type 0} → (t : Trees (NodeId × A)) (i : ℕ) → number_of (slice_get (tops t) i) ≡ slice_get (top_numbers t) i
tops_get leafless i = refl
tops_get (tree x below after) zero = refl
tops_get (tree x below after) (suc i) = tops_get after i

-- two lists are the same, and so are their last items
last_same : {A : Type 0} (xs ys : List A) (x y : A) → xs ++ x ∷ [] ≡ ys ++ y ∷ [] → x ≡ y
last_same [] [] x y e = cc
last_same [] (v ∷ vs) x y e = absurd (omega (arith, ap length e, length-append vs (y ∷ [])))
last_same (u ∷ us) [] x y e = absurd (omega (arith, ap length e, length-append us (x ∷ [])))
last_same (u ∷ us) (v ∷ vs) x y e = let rest : us ++ x ∷ [] ≡ vs ++ y ∷ [] = cc in last_same us vs x y rest

module _ (b : BareTrees) (n : NodeId) where
  by_number : (numbers : List ℕ) → map (child_at b n) numbers ≡ map (slice_get (children_at b n)) numbers
  by_number numbers = λ i. map (λ k. tops_get (below_at b n) k i) numbers

  areas_held : (c : Context) (p : Placed) → IsPlaced b n c p → HoldsAreas (sight_at b n) (children_at b n) c p
  areas_held c p h = record { placed = h.placed; numbers = h.children.numbers; children = sym (by_number p.numbers) ∙ h.children.children; inside = h.inside }

  held_areas : (c : Context) (p : Placed) → HoldsAreas (sight_at b n) (children_at b n) c p → IsPlaced b n c p
  held_areas c p h = record { placed = h.placed; children = record { numbers = h.numbers; children = by_number p.numbers ∙ h.children }; inside = h.inside }

  pub base_held : (outer : List Pair) (width : Given) (base : GridBase) → IsBase b n outer width base → HoldsBase (sight_at b n) (children_at b n) outer width base
  base_held outer width base h = record { counts = h.laid.counts; context = h.laid.context; placed = areas_held _ _ h.laid.placed; pair = h.pair; pairs = h.pairs }

  pub held_base : (outer : List Pair) (width : Given) (base : GridBase) → HoldsBase (sight_at b n) (children_at b n) outer width base → IsBase b n outer width base
  held_base outer width base h = record { laid = record { counts = h.counts; context = h.context; placed = held_areas _ _ h.placed }; pair = h.pair; pairs = h.pairs }

  -- what a node keeps of a grid, whatever it is given
  pub places_held : (outer : List Pair) (width : Given) (base : GridBase) → IsBase b n outer width base → HoldsPlaces (sight_at b n) (children_at b n) base
  places_held outer width base h = record { outer = outer; pairs = h.pairs; counts = h.laid.counts; context = h.laid.context; placed = areas_held _ _ h.laid.placed }

  -- by the same counts it is the same grid
  pub held_places : (outer : List Pair) (width : Given) (counts : Pair × List Pair) (base : GridBase) → IsCounted b n outer width counts → base.pairs ≡ counts.1 → HoldsPlaces (sight_at b n) (children_at b n) base → IsBase b n outer width base
  held_places outer width counts base c same h =
      let pair : base.pair ≡ counts.0 = last_same h.outer outer base.pair counts.0 (sym h.pairs ∙ same ∙ c.pairs) in
      record {
        laid = record { counts = h.counts; context = h.context; placed = held_areas _ _ h.placed };
        pair = pair ∙ c.pair;
        pairs = same ∙ c.pairs ∙ ap (λ p. outer ++ p ∷ []) (sym pair);
      }

  pub grid_held : (outer : List Pair) (width : Given) (parts : GridParts) → IsGrid b n outer width parts → HoldsGrid (sight_at b n) (children_at b n) outer width parts
  unfolding grid_seen grid_in
  grid_held outer width parts h =
      record { base = base_held outer width parts.base h.base; pairs = h.pairs; context = h.context; placed = areas_held _ _ h.placed; entries = h.entries; inlines = h.inlines; items = h.items }

  pub held_grid : (outer : List Pair) (width : Given) (parts : GridParts) → HoldsGrid (sight_at b n) (children_at b n) outer width parts → IsGrid b n outer width parts
  unfolding grid_seen grid_in
  held_grid outer width parts h =
      record { base = held_base outer width parts.base h.base; pairs = h.pairs; context = h.context; placed = held_areas _ _ h.placed; entries = h.entries; inlines = h.inlines; items = h.items }
