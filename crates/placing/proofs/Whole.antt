-- The areas of the children of a node, from their parts.
use Rattle.std.proofs.Common.{◌≡◌, refl, sym, ap, ◌∙◌, subst, ℕ, List, [], ◌∷◌, map}
use Rattle.line_names.specs.Tables.{IsLimit}
use Rattle.lunit.specs.declared.geometry.Area.{Area}
use Rattle.lunit.specs.declared.geometry.Span.{Span}
use Rattle.node_arena.specs.Numbers.{child_at}
use Rattle.node_arena.specs.declared.number.NodeId.{NodeId}
use Rattle.part_rules.specs.Lists.{zipped}
use Rattle.part_rules.specs.Placement.{placed, range_of}
use Rattle.part_rules.specs.declared.wish.Wish.{Wish}
use Rattle.tree_rules.specs.Answers.{Kid}
use Rattle.tree_rules.specs.Chains.{Sibling, sibling_of}
use Rattle.tree_rules.specs.Contexts as rules
use Rattle.tree_rules.specs.Labels.{GridStyle}
use Rattle.tree_rules.specs.Orders.{in_order}
use Rattle.placing.specs.declared.contexts.Placed.{Placed}
use Rattle.placing.specs.Along.{span_along}
use Rattle.placing.specs.Areas.{IsPlaced, child_in, numbered_area, orders_at, siblings_at}
use Rattle.placing.specs.Insides.{AreFull, AreInside, cut_to}
use Rattle.placing.specs.Nodes.{BareTrees, kids_at, sight_at}
use Rattle.placing.specs.Order.{items_of, numbers_in_order}
use Rattle.placing.specs.Wishes.{areas_by, limit_of, no_sibling, wish_by}
use Rattle.placing.proofs.Filled.{cut_within}
use Rattle.placing.proofs.Numbers.{items_in_order}

orders_same : (kids : List Kid) → map (λ (s : Sibling). s.grid.order) (map (λ (k : Kid). sibling_of k.label) kids) ≡ map (λ (k : Kid). k.label.grid.order) kids
orders_same [] = refl
orders_same (k ∷ kids) = ap (λ l. k.label.grid.order ∷ l) (orders_same kids)

wishes_same : (c : rules.Context) (siblings : List Sibling) (numbers : List ℕ) → map (λ (e : ℕ × Sibling). rules.wish_of c e.1) (items_of no_sibling siblings numbers) ≡ map (wish_by c siblings) numbers
wishes_same c siblings [] = refl
wishes_same c siblings (n ∷ ns) = ap (λ l. wish_by c siblings n ∷ l) (wishes_same c siblings ns)

areas_same : (siblings : List Sibling) (numbers : List ℕ) (cut : List (NodeId × Area)) → zipped rules.with_area (items_of no_sibling siblings numbers) (map (λ (e : NodeId × Area). e.1) cut) ≡ zipped numbered_area numbers cut
areas_same siblings [] cut = refl
areas_same siblings (n ∷ ns) [] = refl
areas_same siblings (n ∷ ns) (e ∷ es) = ap (λ l. (n, e.1) ∷ l) (areas_same siblings ns es)

columns_same : (cut : List (NodeId × Area)) → map (λ (a : Area). a.columns) (map (λ (e : NodeId × Area). e.1) cut) ≡ map (λ (e : NodeId × Area). span_along 0 e.1) cut
columns_same [] = refl
columns_same (e ∷ es) = ap (λ l. e.1.columns ∷ l) (columns_same es)

rows_same : (cut : List (NodeId × Area)) → map (λ (a : Area). a.rows) (map (λ (e : NodeId × Area). e.1) cut) ≡ map (λ (e : NodeId × Area). span_along 1 e.1) cut
rows_same [] = refl
rows_same (e ∷ es) = ap (λ l. e.1.rows ∷ l) (rows_same es)

inside_all : (c : rules.Context) (areas : List Area) → IsLimit (limit_of c.columns.table) → IsLimit (limit_of c.rows.table) → AreFull areas → AreInside c (map (rules.cut_area c) areas)
inside_all c [] x y h = tt
inside_all c (a ∷ rest) x y h =
    (record { columns = cut_within (limit_of c.columns.table) a.columns x h.0.columns; rows = cut_within (limit_of c.rows.table) a.rows y h.0.rows }, inside_all c rest x y h.1)

-- the areas by the numbers of the children in order are the defined ones
defined : (c : rules.Context) (g : GridStyle) (kids : List Kid) (numbers : List ℕ) (cut : List (NodeId × Area)) (columns rows : Span)
    → numbers ≡ numbers_in_order (map (λ (k : Kid). k.label.grid.order) kids)
    → map (λ (e : NodeId × Area). e.1) cut ≡ map (rules.cut_area c) (areas_by c g (map (λ (k : Kid). sibling_of k.label) kids) numbers)
    → columns ≡ range_of c.columns.table.tracks (map (λ (e : NodeId × Area). span_along 0 e.1) cut)
    → rows ≡ range_of c.rows.table.tracks (map (λ (e : NodeId × Area). span_along 1 e.1) cut)
    → record { areas = zipped numbered_area numbers cut; columns = columns; rows = rows } ≡ rules.placed_children c g (map (λ (k : Kid). sibling_of k.label) kids)
defined c g kids numbers cut columns rows n a x y =
    λ i. record {
      areas = (sym (areas_same siblings numbers cut) ∙ (λ j. zipped rules.with_area (same j) (cuts j))) i;
      columns = (x ∙ ap (range_of c.columns.table.tracks) (sym (columns_same cut) ∙ ap (map (λ (a : Area). a.columns)) cuts)) i;
      rows = (y ∙ ap (range_of c.rows.table.tracks) (sym (rows_same cut) ∙ ap (map (λ (a : Area). a.rows)) cuts)) i;
    }
  where
    siblings : List Sibling
    siblings = map (λ (k : Kid). sibling_of k.label) kids

    same : items_of no_sibling siblings numbers ≡ in_order (λ (s : Sibling). s.grid.order) siblings
    same = ap (items_of no_sibling siblings) (n ∙ ap numbers_in_order (sym (orders_same kids))) ∙ sym (items_in_order (λ (s : Sibling). s.grid.order) no_sibling siblings)

    wishes : map (wish_by c siblings) numbers ≡ map (λ (e : ℕ × Sibling). rules.wish_of c e.1) (in_order (λ (s : Sibling). s.grid.order) siblings)
    wishes = sym (wishes_same c siblings numbers) ∙ ap (map (λ (e : ℕ × Sibling). rules.wish_of c e.1)) same

    cuts : map (λ (e : NodeId × Area). e.1) cut ≡ map (rules.cut_area c) (placed (map (λ (e : ℕ × Sibling). rules.wish_of c e.1) (in_order (λ (s : Sibling). s.grid.order) siblings)) (rules.shape_of c g))
    cuts = a ∙ ap (λ (ws : List Wish). map (rules.cut_area c) (placed ws (rules.shape_of c g))) wishes

pub is_placed : (b : BareTrees) (n : NodeId) (c : rules.Context) (p : Placed) (limits : Area) (areas : List Area)
    → p.numbers ≡ numbers_in_order (orders_at b n)
    → map (child_at b n) p.numbers ≡ map child_in p.areas
    → areas ≡ areas_by c (sight_at b n).label.grid (siblings_at b n) p.numbers
    → map (λ (e : NodeId × Area). e.1) p.areas ≡ map (cut_to limits) areas
    → limits.columns ≡ limit_of c.columns.table
    → limits.rows ≡ limit_of c.rows.table
    → IsLimit (limit_of c.columns.table) → IsLimit (limit_of c.rows.table)
    → AreFull areas
    → p.columns ≡ range_of c.columns.table.tracks (map (λ (e : NodeId × Area). span_along 0 e.1) p.areas)
    → p.rows ≡ range_of c.rows.table.tracks (map (λ (e : NodeId × Area). span_along 1 e.1) p.areas)
    → IsPlaced b n c p
is_placed b n c p limits areas numbers children by cut first second low high full columns rows =
    record {
      placed = defined c (sight_at b n).label.grid (kids_at b n) p.numbers p.areas p.columns p.rows numbers (cut_by ∙ ap (map (rules.cut_area c)) by) columns rows;
      children = record { numbers = numbers; children = children };
      inside = subst (AreInside c) (sym cut_by) (inside_all c areas low high full);
    }
  where
    same_limits : limits ≡ record { columns = limit_of c.columns.table; rows = limit_of c.rows.table }
    same_limits = λ i. record { columns = first i; rows = second i }

    cut_by : map (λ (e : NodeId × Area). e.1) p.areas ≡ map (rules.cut_area c) areas
    cut_by = cut ∙ ap (λ (l : Area). map (cut_to l) areas) same_limits

pub ruleset whole_laws = (is_placed)
