-- What the rules see of the nodes of an arena whose values a text reads as, and where the items of its grids lie.
use Rattle.std.proofs.Common.{arith, refl, subst, sym, ◌≡◌, ℕ, ◌+◌, ℤ, pos, negsuc, ◌-ℤ◌, ◌≤ℤ◌, Bool, true, false, List, [], ◌∷◌, ◌++◌, Option, Some, None, IsSome}
use Rattle.std.specs.Prelude.{if◌then◌else◌, reverse}
use Rattle.std.proofs.lemmas.Int.{ints}
use Rattle.lunit.specs.declared.geometry.Area.{Area}
use Rattle.lunit.specs.declared.geometry.Span.{Span}
use Rattle.lunit.specs.declared.item.Item.{Item}
use Rattle.part_rules.specs.declared.view.View.{View}
use Rattle.part_rules.specs.LineNames.{NamedSpan}
use Rattle.part_rules.specs.Lists.{above_zero}
use Rattle.plain_tree.specs.Trees.{Trees, leafless, map_trees, tree}
use Rattle.node_arena.specs.declared.number.NodeId.{NodeId}
use Rattle.node_arena.specs.Numbers.{EachNode, IsNumbered, Part, mapped, part_at, same, value_at, value_of}
use Rattle.tree_rules.specs.declared.query.Given.{Given}
use Rattle.tree_rules.specs.Answers.{Pair}
use Rattle.tree_rules.specs.Chains.{Above, Link, above_of, chain_of, is_subgrid, siblings_of}
use Rattle.tree_rules.specs.Contexts.{AxisContext, Context, area_of, column_cells, context_by, context_under, first_pair, named_columns, named_rows, outer_pairs, own_context, placed_children, row_cells, shared_context, with_area}
use Rattle.tree_rules.specs.GridSizes.{Entry, Grid, grid_by, rows_of_grid, wide_children}
use Rattle.tree_rules.specs.Labels.{GridAxis, Label, plain_grid}
use Rattle.tree_rules.specs.LentItems.{lifted}
use Rattle.tree_rules.specs.Places.{Seen, above_root, first_of_two, seen_below}
use Rattle.tree_rules.specs.Queries.{sees_columns, sees_rows}
use Rattle.tree_rules.specs.Repetitions.{own_pair}
use Rattle.tree_rules.specs.Whole.{kids_of}
use Rattle.placing.proofs.Bares.{bare_there}
use Rattle.placing.proofs.Each.{Each}
use Rattle.placing.proofs.Sights.{sight_label}
use Rattle.placing.specs.Insides.{IsInside, IsWithin}
use Rattle.placing.specs.Nodes.{Bare, BareTrees, NodeTrees, bare, bare_of, label_in, label_of_bare, seen_or_nothing, sight_at}
use Rattle.placing.specs.Ranges.{AreReadable, IsEdge, IsGridAxis, IsGridStyle}
use Rattle.placing.specs.Seats.{context_at}
use Rattle.track_sizing.specs.Placed.{AreIn}
use Rattle.inline_sizes.proofs.FineContexts.{HasGridStyle, IsFine, IsFineChain, areas_cut, context_fine, each_weaker, few_in_range, in_range, near_range, ordered, within_lifted, within_own}
use Rattle.inline_sizes.proofs.LentInside.{AreStyled, IsEntryOf, IsFineAbove, IsLender, IsOver, all_lenders, chain_made, column_items, entries_of, fine_after, fine_below, grid_of_kids, its_areas, its_context, right_zipped, row_items, siblings, siblings_counted, siblings_styled}
use Rattle.inline_sizes.specs.GridsSeen.{AreAreasIn, AreEntriesIn, HasItemsInTracks, HasLines, IsAreaIn, IsInTracks, grid_seen}
use Rattle.inline_sizes.specs.TrackAxes.{track_count}

-- ---- a node of a tree of such values

-- Its values, those of the grids above it and of all below it are such.
pub record IsFineSeen (s : Seen) : Type 0 where
  pub grid : IsGridStyle s.label.grid
  pub links : IsFineChain s.chain
  pub lower : AreStyled s.below

abbrev IsFineOption : Option Seen → Type 0
IsFineOption None = Unit {0}
IsFineOption (Some s) = IsFineSeen s

abbrev pub AreStyledNodes : BareTrees → Type 0
AreStyledNodes t = EachNode (λ x. IsGridStyle (label_in x).grid) t

styled_trees : (t : BareTrees) → AreStyledNodes t → AreStyled (map_trees label_in t)
styled_trees leafless h = tt
styled_trees (tree x below after) h = (h.0, (styled_trees below h.1.0, styled_trees after h.1.1))

first_fine : (o p : Option Seen) → IsFineOption o → IsFineOption p → IsFineOption (first_of_two o p)
first_fine None p h k = k
first_fine (Some s) p h k = h

seen_fine : (is : NodeId × Bare → Bool) (above : Above) (n : ℕ) (t : BareTrees) → IsFineAbove above n (map_trees label_in t) → AreStyledNodes t → IsFineOption (seen_below label_in is above n t)
seen_fine is above n leafless f h = tt
seen_fine is above n (tree x below after) f h =
    go (is x)
    (first_fine (seen_below label_in is (above_of (label_in x) chain plain) 0 below) (seen_below label_in is above (n + 1) after)
    (seen_fine is (above_of (label_in x) chain plain) 0 below (fine_below above n (label_in x) plain (map_trees label_in after) f h.0 (styled_trees below h.1.0)) h.1.0)
    (seen_fine is above (n + 1) after (fine_after above n (label_in x) plain (map_trees label_in after) f) h.1.1))
  where
    plain : Trees Label
    plain = map_trees label_in below

    chain : List Link
    chain = chain_of above n (label_in x)

    go : (t : Bool) → IsFineOption (first_of_two (seen_below label_in is (above_of (label_in x) chain plain) 0 below) (seen_below label_in is above (n + 1) after))
        → IsFineOption (if t then Some (record { label = label_in x; chain = chain; below = plain }) else first_of_two (seen_below label_in is (above_of (label_in x) chain plain) 0 below) (seen_below label_in is above (n + 1) after))
    go true k = record { grid = h.0; links = chain_made above n (label_in x) plain (map_trees label_in after) f; lower = styled_trees below h.1.0 }
    go false k = k

-- no value is set
no_edge : IsEdge (pos 0)
no_edge = record { low = omega (arith, ints); high = omega (arith, ints) }

plain_axis_fine : IsGridAxis plain_grid.columns
plain_axis_fine = record {
  template = tt;
  autos = refl;
  start_line = record { edges = refl; some = refl };
  end_line = record { edges = refl; some = refl };
  gap = tt;
  margin_start = record { low = omega (arith, ints); high = omega (arith, ints) };
  margin_end = record { low = omega (arith, ints); high = omega (arith, ints) };
  border_start = no_edge;
  border_end = no_edge;
  padding_start = no_edge;
  padding_end = no_edge;
}

plain_fine : IsGridStyle plain_grid
plain_fine = record { columns = plain_axis_fine; rows = plain_axis_fine; areas = tt }

pub sight_fine : (b : BareTrees) (n : NodeId) → AreStyledNodes b → IsFineSeen (sight_at b n)
unfolding sight_at
sight_fine b n h = go (seen_below label_in (λ x. same x.0 n) above_root 0 b) (seen_fine (λ x. same x.0 n) above_root 0 b (λ e. absurd cc) h)
  where
    go : (o : Option Seen) → IsFineOption o → IsFineSeen (seen_or_nothing o)
    go None k = record { grid = plain_fine; links = tt; lower = tt }
    go (Some s) k = k

-- ---- the nodes of an arena

module _ (t : NodeTrees) (readable : AreReadable (bare t)) where
  some_part : (o : Option (Part Bare)) (v : Bare) → Some v ≡ value_of o → IsSome o
  some_part None v e = absurd cc
  some_part (Some p) v e = refl

  node_styled : (n : NodeId) (v : Bare) → Some v ≡ value_at (bare t) n → IsGridStyle (label_of_bare v).grid
  node_styled n v e = subst (λ (x : Label). IsGridStyle x.grid) (sym (sight_label (bare t) n v e)) (readable.nodes n (some_part (part_at (bare t) n) v e)).grid

  each_styled : (u : NodeTrees) → EachNode (λ x. value_at t x.0 ≡ Some x.1) u → AreStyledNodes (mapped (λ n v. bare_of v) u)
  each_styled leafless h = tt
  each_styled (tree x below after) h = (node_styled x.0 (bare_of x.1) (bare_there t x.0 x.1 (sym h.0)), (each_styled below h.1.0, each_styled after h.1.1))

  pub nodes_styled : IsNumbered t → AreStyledNodes (bare t)
  unfolding bare
  nodes_styled numbered = each_styled t numbered.each

-- ---- where items lie

above_all : (z : ℤ) → z ≤ℤ pos (above_zero z)
above_all (pos n) = omega (arith, ints)
above_all (negsuc n) = omega (arith, ints)

are_in : (b : Span) (items : List Item) → Each (IsOver b) items → AreIn b.start (track_count b) items
are_in b [] h = tt
are_in b (i ∷ rest) h =
    let some : (b.end -ℤ b.start) ≤ℤ pos (track_count b) = above_all (b.end -ℤ b.start) in
    (record { start = h.0.low; some = h.0.some; end = omega (arith, ints, h.0.high, some) }, are_in b rest h.1)

has_lines : (c : Context) → IsFine c → HasLines c
has_lines c f = record {
  column_self = f.columns.reach;
  row_self = f.rows.reach;
  column_area = λ a i. within_lifted c.columns a.columns f.columns i.columns;
  row_area = λ a i. within_lifted c.rows a.rows f.rows i.rows;
}

pub lines_of : (s : Seen) (reps : List Pair) → IsFineSeen s → HasLines (context_at s reps)
lines_of s reps f = has_lines (context_at s reps) (context_fine s.label.grid s.chain (reverse reps) f.grid f.links)

module _ (s : Seen) (fine : IsFineSeen s) (outer : List Pair) (width : Given) where
  x : Label
  x = s.label

  children : Each HasGridStyle (siblings_of s.below)
  children = siblings_styled s.below fine.lower

  lenders : Each (IsLender (above_of s.label s.chain s.below)) (kids_of (above_of s.label s.chain s.below) 0 s.below)
  lenders = all_lenders (above_of s.label s.chain s.below) 0 s.below (λ e. record { grid = fine.grid; siblings = children; links = fine.links; within = omega (arith, siblings_counted s.below) }) fine.lower

  abbrev g : Grid
  g = grid_of_kids s.label s.chain s.below fine.grid fine.links children lenders outer width

  c : IsFine g.context
  c = its_context s.label s.chain s.below fine.grid fine.links children lenders (outer ++ own_pair s.label width ∷ [])

  abbrev areas : List Area
  areas = areas_cut g.context s.label.grid (siblings s.label s.chain s.below fine.grid fine.links children lenders)

  inside : Each (IsInside g.context) areas
  inside = its_areas s.label s.chain s.below fine.grid fine.links children lenders (outer ++ own_pair s.label width ∷ [])

  in_columns : Each (λ (a : Area). IsWithin g.context.columns.table.low g.context.columns.table.high a.columns) areas
  in_columns = each_weaker (IsInside g.context) (λ (a : Area). IsWithin g.context.columns.table.low g.context.columns.table.high a.columns) areas (λ a i. i.columns) inside

  in_rows : Each (λ (a : Area). IsWithin g.context.rows.table.low g.context.rows.table.high a.rows) areas
  in_rows = each_weaker (IsInside g.context) (λ (a : Area). IsWithin g.context.rows.table.low g.context.rows.table.high a.rows) areas (λ a i. i.rows) inside

  across : Each (λ (a : Area). IsWithin g.placed.columns.start g.placed.columns.end a.columns) areas
  across = in_range (λ (a : Area). a.columns) g.context.columns.table.tracks g.context.columns.table.low g.context.columns.table.high areas in_columns

  down : Each (λ (a : Area). IsWithin g.placed.rows.start g.placed.rows.end a.rows) areas
  down = in_range (λ (a : Area). a.rows) g.context.rows.table.tracks g.context.rows.table.low g.context.rows.table.high areas in_rows

  in_both : (xs : List Area) → Each (λ (a : Area). IsWithin g.placed.columns.start g.placed.columns.end a.columns) xs → Each (λ (a : Area). IsWithin g.placed.rows.start g.placed.rows.end a.rows) xs → Each (IsAreaIn g.placed.columns g.placed.rows) xs
  in_both [] h k = tt
  in_both (a ∷ rest) h k = (record { columns = h.0; rows = k.0 }, in_both rest h.1 k.1)

  all_areas : Each (IsAreaIn g.placed.columns g.placed.rows) areas
  all_areas = in_both areas across down

  areas_in : (xs : List (ℕ × Area)) → Each (λ (a : ℕ × Area). IsAreaIn g.placed.columns g.placed.rows a.1) xs → AreAreasIn g.placed.columns g.placed.rows xs
  areas_in [] h = tt
  areas_in (a ∷ rest) h = (h.0, areas_in rest h.1)

  entries_in : (xs : List Entry) → Each (IsEntryOf s.label s.chain s.below fine.grid fine.links children lenders (IsAreaIn g.placed.columns g.placed.rows)) xs → AreEntriesIn g.placed.columns g.placed.rows xs
  entries_in [] h = tt
  entries_in (e ∷ rest) h = (h.0.area, entries_in rest h.1)

  column_tracks : g.context.columns.subgrid ≡ false → Each (IsOver g.placed.columns) g.columns.items
  column_tracks e =
      column_items s.label s.chain s.below fine.grid fine.links children lenders g.placed.columns outer width
      (each_weaker (λ (a : Area). IsWithin g.placed.columns.start g.placed.columns.end a.columns) (λ (a : Area). IsWithin g.placed.columns.start g.placed.columns.end (lifted g.context.columns.levels a.columns)) areas
      (λ a w. within_own g.context.columns g.placed.columns.start g.placed.columns.end a.columns (c.columns.own e) w)
      across)

  row_tracks : (columns : View 0) → g.context.rows.subgrid ≡ false → Each (IsOver g.placed.rows) (rows_of_grid g (wide_children g columns)).items
  row_tracks columns e =
      row_items s.label s.chain s.below fine.grid fine.links children lenders g.placed.rows outer width columns
      (each_weaker (λ (a : Area). IsWithin g.placed.rows.start g.placed.rows.end a.rows) (λ (a : Area). IsWithin g.placed.rows.start g.placed.rows.end (lifted g.context.rows.levels a.rows)) areas
      (λ a w. within_own g.context.rows g.placed.rows.start g.placed.rows.end a.rows (c.rows.own e) w)
      down)

  in_tracks : IsInTracks g
  in_tracks = record {
    near_columns = near_range (λ (a : Area). a.columns) g.context.columns.table.tracks g.context.columns.table areas c.columns.few c.columns.limit in_columns;
    near_rows = near_range (λ (a : Area). a.rows) g.context.rows.table.tracks g.context.rows.table areas c.rows.few c.rows.limit in_rows;
    few_columns = few_in_range (λ (a : Area). a.columns) g.context.columns.table.tracks g.context.columns.table areas c.columns.few c.columns.limit in_columns;
    few_rows = few_in_range (λ (a : Area). a.rows) g.context.rows.table.tracks g.context.rows.table areas c.rows.few c.rows.limit in_rows;
    areas = areas_in g.placed.areas (right_zipped (λ (a : ℕ × Area). IsAreaIn g.placed.columns g.placed.rows a.1) (IsAreaIn g.placed.columns g.placed.rows) with_area (ordered (siblings s.label s.chain s.below fine.grid fine.links children lenders)) areas (λ x a h. h) all_areas);
    entries = entries_in g.entries (entries_of s.label s.chain s.below fine.grid fine.links children lenders (IsAreaIn g.placed.columns g.placed.rows) (outer ++ own_pair s.label width ∷ []) all_areas);
    columns = λ e. are_in g.placed.columns g.columns.items (column_tracks e);
    rows = λ columns e. are_in g.placed.rows (rows_of_grid g (wide_children g columns)).items (row_tracks columns e);
  }

  shares : (parent : AxisContext) (span : Span) (a : GridAxis) (cells : ℕ) (named : List NamedSpan) (count : ℕ) → (context_under parent span a cells named count).subgrid ≡ is_subgrid a.template
  shares parent span a cells named count = go (is_subgrid a.template)
    where
      go : (b : Bool) → (if b then shared_context parent span a named else own_context a cells named count).subgrid ≡ b
      go true = refl
      go false = refl

  column_shared : (chain : List Link) (pairs : List Pair) → (context_by s.label.grid chain pairs).columns.subgrid ≡ sees_columns (record { label = s.label; chain = chain; below = s.below })
  column_shared [] pairs = refl
  column_shared (link ∷ chain) pairs =
      let parent : Context = context_by link.grid chain (outer_pairs pairs) in
      shares parent.columns (area_of (placed_children parent link.grid link.children) link.way).columns s.label.grid.columns (column_cells s.label.grid.areas) (named_columns s.label.grid.areas) (first_pair pairs).0

  row_shared : (chain : List Link) (pairs : List Pair) → (context_by s.label.grid chain pairs).rows.subgrid ≡ sees_rows (record { label = s.label; chain = chain; below = s.below })
  row_shared [] pairs = refl
  row_shared (link ∷ chain) pairs =
      let parent : Context = context_by link.grid chain (outer_pairs pairs) in
      shares parent.rows (area_of (placed_children parent link.grid link.children) link.way).rows s.label.grid.rows (row_cells s.label.grid.areas) (named_rows s.label.grid.areas) (first_pair pairs).1

  pub items_in : HasItemsInTracks s (grid_by s.label s.chain (kids_of (above_of s.label s.chain s.below) 0 s.below) outer width)
  items_in = record {
    inside = in_tracks;
    lines = has_lines g.context c;
    columns = column_shared s.chain (reverse (outer ++ own_pair s.label width ∷ []));
    rows = row_shared s.chain (reverse (outer ++ own_pair s.label width ∷ []));
  }

-- Of the grids of an arena whose values a text reads as.
pub items_in_tracks : (t : NodeTrees) (n : NodeId) (outer : List Pair) (width : Given) → AreReadable (bare t) → IsNumbered t → HasItemsInTracks (sight_at (bare t) n) (grid_seen (bare t) n outer width)
unfolding grid_seen
items_in_tracks t n outer width readable numbered = items_in (sight_at (bare t) n) (sight_fine (bare t) n (nodes_styled t readable numbered)) outer width

pub lines_in_tracks : (t : NodeTrees) (n : NodeId) (reps : List Pair) → AreReadable (bare t) → IsNumbered t → HasLines (context_at (sight_at (bare t) n) reps)
lines_in_tracks t n reps readable numbered = lines_of (sight_at (bare t) n) reps (sight_fine (bare t) n (nodes_styled t readable numbered))
