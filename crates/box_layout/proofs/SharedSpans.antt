-- The tracks of a subgrid are those that it spans, along both axes.
use Rattle.std.proofs.Common.{arith, refl, ap, subst, sym, ◌∙◌, ◌≡◌, ℕ, ℤ, pos, negsuc, ◌-ℤ◌, ◌≤ℤ◌, Bool, true, false, ◌&&◌, List, [], ◌∷◌, ◌++◌, map, true≢false, if◌then◌else◌}
use Rattle.std.specs.Prelude.{reverse}
use Rattle.std.specs.Int.{int_max, int_min}
use Rattle.std.proofs.lemmas.Int.{ints, int_max_is, int_min_is}
use Rattle.std.proofs.lemmas.List.{reverse-append}
use Rattle.lunit.specs.declared.geometry.Area.{Area}
use Rattle.lunit.specs.declared.geometry.Span.{Span}
use Rattle.part_rules.specs.LineNames.{NamedSpan}
use Rattle.part_rules.specs.Lists.{above_zero}
use Rattle.part_rules.specs.Placement.{range_of, with_span}
use Rattle.placing.proofs.Each.{Each}
use Rattle.placing.specs.Insides.{IsInside, IsWithin}
use Rattle.tree_rules.specs.Answers.{Kid, Pair}
use Rattle.tree_rules.specs.Chains.{Link, Sibling, above_of, has_chain, is_subgrid, sibling_of}
use Rattle.tree_rules.specs.Contexts.{AxisContext, Context, area_of, column_cells, context_by, context_under, named_columns, named_rows, own_context, placed_children, row_cells, shared_context}
use Rattle.tree_rules.specs.GridSizes.{grid_by}
use Rattle.tree_rules.specs.Labels.{GridAxis, GridStyle}
use Rattle.tree_rules.specs.Places.{Seen}
use Rattle.tree_rules.specs.Queries.{outer_context, sees_columns, sees_rows}
use Rattle.tree_rules.specs.Repetitions.{own_pair}
use Rattle.tree_rules.specs.Whole.{kids_of}
use Rattle.tree_rules.specs.declared.query.Given.{Given}
use Rattle.inline_sizes.proofs.FineContexts.{HasGridStyle, areas_cut, areas_inside, context_fine, each_weaker}
use Rattle.inline_sizes.proofs.FineSights.{IsFineSeen}
use Rattle.inline_sizes.proofs.LentInside.{siblings_styled}
use Rattle.inline_sizes.specs.TrackAxes.{track_count}
use Rattle.block_sizes.specs.Spans.{tracks_to}
use Rattle.box_layout.proofs.GridFits.{siblings_below}

-- ---- ranges

-- the range of spans that lie within the explicit tracks is these
inside_range : (cut : Area → Span) (tracks : ℕ) (areas : List Area) → Each (λ (a : Area). IsWithin (pos 0) (pos tracks) (cut a)) areas → range_of tracks (map cut areas) ≡ tracks_to tracks
inside_range cut tracks [] h = refl
inside_range cut tracks (a ∷ rest) h =
    let start : int_min (cut a).start (pos 0) ≡ pos 0 = omega (arith, ints, h.0.low, int_min_is (cut a).start (pos 0)) in
    let end : int_max (cut a).end (pos tracks) ≡ pos tracks = omega (arith, ints, h.0.high, int_max_is (cut a).end (pos tracks)) in
    ap (with_span (cut a)) (inside_range cut tracks rest h.1) ∙ (λ i. record { start = start i; end = end i })

-- line 0 lies in each range
record IsAround (r : Span) : Type 0 where
  start : r.start ≤ℤ pos 0
  end : pos 0 ≤ℤ r.end

range_around : (tracks : ℕ) (spans : List Span) → IsAround (range_of tracks spans)
range_around tracks [] = record { start = omega (arith, ints); end = omega (arith, ints) }
range_around tracks (s ∷ rest) =
    let r = range_around tracks rest in
    record {
      start = omega (arith, ints, r.start, int_min_is s.start (range_of tracks rest).start);
      end = omega (arith, ints, r.end, int_max_is s.end (range_of tracks rest).end);
    }

above_is : (z : ℤ) → pos 0 ≤ℤ z → pos (above_zero z) ≡ z
above_is (pos n) h = refl
above_is (negsuc n) h = absurd (omega (arith, ints, h))

-- the range of the spans has as many tracks as lie between its ends
pub range_counted : (tracks : ℕ) (spans : List Span) → pos (track_count (range_of tracks spans)) ≡ (range_of tracks spans).end -ℤ (range_of tracks spans).start
range_counted tracks spans =
    let r = range_around tracks spans in
    above_is ((range_of tracks spans).end -ℤ (range_of tracks spans).start) (omega (arith, ints, r.start, r.end))

pub counted_to : (n : ℕ) → track_count (tracks_to n) ≡ n
counted_to n = let whole : pos n -ℤ pos 0 ≡ pos n = omega (arith, ints) in ap above_zero whole

-- ---- the table of a subgrid

-- its limit is its own tracks, of which there are so many
record IsShared (c : AxisContext) (tracks : ℕ) : Type 0 where
  tracks_are : c.table.tracks ≡ tracks
  low : c.table.low ≡ pos 0
  high : c.table.high ≡ pos tracks

under_shared : (parent : AxisContext) (span : Span) (g : GridAxis) (cells : ℕ) (named : List NamedSpan) (count other : ℕ) → is_subgrid g.template ≡ true → IsShared (context_under parent span g cells named count) (context_under parent span g cells named other).table.tracks
under_shared parent span g cells named count other e =
    let is : context_under parent span g cells named count ≡ shared_context parent span g named = ap (λ (t : Bool). if t then shared_context parent span g named else own_context g cells named count) e in
    let also : context_under parent span g cells named other ≡ shared_context parent span g named = ap (λ (t : Bool). if t then shared_context parent span g named else own_context g cells named other) e in
    record {
      tracks_are = ap (λ (c : AxisContext). c.table.tracks) (is ∙ sym also);
      low = ap (λ (c : AxisContext). c.table.low) is;
      high = ap (λ (c : AxisContext). c.table.high) is ∙ ap (λ (c : AxisContext). pos c.table.tracks) (sym also);
    }

then_true : (x y : Bool) → (x && y) ≡ true → y ≡ true
then_true true y e = e
then_true false y e = absurd (true≢false (sym e))

column_table : (g : GridStyle) (chain : List Link) (outer : List Pair) (p : Pair) → (has_chain chain && is_subgrid g.columns.template) ≡ true → IsShared (context_by g chain (p ∷ outer)).columns (context_by g chain ((1, 1) ∷ outer)).columns.table.tracks
column_table g [] outer p e = absurd (true≢false (sym e))
column_table g (link ∷ chain) outer p e =
    let parent : Context = context_by link.grid chain outer in
    under_shared parent.columns (area_of (placed_children parent link.grid link.children) link.way).columns g.columns (column_cells g.areas) (named_columns g.areas) p.0 1 (then_true true (is_subgrid g.columns.template) e)

row_table : (g : GridStyle) (chain : List Link) (outer : List Pair) (p : Pair) → (has_chain chain && is_subgrid g.rows.template) ≡ true → IsShared (context_by g chain (p ∷ outer)).rows (context_by g chain ((1, 1) ∷ outer)).rows.table.tracks
row_table g [] outer p e = absurd (true≢false (sym e))
row_table g (link ∷ chain) outer p e =
    let parent : Context = context_by link.grid chain outer in
    under_shared parent.rows (area_of (placed_children parent link.grid link.children) link.way).rows g.rows (row_cells g.areas) (named_rows g.areas) p.1 1 (then_true true (is_subgrid g.rows.template) e)

shared_range : (c : AxisContext) (tracks : ℕ) (cut : Area → Span) (areas : List Area) → IsShared c tracks → Each (λ (a : Area). IsWithin c.table.low c.table.high (cut a)) areas → range_of c.table.tracks (map cut areas) ≡ tracks_to tracks
shared_range c tracks cut areas s h =
    inside_range cut c.table.tracks areas
    (each_weaker (λ (a : Area). IsWithin c.table.low c.table.high (cut a)) (λ (a : Area). IsWithin (pos 0) (pos c.table.tracks) (cut a)) areas
    (λ a w. subst (λ z. IsWithin z (pos c.table.tracks) (cut a)) s.low (subst (λ z. IsWithin c.table.low z (cut a)) (s.high ∙ ap pos (sym s.tracks_are)) w)) h)
    ∙ ap tracks_to s.tracks_are

-- ---- the tracks of a subgrid

module _ (s : Seen) (fine : IsFineSeen s) (outer : List Pair) (width : Given) where
  abbrev pair : Pair
  pair = own_pair s.label width

  abbrev siblings : List Sibling
  siblings = map (λ (k : Kid). sibling_of k.label) (kids_of (above_of s.label s.chain s.below) 0 s.below)

  abbrev context : Context
  context = context_by s.label.grid s.chain (reverse (outer ++ pair ∷ []))

  inside : Each (IsInside context) (areas_cut context s.label.grid siblings)
  inside =
      areas_inside context s.label.grid siblings (context_fine s.label.grid s.chain (reverse (outer ++ pair ∷ [])) fine.grid fine.links)
      (subst (Each HasGridStyle) (sym (siblings_below (above_of s.label s.chain s.below) 0 s.below)) (siblings_styled s.below fine.lower))

  column_shared : sees_columns s ≡ true → IsShared context.columns (outer_context s outer).columns.table.tracks
  column_shared shared = subst (λ (ps : List Pair). IsShared (context_by s.label.grid s.chain ps).columns (outer_context s outer).columns.table.tracks) (sym (reverse-append outer (pair ∷ []))) (column_table s.label.grid s.chain (reverse outer) pair shared)

  row_shared : sees_rows s ≡ true → IsShared context.rows (outer_context s outer).rows.table.tracks
  row_shared shared = subst (λ (ps : List Pair). IsShared (context_by s.label.grid s.chain ps).rows (outer_context s outer).rows.table.tracks) (sym (reverse-append outer (pair ∷ []))) (row_table s.label.grid s.chain (reverse outer) pair shared)

  pub columns_shared : sees_columns s ≡ true → (grid_by s.label s.chain (kids_of (above_of s.label s.chain s.below) 0 s.below) outer width).placed.columns ≡ tracks_to (outer_context s outer).columns.table.tracks
  columns_shared shared =
      shared_range context.columns (outer_context s outer).columns.table.tracks (λ (a : Area). a.columns) (areas_cut context s.label.grid siblings) (column_shared shared)
      (each_weaker (IsInside context) (λ (a : Area). IsWithin context.columns.table.low context.columns.table.high a.columns) (areas_cut context s.label.grid siblings) (λ a i. i.columns) inside)

  pub rows_shared : sees_rows s ≡ true → (grid_by s.label s.chain (kids_of (above_of s.label s.chain s.below) 0 s.below) outer width).placed.rows ≡ tracks_to (outer_context s outer).rows.table.tracks
  rows_shared shared =
      shared_range context.rows (outer_context s outer).rows.table.tracks (λ (a : Area). a.rows) (areas_cut context s.label.grid siblings) (row_shared shared)
      (each_weaker (IsInside context) (λ (a : Area). IsWithin context.rows.table.low context.rows.table.high a.rows) (areas_cut context s.label.grid siblings) (λ a i. i.rows) inside)

  -- there are as many columns and rows as lie between the ends of their ranges
  pub columns_counted : (n : ℕ) → n ≡ track_count (grid_by s.label s.chain (kids_of (above_of s.label s.chain s.below) 0 s.below) outer width).placed.columns
      → pos n ≡ ((grid_by s.label s.chain (kids_of (above_of s.label s.chain s.below) 0 s.below) outer width).placed.columns.end -ℤ (grid_by s.label s.chain (kids_of (above_of s.label s.chain s.below) 0 s.below) outer width).placed.columns.start)
  columns_counted n e = ap pos e ∙ range_counted context.columns.table.tracks (map (λ (a : Area). a.columns) (areas_cut context s.label.grid siblings))

  pub rows_counted : (n : ℕ) → n ≡ track_count (grid_by s.label s.chain (kids_of (above_of s.label s.chain s.below) 0 s.below) outer width).placed.rows
      → pos n ≡ ((grid_by s.label s.chain (kids_of (above_of s.label s.chain s.below) 0 s.below) outer width).placed.rows.end -ℤ (grid_by s.label s.chain (kids_of (above_of s.label s.chain s.below) 0 s.below) outer width).placed.rows.start)
  rows_counted n e = ap pos e ∙ range_counted context.rows.table.tracks (map (λ (a : Area). a.rows) (areas_cut context s.label.grid siblings))
