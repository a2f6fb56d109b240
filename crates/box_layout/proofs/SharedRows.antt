-- The rows of a subgrid are the tracks that it spans, and how many rows a grid has.
use Rattle.std.proofs.Common.{arith, refl, ap, subst, sym, ◌∙◌, ◌≡◌, ℕ, ◌+◌, ℤ, pos, negsuc, ◌-ℤ◌, ◌≤ℤ◌, Bool, true, false, ◌&&◌, List, [], ◌∷◌, ◌++◌, map, true≢false, if◌then◌else◌}
use Rattle.std.specs.Prelude.{reverse}
use Rattle.std.specs.Int.{int_max, int_min}
use Rattle.std.proofs.lemmas.Int.{ints, int_max_is, int_min_is}
use Rattle.std.proofs.lemmas.List.{reverse-append}
use Rattle.lunit.specs.declared.geometry.Area.{Area}
use Rattle.lunit.specs.declared.geometry.Span.{Span}
use Rattle.node_arena.specs.Numbers.{IsNumbered}
use Rattle.node_arena.specs.declared.number.NodeId.{NodeId}
use Rattle.part_rules.specs.LineNames.{NamedSpan}
use Rattle.part_rules.specs.Lists.{above_zero}
use Rattle.part_rules.specs.Placement.{range_of, with_span}
use Rattle.plain_tree.specs.Trees.{Trees, leafless, tree}
use Rattle.placing.proofs.Each.{Each}
use Rattle.placing.specs.Insides.{IsInside, IsWithin}
use Rattle.placing.specs.Nodes.{NodeTrees, bare, kids_at, sight_at}
use Rattle.placing.specs.Ranges.{AreReadable}
use Rattle.tree_rules.specs.Answers.{Kid, Pair}
use Rattle.tree_rules.specs.Chains.{Above, Link, Sibling, above_of, has_chain, is_subgrid, sibling_of}
use Rattle.tree_rules.specs.Contexts.{AxisContext, Context, area_of, row_cells, context_by, context_under, named_rows, own_context, placed_children, shared_context}
use Rattle.tree_rules.specs.GridSizes.{grid_by}
use Rattle.tree_rules.specs.Labels.{GridAxis, GridStyle, Label}
use Rattle.tree_rules.specs.Places.{Seen}
use Rattle.tree_rules.specs.Queries.{outer_context, sees_rows}
use Rattle.tree_rules.specs.Repetitions.{own_pair}
use Rattle.tree_rules.specs.Whole.{kids_of}
use Rattle.tree_rules.specs.declared.query.Given.{Given}
use Rattle.inline_sizes.proofs.FineContexts.{HasGridStyle, areas_cut, areas_inside, context_fine, each_weaker}
use Rattle.inline_sizes.proofs.FineSights.{IsFineSeen, nodes_styled, sight_fine}
use Rattle.inline_sizes.proofs.LentInside.{AreStyled}
use Rattle.inline_sizes.specs.GridsSeen.{grid_seen}
use Rattle.block_sizes.specs.Spans.{HasZero, tracks_to}

-- ---- ranges

-- the range of spans that lie within the explicit tracks is these
inside_range : (along : Area → Span) (tracks : ℕ) (areas : List Area) → Each (λ (a : Area). IsWithin (pos 0) (pos tracks) (along a)) areas → range_of tracks (map along areas) ≡ tracks_to tracks
inside_range along tracks [] h = refl
inside_range along tracks (a ∷ rest) h =
    let start : int_min (along a).start (pos 0) ≡ pos 0 = omega (arith, ints, h.0.low, int_min_is (along a).start (pos 0)) in
    let end : int_max (along a).end (pos tracks) ≡ pos tracks = omega (arith, ints, h.0.high, int_max_is (along a).end (pos tracks)) in
    ap (with_span (along a)) (inside_range along tracks rest h.1) ∙ (λ i. record { start = start i; end = end i })

-- line 0 lies in each range
pub range_zero : (tracks : ℕ) (spans : List Span) → HasZero (range_of tracks spans)
range_zero tracks [] = record { start = omega (arith, ints); end = omega (arith, ints) }
range_zero tracks (s ∷ rest) =
    let r = range_zero tracks rest in
    record {
      start = omega (arith, ints, r.start, int_min_is s.start (range_of tracks rest).start);
      end = omega (arith, ints, r.end, int_max_is s.end (range_of tracks rest).end);
    }

above_is : (z : ℤ) → pos 0 ≤ℤ z → pos (above_zero z) ≡ z
above_is (pos n) h = refl
above_is (negsuc n) h = absurd (omega (arith, ints, h))

-- a range that has line 0 has as many tracks as lie between its ends
pub count_is : (r : Span) → HasZero r → pos (above_zero (r.end -ℤ r.start)) ≡ r.end -ℤ r.start
count_is r h = above_is (r.end -ℤ r.start) (omega (arith, ints, h.start, h.end))

-- ---- the table of a subgrid

-- its limit is its own tracks, of which there are so many
record IsShared (c : AxisContext) (tracks : ℕ) : Type 0 where
  pub tracks_are : c.table.tracks ≡ tracks
  pub low : c.table.low ≡ pos 0
  pub high : c.table.high ≡ pos tracks

under_shared : (parent : AxisContext) (span : Span) (g : GridAxis) (cells : ℕ) (named : List NamedSpan) (count other : ℕ) → is_subgrid g.template ≡ true → IsShared (context_under parent span g cells named count) (context_under parent span g cells named other).table.tracks
under_shared parent span g cells named count other e =
    let is : context_under parent span g cells named count ≡ shared_context parent span g named = ap (λ (t : Bool). if t then shared_context parent span g named else own_context g cells named count) e in
    let also : context_under parent span g cells named other ≡ shared_context parent span g named = ap (λ (t : Bool). if t then shared_context parent span g named else own_context g cells named other) e in
    record {
      tracks_are = ap (λ (c : AxisContext). c.table.tracks) (is ∙ sym also);
      low = ap (λ (c : AxisContext). c.table.low) is;
      high = ap (λ (c : AxisContext). c.table.high) is ∙ ap (λ (c : AxisContext). pos c.table.tracks) (sym also);
    }

both : (x y : Bool) → (x && y) ≡ true → y ≡ true
both true y e = e
both false y e = absurd (true≢false (sym e))

table_shared : (g : GridStyle) (chain : List Link) (outer : List Pair) (p : Pair) → (has_chain chain && is_subgrid g.rows.template) ≡ true → IsShared (context_by g chain (p ∷ outer)).rows (context_by g chain ((1, 1) ∷ outer)).rows.table.tracks
table_shared g [] outer p e = absurd (true≢false (sym e))
table_shared g (link ∷ chain) outer p e =
    let parent : Context = context_by link.grid chain outer in
    under_shared parent.rows (area_of (placed_children parent link.grid link.children) link.way).rows g.rows (row_cells g.areas) (named_rows g.areas) p.1 1 (both true (is_subgrid g.rows.template) e)

-- ---- the tracks of a subgrid

siblings_fine : (above : Above) (n : ℕ) (t : Trees Label) → AreStyled t → Each HasGridStyle (map (λ (k : Kid). sibling_of k.label) (kids_of above n t))
siblings_fine above n leafless h = tt
siblings_fine above n (tree x below after) h = (h.0, siblings_fine above (n + 1) after h.1.1)

module _ (s : Seen) (fine : IsFineSeen s) (outer : List Pair) (width : Given) (shared : sees_rows s ≡ true) where
  pair : Pair
  pair = own_pair s.label width

  siblings : List Sibling
  siblings = map (λ (k : Kid). sibling_of k.label) (kids_of (above_of s.label s.chain s.below) 0 s.below)

  context : Context
  context = context_by s.label.grid s.chain (reverse (outer ++ pair ∷ []))

  table : IsShared context.rows (outer_context s outer).rows.table.tracks
  unfolding context
  table = subst (λ (ps : List Pair). IsShared (context_by s.label.grid s.chain ps).rows (outer_context s outer).rows.table.tracks) (sym (reverse-append outer (pair ∷ []))) (table_shared s.label.grid s.chain (reverse outer) pair shared)

  within : Each (λ (a : Area). IsWithin (pos 0) (pos context.rows.table.tracks) a.rows) (areas_cut context s.label.grid siblings)
  unfolding context siblings
  within =
      each_weaker (IsInside context) (λ (a : Area). IsWithin (pos 0) (pos context.rows.table.tracks) a.rows) (areas_cut context s.label.grid siblings)
      (λ a i. subst (λ z. IsWithin z (pos context.rows.table.tracks) a.rows) table.low (subst (λ z. IsWithin context.rows.table.low z a.rows) (table.high ∙ ap pos (sym table.tracks_are)) i.rows))
      (areas_inside context s.label.grid siblings (context_fine s.label.grid s.chain (reverse (outer ++ pair ∷ [])) fine.grid fine.links) (siblings_fine (above_of s.label s.chain s.below) 0 s.below fine.lower))

  pub rows_shared : (grid_by s.label s.chain (kids_of (above_of s.label s.chain s.below) 0 s.below) outer width).placed.rows ≡ tracks_to (outer_context s outer).rows.table.tracks
  unfolding context siblings pair
  rows_shared = inside_range (λ (a : Area). a.rows) context.rows.table.tracks (areas_cut context s.label.grid siblings) within ∙ ap tracks_to table.tracks_are

-- Of the subgrids of an arena whose values a text reads as.
pub shared_rows : (t : NodeTrees) (n : NodeId) (outer : List Pair) (width : Given) → AreReadable (bare t) → IsNumbered t → sees_rows (sight_at (bare t) n) ≡ true → (grid_seen (bare t) n outer width).placed.rows ≡ tracks_to (outer_context (sight_at (bare t) n) outer).rows.table.tracks
unfolding grid_seen
shared_rows t n outer width readable numbered shared = rows_shared (sight_at (bare t) n) (sight_fine (bare t) n (nodes_styled t readable numbered)) outer width shared

-- Line 0 lies in the rows of every grid.
pub rows_zero : (t : NodeTrees) (n : NodeId) (outer : List Pair) (width : Given) → HasZero (grid_seen (bare t) n outer width).placed.rows
unfolding grid_seen
rows_zero t n outer width =
    let c : Context = context_by (sight_at (bare t) n).label.grid (sight_at (bare t) n).chain (reverse (outer ++ own_pair (sight_at (bare t) n).label width ∷ [])) in
    range_zero c.rows.table.tracks (map (λ (a : Area). a.rows) (areas_cut c (sight_at (bare t) n).label.grid (map (λ (k : Kid). sibling_of k.label) (kids_at (bare t) n))))
