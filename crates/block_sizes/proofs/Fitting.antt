-- A child of a grid in its area, and the question to it.
use Rattle.std.proofs.Common.{arith, ◌≡◌, ℕ, ◌+◌, ◌<◌, ◌≤◌, ◌∷◌, ◌++◌, [], List, Bool, true, false, ◌&&◌, if◌then◌else◌, length, refl, sym, ap, ◌∙◌, subst, ℤ, pos, negsuc, ◌-ℤ◌, ◌≤ℤ◌, ◌^◌, reverse, drop, zero, suc}
use Rattle.std.specs.Prelude.{not, get_or}
use Rattle.std.proofs.lemmas.Bool.{false≢true}
use Rattle.std.proofs.lemmas.Int.{ints}
use Rattle.lunit.specs.declared.geometry.Area.{Area}
use Rattle.lunit.specs.declared.geometry.Span.{Span}
use Rattle.lunit.specs.declared.item.Item.{Item}
use Rattle.node_arena.specs.declared.number.NodeId.{NodeId}
use Rattle.part_rules.specs.Lists.{above_zero}
use Rattle.part_rules.specs.LineNames.{NamedSpan}
use Rattle.part_rules.specs.declared.view.Level.{Level}
use Rattle.subgrid_view.specs.Ranges.{AreNear}
use Rattle.placing.specs.Areas.{entries_at, entry_by}
use Rattle.placing.specs.Children.{IsTree}
use Rattle.placing.specs.Counted.{IsGivenSize}
use Rattle.placing.specs.Insides.{IsWithin}
use Rattle.placing.specs.Nodes.{BareTrees, kid_at, sight_at}
use Rattle.placing.specs.Seats.{IsSeat, Seat, context_at, context_by_seat, context_in, context_of, seat_by, seat_of}
use Rattle.placing.specs.declared.contexts.Above.{Above}
use Rattle.placing.specs.declared.contexts.Above.TheVariants as above
use Rattle.placing.specs.declared.items.ChildArea.{ChildArea}
use Rattle.tree_rules.specs.Answers.{Pair}
use Rattle.tree_rules.specs.AskedQueries.{block_query}
use Rattle.tree_rules.specs.Chains.{Link, has_chain, is_subgrid}
use Rattle.tree_rules.specs.Contexts as rules
use Rattle.tree_rules.specs.GridSizes.{Entry, from_first, shares_columns, shares_rows}
use Rattle.tree_rules.specs.Labels.{GridAxis, GridStyle}
use Rattle.tree_rules.specs.LentItems.{child_item}
use Rattle.tree_rules.specs.Places.{Seen}
use Rattle.tree_rules.specs.Queries.{Fits, IsGivenFor, is_container, may_ask, outer_context, sees_columns, sees_rows}
use Rattle.tree_rules.specs.declared.query.Ask.TheVariants as ask
use Rattle.tree_rules.specs.declared.query.Given.{Given}
use Rattle.tree_rules.specs.declared.query.Given.TheVariants as given
use Rattle.tree_rules.specs.declared.query.Query.{Query}
use Rattle.inline_sizes.proofs.AreasIn.{entry_at}
use Rattle.inline_sizes.specs.Grids.{IsEntry, IsGrid, IsLaid, has_subgrid_kind, pairs_seen}
use Rattle.placing.specs.Wides.{IsAbove}
use Rattle.inline_sizes.specs.GridsSeen.{HasItemsInTracks, HasLines, grid_seen}
use Rattle.inline_sizes.specs.Lifted.{IsLifted}
use Rattle.inline_sizes.specs.TrackAxes.{track_count}
use Rattle.placing.specs.declared.wide.GridBase.{GridBase}
use Rattle.placing.specs.declared.wide.GridParts.{GridParts}
use Rattle.block_sizes.specs.Spans.{LiesIn}
use Rattle.placing.specs.Spread.{AreBetween, AreSpread, IsBetween}
use Rattle.block_sizes.proofs.Widths.{columns_are}
use Rattle.block_sizes.specs.Wides.{IsChildIn, asked_of, block_seen, down_seen, farthest, items_seen, row_levels}

-- ---- booleans

both_true : (x y : Bool) → (x && y) ≡ true → x ≡ true
both_true true y e = refl
both_true false y e = absurd (false≢true e)

then_true : (x y : Bool) → (x && y) ≡ true → y ≡ true
then_true true y e = e
then_true false y e = absurd (false≢true e)

not_false : (t : Bool) → not t ≡ true → t ≡ false
not_false true h = absurd (false≢true h)
not_false false h = refl

-- ---- of what fits

pub block_fit : (s : Seen) (q : Query) → q.ask ≡ ask.Block → Fits s q → sees_rows s ≡ false
block_fit s q is f = not_false (sees_rows s) (sym (ap (may_ask (is_container s.label.kind) (sees_columns s) (sees_rows s)) is) ∙ f.ask)

pub lent_fit : (s : Seen) (q : Query) → q.ask ≡ ask.LendRows → Fits s q → has_chain s.chain ≡ true
lent_fit s q is f = both_true (has_chain s.chain) _ (sym (ap (may_ask (is_container s.label.kind) (sees_columns s) (sees_rows s)) is) ∙ f.ask)

-- ---- what is given to a child

-- a size fits whatever the tracks are
given_other : (shared : Bool) (m n : ℕ) (g : Given) → (shared ≡ true → m ≡ n) → IsGivenFor true shared m g → IsGivenFor true shared n g
given_other true m n g e h = subst (λ k. IsGivenFor true true k g) (e refl) h
given_other false m n (given.Size x) e h = h
given_other false m n (given.Tracks edges gap) e h = absurd h
given_other false m n given.None e h = absurd h

-- the tracks of a subgrid are those that it spans
shared_tracks : (parent : rules.AxisContext) (span : Span) (a : GridAxis) (cells : ℕ) (named : List NamedSpan) (count : ℕ) → is_subgrid a.template ≡ true → (rules.context_under parent span a cells named count).table.tracks ≡ above_zero (span.end -ℤ span.start)
shared_tracks parent span a cells named count e = ap (λ (t : Bool). (if t then rules.shared_context parent span a named else rules.own_context a cells named count).table.tracks) e

seat_by_tracks : (g : GridStyle) (up : Above) (area : Area) (chain : List Link) (outer : List Pair) → has_chain chain ≡ true → seat_by up area ≡ seat_of chain outer → is_subgrid g.columns.template ≡ true
    → (context_in (seat_of chain outer) g (1, 1)).columns.table.tracks ≡ above_zero (area.columns.end -ℤ area.columns.start)
seat_by_tracks g above.Nothing area [] outer some e sub = absurd (false≢true some)
seat_by_tracks g above.Nothing area (l ∷ chain) outer some e sub = absurd cc
seat_by_tracks g (above.Grid c) area chain outer some e sub =
    ap (λ (z : Seat). (context_in z g (1, 1)).columns.table.tracks) (sym e) ∙ shared_tracks (context_of c).columns area.columns g.columns (rules.column_cells g.areas) (rules.named_columns g.areas) 1 sub

seat_tracks : (s : Seen) (reps : List Pair) (up : Above) (area : Area) → IsSeat s reps up area → has_chain s.chain ≡ true → is_subgrid s.label.grid.columns.template ≡ true → (outer_context s reps).columns.table.tracks ≡ above_zero (area.columns.end -ℤ area.columns.start)
seat_tracks s reps up area seat some sub =
    ap (λ (c : rules.Context). c.columns.table.tracks) (context_by_seat s.label.grid s.chain (1, 1) (reverse reps)) ∙ seat_by_tracks s.label.grid up area s.chain (reverse reps) some seat.seat sub

-- ---- levels

pub rows_above : (c : rules.Context) (a : Above) → IsAbove c a → row_levels a ≡ c.rows.levels
rows_above c above.Nothing h = absurd h
rows_above c (above.Grid made) h = ap (λ (z : rules.Context). z.rows.levels) h

-- ---- the question to a child

from_first_length : (tracks span : Span) → above_zero ((from_first tracks span).end -ℤ (from_first tracks span).start) ≡ above_zero (span.end -ℤ span.start)
from_first_length tracks span =
    let same : (from_first tracks span).end -ℤ (from_first tracks span).start ≡ span.end -ℤ span.start = omega (arith, ints) in
    ap above_zero same

module _ (b : BareTrees) (n : NodeId) (base : GridBase) (e : ChildArea) (h : IsChildIn b n base e) where
  pub shared_chain : shares_rows (kid_at b e.child) ≡ true → has_chain (sight_at b e.child).chain ≡ true
  shared_chain is = both_true (has_chain (sight_at b e.child).chain) _ is

  pub pairs_all : has_chain (sight_at b e.child).chain ≡ true → pairs_seen b base e ≡ base.pairs
  pairs_all some = ap (λ (t : Bool). if t then base.pairs else []) some

  pub pairs_none : has_chain (sight_at b e.child).chain ≡ false → pairs_seen b base e ≡ []
  pairs_none none = ap (λ (t : Bool). if t then base.pairs else []) none

  -- it is told by its own values
  pub rows_told : shares_rows (kid_at b e.child) ≡ (has_subgrid_kind (sight_at b e.child).label && is_subgrid (sight_at b e.child).label.grid.rows.template)
  rows_told = ap (λ (t : Bool). t && is_subgrid (sight_at b e.child).label.grid.rows.template) h.entry.chain

  pub columns_told : shares_columns (kid_at b e.child) ≡ (has_subgrid_kind (sight_at b e.child).label && is_subgrid (sight_at b e.child).label.grid.columns.template)
  columns_told = ap (λ (t : Bool). t && is_subgrid (sight_at b e.child).label.grid.columns.template) h.entry.chain

  child_tracks : sees_columns (sight_at b e.child) ≡ true → above_zero ((from_first base.placed.columns e.area.columns).end -ℤ (from_first base.placed.columns e.area.columns).start) ≡ (outer_context (sight_at b e.child) (pairs_seen b base e)).columns.table.tracks
  child_tracks is =
      let some : has_chain (sight_at b e.child).chain ≡ true = both_true (has_chain (sight_at b e.child).chain) _ is in
      from_first_length base.placed.columns e.area.columns
      ∙ sym (seat_tracks (sight_at b e.child) base.pairs base.above e.area (h.entry.seat some) some (then_true (has_chain (sight_at b e.child).chain) _ is))
      ∙ ap (λ (r : List Pair). (outer_context (sight_at b e.child) r).columns.table.tracks) (sym (pairs_all some))

  -- the question fits it
  pub child_fits : (inline : Given) → IsGivenFor true (shares_columns (kid_at b e.child)) (above_zero ((from_first base.placed.columns e.area.columns).end -ℤ (from_first base.placed.columns e.area.columns).start)) inline
      → Fits (sight_at b e.child) (block_query (shares_rows (kid_at b e.child)) (pairs_seen b base e) inline)
  child_fits inline f = at (sees_rows (sight_at b e.child)) refl
    where
      width : IsGivenFor true (sees_columns (sight_at b e.child)) (outer_context (sight_at b e.child) (pairs_seen b base e)).columns.table.tracks inline
      width = given_other (sees_columns (sight_at b e.child)) _ _ inline child_tracks f

      at : (shared : Bool) → sees_rows (sight_at b e.child) ≡ shared → Fits (sight_at b e.child) (block_query shared (pairs_seen b base e) inline)
      at true is = record { ask = is; reps = h.entry.counts; inline = width; block = refl }
      at false is = record { ask = ap not is; reps = h.entry.counts; inline = width; block = refl }

  -- ---- what it answers

  pub asked_as : (shared : Bool) (width : Given) → shares_rows (kid_at b e.child) ≡ shared → block_query shared (pairs_seen b base e) width ≡ asked_of b base e width
  asked_as shared width is = ap (λ (t : Bool). block_query t (pairs_seen b base e) width) (sym is)

  pub block_none : (width : Given) → shares_rows (kid_at b e.child) ≡ true → pos 0 ≡ block_seen b base e width
  block_none width is = ap (λ (t : Bool). if t then pos 0 else (down_seen b base e width).block) (sym is)

  pub block_own : (width : Given) (size : ℤ) → shares_rows (kid_at b e.child) ≡ false → size ≡ (down_seen b base e width).block → size ≡ block_seen b base e width
  block_own width size is v = v ∙ ap (λ (t : Bool). if t then pos 0 else (down_seen b base e width).block) (sym is)

  own_items : Given → List Item
  own_items width =
      child_item (context_at (sight_at b n) base.pairs).rows.levels (kid_at b e.child).label.content.border_box (kid_at b e.child).label.content.scrolls (kid_at b e.child).label.grid.rows (kid_at b e.child).label.content.block e.area.rows
      ((down_seen b base e width).block, (down_seen b base e width).block) ∷ []

  pub items_lent : (width : Given) (old new : List Item) → shares_rows (kid_at b e.child) ≡ true → new ≡ old ++ (down_seen b base e width).lend_rows → new ≡ old ++ items_seen b n base e width
  unfolding own_items
  items_lent width old new is v = v ∙ ap (λ (t : Bool). old ++ (if t then (down_seen b base e width).lend_rows else own_items width)) (sym is)

  pub items_own : (width : Given) (old new : List Item) (item : Item) (size : ℤ) → shares_rows (kid_at b e.child) ≡ false → IsLaid b n base → size ≡ (down_seen b base e width).block →
      item ≡ child_item (row_levels base.above) (kid_at b e.child).label.content.border_box (kid_at b e.child).label.content.scrolls (kid_at b e.child).label.grid.rows (kid_at b e.child).label.content.block e.area.rows (size, size) → new ≡ old ++ item ∷ [] → new ≡ old ++ items_seen b n base e width
  unfolding own_items
  items_own width old new item size is laid v made grown =
      grown
      ∙ ap (λ (i : Item). old ++ i ∷ [])
      (made ∙
      (λ j. child_item (rows_above (context_at (sight_at b n) base.pairs) base.above laid.context j) (kid_at b e.child).label.content.border_box (kid_at b e.child).label.content.scrolls (kid_at b e.child).label.grid.rows (kid_at b e.child).label.content.block e.area.rows
      (v j, v j)))
      ∙ ap (λ (t : Bool). old ++ (if t then (down_seen b base e width).lend_rows else own_items width)) (sym is)

-- ---- how far edges lie apart

between_at : (low high : ℤ) (edges : List (ℤ × ℤ)) → AreBetween low high edges → (k : ℕ) (d : ℤ × ℤ) → k < length edges → IsBetween low high (get_or edges k d)
between_at low high [] h k d l = absurd (omega (arith, l))
between_at low high (e ∷ es) h zero d l = h.0
between_at low high (e ∷ es) h (suc k) d l = between_at low high es h.1 k d (omega (arith, l))

pub spread_near : (by : ℕ) (edges : List (ℤ × ℤ)) → AreSpread by edges → by ≤ 2 ^ 55 → AreNear edges
spread_near by edges s h = λ k d l.
    let t = between_at s.low s.high edges s.between k d l in
    record { start = omega (arith, ints, s.below, s.above, s.width, t.start_low, t.start_high, h); end = omega (arith, ints, s.below, s.above, s.width, t.end_low, t.end_high, h) }

pub farthest_near : (level : ℕ) → level ≤ 64 → farthest level ≤ 2 ^ 55
farthest_near level h = omega (arith, h)

pub farthest_next : (level next : ℕ) → next ≡ level + 1 → farthest level + 2 ^ 33 ≡ farthest next
farthest_next level next e = omega (arith, e)

-- ---- a child in its area

few_tracks : (z : ℤ) (n : ℕ) → above_zero z ≤ n → z ≤ℤ pos n
few_tracks (pos k) n h = omega (arith, ints, h)
few_tracks (negsuc k) n h = omega (arith, ints)

lies_within : (tracks span : Span) → IsWithin tracks.start tracks.end span → track_count tracks ≤ 131072 → LiesIn tracks span
lies_within tracks span w few = record { start = w.low; order = omega (arith, ints, w.some); end = w.high; few = few_tracks (tracks.end -ℤ tracks.start) 131072 few }

pub child_here : (b : BareTrees) (n : NodeId) (outer : List Pair) (width : Given) (parts : GridParts) (e : ChildArea) (k : ℕ) → IsGrid b n outer width parts → IsTree b → IsEntry b n parts.base e → HasLines (context_at (sight_at b n) parts.base.pairs) →
    HasItemsInTracks (sight_at b n) (grid_seen b n outer width) →
    drop k (entries_at b n parts.base.placed) ≡ entry_by b e ∷ drop (k + 1) (entries_at b n parts.base.placed) → IsChildIn b n parts.base e
child_here b n outer width parts e k grid tree entry lines items next =
    record {
      entry = entry;
      lifted = subst (λ (l : List Level). IsLifted l e.area.rows) (sym (rows_above (context_at (sight_at b n) parts.base.pairs) parts.base.above grid.base.laid.context)) (lines.row_area e.area entry.inside);
      columns = subst (λ (t : Span). LiesIn t e.area.columns) (sym (columns_are b n outer width parts grid))
          (lies_within (grid_seen b n outer width).placed.columns e.area.columns
          (entry_at (grid_seen b n outer width).placed.columns (grid_seen b n outer width).placed.rows (grid_seen b n outer width).entries _ k (entry_by b e) items.inside.entries (subst (λ (l : List Entry). drop k l ≡ entry_by b e ∷ drop (k + 1) l) grid.entries next)).columns
          items.inside.few_columns);
      level = (tree.next n e.child e.number entry.number).level;
    }

-- what fits is a size of at least 0, where it is a size
pub given_some : (shared : Bool) (n : ℕ) (g : Given) → IsGivenFor true shared n g → IsGivenSize g
given_some true n (given.Size x) h = absurd h
given_some false n (given.Size x) h = h
given_some shared n (given.Tracks edges gap) h = tt
given_some shared n given.None h = tt
