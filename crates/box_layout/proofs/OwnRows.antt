-- The rows of a grid by what it is given, as the code holds them.
use Rattle.std.proofs.Common.{arith, refl, ap, subst, sym, ◌∙◌, ◌≡◌, ℕ, zero, suc, ◌^◌, ◌<◌, ◌≤◌, ℤ, pos, ◌-ℤ◌, ◌≤ℤ◌, Bool, true, false, List, [], ◌∷◌, length, map}
use Rattle.std.specs.Prelude.{get_or, Some, IfSome, ◌+◌}
use Rattle.std.proofs.lemmas.Int.{ints}
use Rattle.lunit.specs.declared.geometry.Area.{Area}
use Rattle.lunit.specs.declared.geometry.Span.{Span}
use Rattle.lunit.specs.declared.item.Item.{Item}
use Rattle.node_arena.specs.declared.number.NodeId.{NodeId}
use Rattle.part_rules.specs.Lists.{zipped}
use Rattle.style_types.specs.Styles.{StyleMap}
use Rattle.subgrid_view.specs.Ranges.{AreNear}
use Rattle.placing.proofs.Entries.{counts}
use Rattle.placing.specs.Areas.{numbered_area, placed_of}
use Rattle.placing.specs.Counted.{IsGivenSize}
use Rattle.placing.specs.Nodes.{BareTrees, IsLive, sight_at}
use Rattle.placing.specs.Ranges.{AreReadable}
use Rattle.tree_rules.specs.Answers.{Pair}
use Rattle.tree_rules.specs.Contexts as rules
use Rattle.tree_rules.specs.GridSizes.{TrackAxis, view_by}
use Rattle.tree_rules.specs.Labels.{content_of, grid_of}
use Rattle.tree_rules.specs.Queries.{IsGivenFor, outer_context, sees_rows}
use Rattle.tree_rules.specs.Repetitions.{own_pair}
use Rattle.tree_rules.specs.Templates.{written}
use Rattle.tree_rules.specs.declared.kind.NodeKind.TheVariants as kind
use Rattle.tree_rules.specs.declared.query.Given.{Given}
use Rattle.tree_rules.specs.declared.query.Given.TheVariants as given
use Rattle.inline_sizes.specs.GridsSeen.{HasItemsInTracks, grid_seen}
use Rattle.inline_sizes.specs.TrackAxes.{CanSize, track_axis, track_count}
use Rattle.block_sizes.proofs.RowAxes.{rows_can_size}
use Rattle.block_sizes.proofs.Seen.{spread_grows}
use Rattle.block_sizes.specs.Fitting.{CanSizeFor}
use Rattle.block_sizes.specs.Spans.{HasZero, tracks_to}
use Rattle.part_rules.specs.declared.view.View.{View}
use Rattle.placing.specs.Spread.{AreBetween, AreSpread, IsBetween}
use Rattle.placing.specs.Wides.{HoldsRows}
use Rattle.placing.specs.declared.wide.RowsAt.{RowsAt}
use Rattle.block_sizes.specs.Wides.{IsWide, farthest, rows_seen}
use Rattle.placing.specs.declared.wide.GridWide.{GridWide}
use Rattle.box_layout.specs.GridFrames.{AreTracks}
use Rattle.box_layout.proofs.SharedRows.{count_is}

-- ---- what is given

sized_for : (sees : Bool) (tracks : ℕ) (x : ℤ) → IsGivenFor true sees tracks (given.Size x) → sees ≡ false
sized_for true tracks x h = absurd h
sized_for false tracks x h = refl

none_for : {A : Type 0} (sees : Bool) (tracks : ℕ) → IsGivenFor true sees tracks given.None → A
none_for true tracks h = absurd h
none_for false tracks h = absurd h

pub can_for : (sees : Bool) (tracks : ℕ) (height : Given) (style : StyleMap) (span : Span) (items : List Item) → IsGivenFor true sees tracks height → (sees ≡ false → CanSize 1 style span items) → CanSizeFor height 1 style span items
can_for sees tracks given.None style span items h f = none_for sees tracks h
can_for sees tracks (given.Size x) style span items h f = f (sized_for sees tracks x h)
can_for sees tracks (given.Tracks edges gap) style span items h f = tt

size_here : (sees : Bool) (tracks : ℕ) (x : ℤ) → IsGivenFor true sees tracks (given.Size x) → pos 0 ≤ℤ x
size_here true tracks x h = absurd h
size_here false tracks x h = h

pub size_given : (sees : Bool) (tracks : ℕ) (height : Given) → IsGivenFor true sees tracks height → IsGivenSize height
size_given sees tracks given.None h = tt
size_given sees tracks (given.Size x) h = size_here sees tracks x h
size_given sees tracks (given.Tracks edges gap) h = tt

tracks_here : (sees : Bool) (tracks others : ℕ) (edges : List (ℤ × ℤ)) (gap : ℤ) → (sees ≡ true → others ≡ tracks) → IsGivenFor true sees tracks (given.Tracks edges gap) → IsGivenFor true sees others (given.Tracks edges gap)
tracks_here true tracks others edges gap e h = (h.0 ∙ sym (e refl), h.1)
tracks_here false tracks others edges gap e h = absurd h

size_for : (sees : Bool) (tracks others : ℕ) (x : ℤ) → IsGivenFor true sees tracks (given.Size x) → IsGivenFor true sees others (given.Size x)
size_for true tracks others x h = absurd h
size_for false tracks others x h = h

-- for as many tracks
pub given_for : (sees : Bool) (tracks others : ℕ) (height : Given) → (sees ≡ true → others ≡ tracks) → IsGivenFor true sees tracks height → IsGivenFor true sees others height
given_for sees tracks others given.None e h = none_for sees tracks h
given_for sees tracks others (given.Size x) e h = size_for sees tracks others x h
given_for sees tracks others (given.Tracks edges gap) e h = tracks_here sees tracks others edges gap e h

pub far_enough : (level : ℕ) → 2 ^ 51 ≤ farthest level
far_enough level = omega arith

-- ---- how far edges lie apart

between_at : (low high : ℤ) (edges : List (ℤ × ℤ)) → AreBetween low high edges → (k : ℕ) (d : ℤ × ℤ) → k < length edges → IsBetween low high (get_or edges k d)
between_at low high [] h k d l = absurd (omega (arith, l))
between_at low high (e ∷ es) h zero d l = h.0
between_at low high (e ∷ es) h (suc k) d l = between_at low high es h.1 k d (omega (arith, l))

spread_near : (by : ℕ) (edges : List (ℤ × ℤ)) → AreSpread by edges → by ≤ 2 ^ 55 → AreNear edges
spread_near by edges s h = λ k d l.
    let t = between_at s.low s.high edges s.between k d l in
    record { start = omega (arith, ints, s.below, s.above, s.width, t.start_low, t.start_high, h); end = omega (arith, ints, s.below, s.above, s.width, t.end_low, t.end_high, h) }

farthest_near : (level : ℕ) → level ≤ 64 → farthest level ≤ 2 ^ 55
farthest_near level h = omega (arith, h)

-- tracks of a node of this level
pub are_tracks : (tracks : Span) (edges : List (ℤ × ℤ)) (level : ℕ) → level ≤ 64 → pos (length edges) ≡ (tracks.end -ℤ tracks.start) → AreSpread (farthest level) edges → AreTracks tracks edges
are_tracks tracks edges level low counted spread =
    record {
      counted = counted;
      near = spread_near (farthest level) edges spread (farthest_near level low);
      spread = record { low = spread.low; high = spread.high; below = spread.below; above = spread.above; width = omega (arith, ints, spread.width, farthest_near level low); between = spread.between };
    }

-- ---- the grid of the code

spans_zipped : (numbers : List ℕ) (areas : List (NodeId × Area)) → length numbers ≡ length areas → map (λ (a : ℕ × Area). a.1.rows) (zipped numbered_area numbers areas) ≡ map (λ (e : NodeId × Area). e.1.rows) areas
spans_zipped [] [] h = refl
spans_zipped [] (e ∷ es) h = absurd (omega (arith, h))
spans_zipped (n ∷ ns) [] h = absurd (omega (arith, h))
spans_zipped (n ∷ ns) (e ∷ es) h = ap (λ (l : List Span). e.1.rows ∷ l) (spans_zipped ns es (omega (arith, h)))

module _ (b : BareTrees) (n : NodeId) (outer : List Pair) (width : Given) (w : GridWide) (wide : IsWide b n outer width w) where
  placed_is : placed_of w.parts.base.placed ≡ (grid_seen b n outer width).placed
  unfolding grid_seen
  placed_is = wide.grid.placed.placed

  tracks_are : w.parts.base.placed.rows ≡ (grid_seen b n outer width).placed.rows
  tracks_are = ap (λ (p : rules.Placed). p.rows) placed_is

  spans_are : map (λ (e : NodeId × Area). e.1.rows) w.parts.base.placed.areas ≡ map (λ (a : ℕ × Area). a.1.rows) (grid_seen b n outer width).placed.areas
  spans_are = sym (spans_zipped w.parts.base.placed.numbers w.parts.base.placed.areas (counts b n w.parts.base.placed wide.grid.placed.children)) ∙ ap (λ (p : rules.Placed). map (λ (a : ℕ × Area). a.1.rows) p.areas) placed_is

  -- the counts of its repetitions, which in the rows depend on no width
  repeats_are : (style : StyleMap) (pair : Pair) → grid_of style ≡ (sight_at b n).label.grid → content_of style ≡ (sight_at b n).label.content → pair ≡ own_pair (record { name = []; kind = kind.Grid; grid = grid_of style; content = content_of style }) given.None →
      pair.1 ≡ (own_pair (sight_at b n).label given.None).1
  repeats_are style pair g c p = ap (λ (q : Pair). q.1) p ∙ (λ i. (own_pair (record { name = []; kind = kind.Grid; grid = g i; content = c i }) given.None).1)

  axis_is : (style : StyleMap) (pair : Pair) (spans : List Span) (items : List Item) → grid_of style ≡ (sight_at b n).label.grid → content_of style ≡ (sight_at b n).label.content →
      pair ≡ own_pair (record { name = []; kind = kind.Grid; grid = grid_of style; content = content_of style }) given.None → spans ≡ map (λ (e : NodeId × Area). e.1.rows) w.parts.base.placed.areas → items ≡ w.items
      → track_axis 1 style pair.1 spans w.parts.base.placed.rows items ≡ rows_seen b n outer width
  unfolding grid_seen rows_seen
  axis_is style pair spans items g c p s same =
      λ i. record {
        border_box = (c i).border_box;
        grid = (g i).rows;
        content = (c i).block;
        written = written (g i).rows.template (repeats_are style pair g c p i);
        spans = (s ∙ spans_are) i;
        tracks = tracks_are i;
        items = (same ∙ wide.items) i;
      }

  -- the view
  pub rows_are : (height : Given) (style : StyleMap) (pair : Pair) (spans : List Span) (items : List Item) → grid_of style ≡ (sight_at b n).label.grid → content_of style ≡ (sight_at b n).label.content →
      pair ≡ own_pair (record { name = []; kind = kind.Grid; grid = grid_of style; content = content_of style }) given.None → spans ≡ map (λ (e : NodeId × Area). e.1.rows) w.parts.base.placed.areas → items ≡ w.items
      → view_by {axis = 1} (track_axis 1 style pair.1 spans w.parts.base.placed.rows items) height ≡ view_by {axis = 1} (rows_seen b n outer width) height
  rows_are height style pair spans items g c p s same = ap (λ (a : TrackAxis). view_by {axis = 1} a height) (axis_is style pair spans items g c p s same)

  -- they can be sized, where they are
  pub can_be : (height : Given) (style : StyleMap) (items : List Item) → AreReadable b → IsLive b n → grid_of style ≡ (sight_at b n).label.grid → items ≡ w.items → HasItemsInTracks (sight_at b n) (grid_seen b n outer width)
      → IsGivenFor true (sees_rows (sight_at b n)) (outer_context (sight_at b n) outer).rows.table.tracks height → CanSizeFor height 1 style w.parts.base.placed.rows items
  can_be height style items readable live g same h fits =
      can_for (sees_rows (sight_at b n)) (outer_context (sight_at b n) outer).rows.table.tracks height style w.parts.base.placed.rows items fits
      (λ own. subst (λ (l : List Item). CanSize 1 style w.parts.base.placed.rows l) (sym same) (rows_can_size b n outer width w wide style readable live g own h))

  pub few_rows : HasItemsInTracks (sight_at b n) (grid_seen b n outer width) → track_count w.parts.base.placed.rows ≤ 131072
  few_rows h = subst (λ (s : Span). track_count s ≤ 131072) (sym tracks_are) h.inside.few_rows

  pub shared_for : (height : Given) → (sees_rows (sight_at b n) ≡ true → (grid_seen b n outer width).placed.rows ≡ tracks_to (outer_context (sight_at b n) outer).rows.table.tracks)
      → IsGivenFor true (sees_rows (sight_at b n)) (outer_context (sight_at b n) outer).rows.table.tracks height → IsGivenFor true (sees_rows (sight_at b n)) (track_count w.parts.base.placed.rows) height
  shared_for height shared fits =
      given_for (sees_rows (sight_at b n)) (outer_context (sight_at b n) outer).rows.table.tracks (track_count w.parts.base.placed.rows) height
      (λ e. ap track_count (tracks_are ∙ shared e) ∙ counted (outer_context (sight_at b n) outer).rows.table.tracks) fits
    where
      counted : (m : ℕ) → track_count (tracks_to m) ≡ m
      counted m = let whole : pos (track_count (tracks_to m)) ≡ (pos m -ℤ pos 0) = count_is (tracks_to m) (record { start = omega (arith, ints); end = omega (arith, ints) }) in omega (arith, ints, whole)

  pub count_placed : HasZero (grid_seen b n outer width).placed.rows → (edges : ℕ) → edges ≡ track_count w.parts.base.placed.rows → pos edges ≡ (w.parts.base.placed.rows.end -ℤ w.parts.base.placed.rows.start)
  count_placed from_zero edges e = ap pos e ∙ count_is w.parts.base.placed.rows (subst HasZero (sym tracks_are) from_zero)

  -- the rows that it holds for a size are those of the definitions
  held_one : (r : RowsAt) → w.rows ≡ Some r → HoldsRows (rows_seen b n outer width) w.parts.base.placed.rows r
  held_one r is = subst (λ o. IfSome o (HoldsRows (rows_seen b n outer width) w.parts.base.placed.rows)) is wide.rows

  pub held_view : (r : RowsAt) (height : Given) (v : View 1) → w.rows ≡ Some r → height ≡ given.Size r.size → v ≡ r.view → v ≡ view_by {axis = 1} (rows_seen b n outer width) height
  held_view r height v is h e = e ∙ (held_one r is).view ∙ ap (view_by {axis = 1} (rows_seen b n outer width)) (sym h)

  pub held_tracks : (r : RowsAt) (v : View 1) (level : ℕ) → level ≤ 64 → HasZero (grid_seen b n outer width).placed.rows → w.rows ≡ Some r → v ≡ r.view → AreTracks w.parts.base.placed.rows v.edges
  held_tracks r v level low from_zero is e =
      subst (λ (x : View 1). AreTracks w.parts.base.placed.rows x.edges) (sym e)
      (are_tracks w.parts.base.placed.rows r.view.edges level low (count_placed from_zero (length r.view.edges) (held_one r is).counted) (spread_grows (2 ^ 50 + 2 ^ 34) (farthest level) r.view.edges (omega arith) (held_one r is).spread))

  pub held_gap : (r : RowsAt) (v : View 1) → w.rows ≡ Some r → v ≡ r.view → pos 0 ≤ℤ v.gap
  held_gap r v is e = subst (λ (x : View 1). pos 0 ≤ℤ x.gap) (sym e) (held_one r is).gap
