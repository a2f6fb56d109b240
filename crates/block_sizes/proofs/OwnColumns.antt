-- The columns of a grid by what it is given, as the code holds them.
use Rattle.std.proofs.Common.{arith, refl, ap, subst, sym, ◌∙◌, ◌≡◌, ℕ, ◌^◌, ◌≤◌, ℤ, pos, ◌-ℤ◌, ◌≤ℤ◌, Bool, true, false, List, [], ◌∷◌, length, map}
use Rattle.std.proofs.lemmas.Int.{ints}
use Rattle.lunit.specs.declared.geometry.Area.{Area}
use Rattle.lunit.specs.declared.geometry.Span.{Span}
use Rattle.lunit.specs.declared.item.Item.{Item}
use Rattle.node_arena.specs.declared.number.NodeId.{NodeId}
use Rattle.part_rules.specs.Lists.{zipped}
use Rattle.style_types.specs.Styles.{StyleMap}
use Rattle.placing.proofs.Entries.{counts}
use Rattle.placing.specs.Areas.{numbered_area, placed_of}
use Rattle.placing.specs.Counted.{IsGivenSize}
use Rattle.placing.specs.Nodes.{BareTrees, IsLive, sight_at}
use Rattle.placing.specs.Ranges.{AreReadable}
use Rattle.tree_rules.specs.Answers.{Pair}
use Rattle.tree_rules.specs.Contexts as rules
use Rattle.tree_rules.specs.GridSizes.{TrackAxis, view_by}
use Rattle.tree_rules.specs.Labels.{content_of, grid_of}
use Rattle.tree_rules.specs.Queries.{IsGivenFor, outer_context, sees_columns}
use Rattle.tree_rules.specs.Templates.{written}
use Rattle.tree_rules.specs.declared.query.Given.{Given}
use Rattle.tree_rules.specs.declared.query.Given.TheVariants as given
use Rattle.inline_sizes.proofs.ColumnAxes.{can_size}
use Rattle.inline_sizes.specs.Grids.{IsGrid}
use Rattle.inline_sizes.specs.GridsSeen.{HasItemsInTracks, grid_seen}
use Rattle.inline_sizes.specs.TrackAxes.{CanSize, track_axis, track_count}
use Rattle.placing.specs.declared.wide.GridParts.{GridParts}
use Rattle.block_sizes.proofs.SharedTracks.{count_is}
use Rattle.block_sizes.specs.Fitting.{CanSizeFor}
use Rattle.block_sizes.specs.Spans.{HasZero, tracks_to}
use Rattle.block_sizes.specs.Wides.{columns_seen, farthest}

-- ---- what is given

sized_for : (sees : Bool) (tracks : ℕ) (x : ℤ) → IsGivenFor true sees tracks (given.Size x) → sees ≡ false
sized_for true tracks x h = absurd h
sized_for false tracks x h = refl

none_for : {A : Type 0} (sees : Bool) (tracks : ℕ) → IsGivenFor true sees tracks given.None → A
none_for true tracks h = absurd h
none_for false tracks h = absurd h

pub can_for : (sees : Bool) (tracks : ℕ) (width : Given) (style : StyleMap) (span : Span) (items : List Item) → IsGivenFor true sees tracks width → (sees ≡ false → CanSize 0 style span items) → CanSizeFor width 0 style span items
can_for sees tracks given.None style span items h f = none_for sees tracks h
can_for sees tracks (given.Size x) style span items h f = f (sized_for sees tracks x h)
can_for sees tracks (given.Tracks edges gap) style span items h f = tt

size_here : (sees : Bool) (tracks : ℕ) (x : ℤ) → IsGivenFor true sees tracks (given.Size x) → pos 0 ≤ℤ x
size_here true tracks x h = absurd h
size_here false tracks x h = h

pub size_given : (sees : Bool) (tracks : ℕ) (width : Given) → IsGivenFor true sees tracks width → IsGivenSize width
size_given sees tracks given.None h = tt
size_given sees tracks (given.Size x) h = size_here sees tracks x h
size_given sees tracks (given.Tracks edges gap) h = tt

tracks_here : (sees : Bool) (tracks others : ℕ) (edges : List (ℤ × ℤ)) (gap : ℤ) → (sees ≡ true → others ≡ tracks) → IsGivenFor true sees tracks (given.Tracks edges gap) → IsGivenFor true sees others (given.Tracks edges gap)
tracks_here true tracks others edges gap e h = (h.0 ∙ sym (e refl), h.1)
tracks_here false tracks others edges gap e h = absurd h

size_for : (sees : Bool) (tracks others : ℕ) (x : ℤ) → IsGivenFor true sees tracks (given.Size x) → IsGivenFor true sees others (given.Size x)
size_for true tracks others x h = absurd h
size_for false tracks others x h = h

-- for as many tracks
pub given_for : (sees : Bool) (tracks others : ℕ) (width : Given) → (sees ≡ true → others ≡ tracks) → IsGivenFor true sees tracks width → IsGivenFor true sees others width
given_for sees tracks others given.None e h = none_for sees tracks h
given_for sees tracks others (given.Size x) e h = size_for sees tracks others x h
given_for sees tracks others (given.Tracks edges gap) e h = tracks_here sees tracks others edges gap e h

pub far_enough : (level : ℕ) → 2 ^ 51 ≤ farthest level
far_enough level = omega arith

-- ---- the grid of the code

spans_zipped : (numbers : List ℕ) (areas : List (NodeId × Area)) → length numbers ≡ length areas → map (λ (a : ℕ × Area). a.1.columns) (zipped numbered_area numbers areas) ≡ map (λ (e : NodeId × Area). e.1.columns) areas
spans_zipped [] [] h = refl
spans_zipped [] (e ∷ es) h = absurd (omega (arith, h))
spans_zipped (n ∷ ns) [] h = absurd (omega (arith, h))
spans_zipped (n ∷ ns) (e ∷ es) h = ap (λ (l : List Span). e.1.columns ∷ l) (spans_zipped ns es (omega (arith, h)))

module _ (b : BareTrees) (n : NodeId) (outer : List Pair) (width : Given) (parts : GridParts) (grid : IsGrid b n outer width parts) where
  placed_is : placed_of parts.base.placed ≡ (grid_seen b n outer width).placed
  unfolding grid_seen
  placed_is = grid.placed.placed

  pub tracks_are : parts.base.placed.columns ≡ (grid_seen b n outer width).placed.columns
  tracks_are = ap (λ (p : rules.Placed). p.columns) placed_is

  spans_are : map (λ (e : NodeId × Area). e.1.columns) parts.base.placed.areas ≡ map (λ (a : ℕ × Area). a.1.columns) (grid_seen b n outer width).placed.areas
  spans_are = sym (spans_zipped parts.base.placed.numbers parts.base.placed.areas (counts b n parts.base.placed grid.placed.children)) ∙ ap (λ (p : rules.Placed). map (λ (a : ℕ × Area). a.1.columns) p.areas) placed_is

  axis_is : (style : StyleMap) (spans : List Span) (items : List Item) → grid_of style ≡ (sight_at b n).label.grid → content_of style ≡ (sight_at b n).label.content → spans ≡ map (λ (e : NodeId × Area). e.1.columns) parts.base.placed.areas → items ≡ parts.items
      → track_axis 0 style parts.base.pair.0 spans parts.base.placed.columns items ≡ (grid_seen b n outer width).columns
  unfolding grid_seen
  axis_is style spans items g c s same =
      λ i. record {
        border_box = (c i).border_box;
        grid = (g i).columns;
        content = (c i).inline;
        written = written (g i).columns.template (grid.base.pair i).0;
        spans = (s ∙ spans_are) i;
        tracks = tracks_are i;
        items = (same ∙ grid.items) i;
      }

  -- the view
  pub columns_are : (style : StyleMap) (spans : List Span) (items : List Item) → grid_of style ≡ (sight_at b n).label.grid → content_of style ≡ (sight_at b n).label.content → spans ≡ map (λ (e : NodeId × Area). e.1.columns) parts.base.placed.areas → items ≡ parts.items
      → view_by {axis = 0} (track_axis 0 style parts.base.pair.0 spans parts.base.placed.columns items) width ≡ columns_seen b n outer width
  unfolding columns_seen
  columns_are style spans items g c s same = ap (λ (a : TrackAxis). view_by {axis = 0} a width) (axis_is style spans items g c s same)

  -- they can be sized, where they are
  pub can_be : (style : StyleMap) (items : List Item) → AreReadable b → IsLive b n → grid_of style ≡ (sight_at b n).label.grid → items ≡ parts.items → ((o : List Pair) (w : Given) → HasItemsInTracks (sight_at b n) (grid_seen b n o w))
      → IsGivenFor true (sees_columns (sight_at b n)) (outer_context (sight_at b n) outer).columns.table.tracks width → CanSizeFor width 0 style parts.base.placed.columns items
  can_be style items readable live g same h fits =
      can_for (sees_columns (sight_at b n)) (outer_context (sight_at b n) outer).columns.table.tracks width style parts.base.placed.columns items fits
      (λ own. subst (λ (l : List Item). CanSize 0 style parts.base.placed.columns l) (sym same) (can_size b n parts style (record { outer = outer; width = width; grid = grid }) readable live g own h))

  pub few_columns : HasItemsInTracks (sight_at b n) (grid_seen b n outer width) → track_count parts.base.placed.columns ≤ 131072
  few_columns h = subst (λ (s : Span). track_count s ≤ 131072) (sym tracks_are) h.inside.few_columns

  pub shared_for : (sees_columns (sight_at b n) ≡ true → (grid_seen b n outer width).placed.columns ≡ tracks_to (outer_context (sight_at b n) outer).columns.table.tracks)
      → IsGivenFor true (sees_columns (sight_at b n)) (outer_context (sight_at b n) outer).columns.table.tracks width → IsGivenFor true (sees_columns (sight_at b n)) (track_count parts.base.placed.columns) width
  shared_for shared fits =
      given_for (sees_columns (sight_at b n)) (outer_context (sight_at b n) outer).columns.table.tracks (track_count parts.base.placed.columns) width
      (λ e. ap track_count (tracks_are ∙ shared e) ∙ counted (outer_context (sight_at b n) outer).columns.table.tracks) fits
    where
      counted : (m : ℕ) → track_count (tracks_to m) ≡ m
      counted m = let whole : pos (track_count (tracks_to m)) ≡ (pos m -ℤ pos 0) = count_is (tracks_to m) (record { start = omega (arith, ints); end = omega (arith, ints) }) in omega (arith, ints, whole)

  pub count_placed : HasZero (grid_seen b n outer width).placed.columns → (edges : ℕ) → edges ≡ track_count parts.base.placed.columns → pos edges ≡ (parts.base.placed.columns.end -ℤ parts.base.placed.columns.start)
  count_placed zero edges e = ap pos e ∙ count_is parts.base.placed.columns (subst HasZero (sym tracks_are) zero)
