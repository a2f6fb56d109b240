-- The rows of a grid by the items that its children told are those of the definitions.
use Rattle.std.proofs.Common.{arith, ap, subst, sym, ◌∙◌, ◌≡◌, refl, ℕ, ℤ, Bool, false, if◌then◌else◌, pos, List, [], ◌∷◌, Option, Some, None, length, map}
use Rattle.std.specs.Prelude.{IfSome}
use Rattle.lunit.specs.declared.geometry.Area.{Area}
use Rattle.lunit.specs.declared.geometry.Span.{Span}
use Rattle.lunit.specs.declared.item.Item.{Item}
use Rattle.node_arena.specs.declared.number.NodeId.{NodeId}
use Rattle.part_rules.specs.declared.track.Space.{Space}
use Rattle.part_rules.specs.declared.track.Space.TheVariants.{MaxContent}
use Rattle.part_rules.specs.Lists.{zipped}
use Rattle.placing.proofs.Entries.{counts}
use Rattle.placing.specs.Areas.{numbered_area, placed_of}
use Rattle.placing.specs.Nodes.{BareTrees, sight_at}
use Rattle.placing.specs.Told.{AreRowsFor, row_axis}
use Rattle.placing.specs.Wides.{HoldsRows}
use Rattle.placing.specs.declared.contexts.Placed.{Placed}
use Rattle.placing.specs.declared.wide.GridBase.{GridBase}
use Rattle.placing.specs.declared.wide.GridParts.{GridParts}
use Rattle.placing.specs.declared.wide.RowsAt.{RowsAt}
use Rattle.tree_rules.specs.Answers.{Pair}
use Rattle.tree_rules.specs.Contexts as rules
use Rattle.tree_rules.specs.GridSizes.{TrackAxis, grid_block, total_for}
use Rattle.tree_rules.specs.Places.{Seen}
use Rattle.tree_rules.specs.Queries.{sees_rows}
use Rattle.tree_rules.specs.Repetitions.{own_pair}
use Rattle.tree_rules.specs.Templates.{written}
use Rattle.tree_rules.specs.declared.query.Given.{Given}
use Rattle.tree_rules.specs.declared.query.Given.TheVariants as given
use Rattle.inline_sizes.specs.Grids.{IsGrid}
use Rattle.inline_sizes.specs.GridsSeen.{HasItemsInTracks, grid_seen}
use Rattle.block_sizes.specs.Wides.{rows_seen}

spans_zipped : (numbers : List ℕ) (areas : List (NodeId × Area)) → length numbers ≡ length areas → map (λ (a : ℕ × Area). a.1.rows) (zipped numbered_area numbers areas) ≡ map (λ (e : NodeId × Area). e.1.rows) areas
spans_zipped [] [] h = refl
spans_zipped [] (e ∷ es) h = absurd (omega (arith, h))
spans_zipped (n ∷ ns) [] h = absurd (omega (arith, h))
spans_zipped (n ∷ ns) (e ∷ es) h = ap (λ (l : List Span). e.1.rows ∷ l) (spans_zipped ns es (omega (arith, h)))

module _ (b : BareTrees) (n : NodeId) (outer : List Pair) (width : Given) (parts : GridParts) (grid : IsGrid b n outer width parts) where
  placed_is : placed_of parts.base.placed ≡ (grid_seen b n outer width).placed
  unfolding grid_seen
  placed_is = grid.placed.placed

  pub tracks_are : parts.base.placed.rows ≡ (grid_seen b n outer width).placed.rows
  tracks_are = ap (λ (p : rules.Placed). p.rows) placed_is

  pub spans_are : map (λ (e : NodeId × Area). e.1.rows) parts.base.placed.areas ≡ map (λ (a : ℕ × Area). a.1.rows) (grid_seen b n outer width).placed.areas
  spans_are = sym (spans_zipped parts.base.placed.numbers parts.base.placed.areas (counts b n parts.base.placed grid.placed.children)) ∙ ap (λ (p : rules.Placed). map (λ (a : ℕ × Area). a.1.rows) p.areas) placed_is

  module _ (items : List Item) (told : items ≡ (rows_seen b n outer width).items) where
    -- the axis of the rows
    pub axis_told : row_axis (sight_at b n) parts.base items ≡ rows_seen b n outer width
    unfolding grid_seen rows_seen row_axis
    axis_told =
        λ i. record {
          border_box = (sight_at b n).label.content.border_box;
          grid = (sight_at b n).label.grid.rows;
          content = (sight_at b n).label.content.block;
          written = written (sight_at b n).label.grid.rows.template (own_pair (sight_at b n).label given.None).1;
          spans = spans_are i;
          tracks = tracks_are i;
          items = told i;
        }

    -- the rows that are known hold
    pub rows_held : (o : Option RowsAt) → IfSome o (AreRowsFor (sight_at b n) parts.base items) → IfSome o (HoldsRows (rows_seen b n outer width) parts.base.placed.rows)
    rows_held None h = tt
    rows_held (Some r) h = subst (λ (a : TrackAxis). HoldsRows a parts.base.placed.rows r) axis_told h.laid

    module _ (own : sees_rows (sight_at b n) ≡ false) (h : HasItemsInTracks (sight_at b n) (grid_seen b n outer width)) where
      -- their total is the block size of a grid that sizes its rows
      total_told : total_for {axis = 1} (row_axis (sight_at b n) parts.base items) MaxContent ≡ grid_block (grid_seen b n outer width) (rows_seen b n outer width)
      total_told =
          let space : Space 1 = MaxContent in
          ap (λ (a : TrackAxis). total_for {axis = 1} a space) axis_told
          ∙ ap (λ (t : Bool). if t then pos 0 else total_for {axis = 1} (rows_seen b n outer width) space) (sym (h.rows ∙ own))

      pub size_told : (size : ℤ) → size ≡ total_for {axis = 1} (row_axis (sight_at b n) parts.base items) MaxContent → size ≡ grid_block (grid_seen b n outer width) (rows_seen b n outer width)
      size_told size e = e ∙ total_told

      -- rows that were sized are known
      pub rows_known : (size : ℤ) (o : Option RowsAt) → size ≡ grid_block (grid_seen b n outer width) (rows_seen b n outer width) → IfSome o (λ (r : RowsAt). r.size ≡ size) → IfSome o (HoldsRows (rows_seen b n outer width) parts.base.placed.rows)
          → IfSome o (AreRowsFor (sight_at b n) parts.base items)
      rows_known size None e s l = tt
      rows_known size (Some r) e s l =
          record {
            size = s ∙ e ∙ sym total_told;
            laid = subst (λ (a : TrackAxis). HoldsRows a parts.base.placed.rows r) (sym axis_told) l;
          }

-- They depend on the areas of the grid alone.
rows_moved : (s : Seen) (p q : GridBase) → p.placed ≡ q.placed → (items : List Item) (r : RowsAt) → AreRowsFor s p items r → AreRowsFor s q items r
unfolding row_axis
rows_moved s p q placed items r h =
    let there : AreRowsFor s (record p { placed = q.placed }) items r = subst (λ (z : Placed). AreRowsFor s (record p { placed = z }) items r) placed h in
    record { size = there.size; laid = there.laid }

pub rows_by : (s : Seen) (p q : GridBase) → p.placed ≡ q.placed → (items : List Item) (o : Option RowsAt) → IfSome o (AreRowsFor s p items) → IfSome o (AreRowsFor s q items)
rows_by s p q placed items None h = tt
rows_by s p q placed items (Some r) h = rows_moved s p q placed items r h

-- They last where the items are the same, and are known no more where they are not.
module _ (s : Seen) (base : GridBase) (old new : List Item) (before after : Option RowsAt) where
  pub rows_last : after ≡ before → new ≡ old → IfSome before (AreRowsFor s base old) → IfSome after (AreRowsFor s base new)
  rows_last same items h = subst (λ (o : Option RowsAt). IfSome o (AreRowsFor s base new)) (sym same) (subst (λ (l : List Item). IfSome before (AreRowsFor s base l)) (sym items) h)

  pub rows_lost : after ≡ None → IfSome after (AreRowsFor s base new)
  rows_lost none = subst (λ (o : Option RowsAt). IfSome o (AreRowsFor s base new)) (sym none) tt
