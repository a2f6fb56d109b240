-- A grid in its columns as an answer holds it is the one that the walk tells, and the other way round.
use Rattle.std.proofs.Common.{◌≡◌, ◌∷◌, [], List, Option, Some, None, refl, subst, sym}
use Rattle.std.specs.Prelude.{ℤ, Result, Ok, Err, IfOk, IfSome, OnOk, IsSome}
use Rattle.placing.specs.Walks.{kept_with}
use Rattle.placing.specs.declared.node.Answer.{Answer}
use Rattle.placing.specs.declared.node.Answer.TheVariants.{Block}
use Rattle.tree_rules.specs.declared.query.Query.{Query}
use Rattle.block_sizes.specs.Keeping.{GrowsBy}
use Rattle.node_arena.specs.declared.number.NodeId.{NodeId}
use Rattle.placing.specs.Nodes.{BareTrees, children_at, level_at, sight_at}
use Rattle.placing.specs.Spread.{IsSpread}
use Rattle.placing.specs.Wides.{HoldsRows, HoldsWide, columns_in, grid_in, rows_in, wides_in}
use Rattle.placing.specs.declared.wide.GridWide.{GridWide}
use Rattle.placing.specs.declared.wide.RowsAt.{RowsAt}
use Rattle.tree_rules.specs.Answers.{Pair}
use Rattle.tree_rules.specs.declared.query.Given.{Given}
use Rattle.inline_sizes.proofs.Held.{grid_held, held_grid}
use Rattle.inline_sizes.specs.GridsSeen.{grid_seen}
use Rattle.block_sizes.proofs.OwnColumns.{far_enough}
use Rattle.block_sizes.specs.Wides.{IsWide, columns_seen, farthest, rows_seen, wides_seen}

module _ (b : BareTrees) (n : NodeId) (outer : List Pair) (width : Given) (w : GridWide) where
  pub wide_held : IsWide b n outer width w → HoldsWide (sight_at b n) (children_at b n) outer width w
  unfolding grid_seen grid_in columns_seen columns_in wides_seen wides_in rows_seen rows_in
  wide_held h =
      record {
        grid = grid_held b n outer width w.parts h.grid;
        columns = h.columns;
        children = h.wide.children;
        row_items = h.wide.items;
        items = h.items;
        counted = h.counted;
        gap = h.gap;
        range = h.range;
        spread = h.far;
        rows = h.rows;
      }

  pub held_wide : IsSpread (farthest (level_at b n)) width → HoldsWide (sight_at b n) (children_at b n) outer width w → IsWide b n outer width w
  unfolding grid_seen grid_in columns_seen columns_in wides_seen wides_in rows_seen rows_in
  held_wide s h =
      record {
        grid = held_grid b n outer width w.parts h.grid;
        columns = h.columns;
        wide = record { children = h.children; items = h.row_items };
        items = h.items;
        counted = h.counted;
        gap = h.gap;
        range = h.range;
        spread = h.spread _ (far_enough (level_at b n)) s;
        far = h.spread;
        rows = h.rows;
      }

-- ---- rows put into a grid
pub with_rows : (b : BareTrees) (n : NodeId) (outer : List Pair) (width : Given) (w : GridWide) (rows : Option RowsAt) → IfSome rows (HoldsRows (rows_seen b n outer width) w.parts.base.placed.rows) → IsWide b n outer width w → IsWide b n outer width (record w { rows = rows })
with_rows b n outer width w rows h is =
    record { grid = is.grid; columns = is.columns; wide = is.wide; items = is.items; counted = is.counted; gap = is.gap; range = is.range; spread = is.spread; far = is.far; rows = h }

-- ---- what is kept after a question for a block size

pub grows_by_block : {E : Type 0} (r : Result ℤ E) (old new : List (Query × Answer)) (q : Query) → IfOk r (λ size. new ≡ kept_with old ((q, Block size) ∷ [])) → IfOk r (λ size. GrowsBy old q size new)
grows_by_block (Ok size) old new q e = (Block size, (refl, e))
grows_by_block (Err fault) old new q e = tt

pub on_ok_by : {T E : Type 0} (r : Result T E) (P Q : Type 0) → (P → Q) → OnOk r P → OnOk r Q
on_ok_by (Ok x) P Q f p = f p
on_ok_by (Err e) P Q f p = tt

pub some_or_none : {A : Type 0} {P : Type 0} (o : Option A) → IsSome o → o ≡ None → P
some_or_none None s e = absurd cc
some_or_none (Some x) s e = absurd cc

pub if_ok_same : {T E : Type 0} (r : Result T E) (x : T) (P : T → Type 0) → IfOk r (λ y. y ≡ x) → P x → IfOk r P
if_ok_same (Ok y) x P e p = subst P (sym e) p
if_ok_same (Err f) x P e p = tt
