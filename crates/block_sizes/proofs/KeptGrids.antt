-- What the children of a grid told is kept with the grid as its answer holds it, and its size is the answer.
use Rattle.std.proofs.Common.{◌≡◌, ◌∙◌, ℕ, ℤ, List, ap, subst, sym}
use Rattle.std.specs.Prelude.{IfSome}
use Rattle.node_arena.specs.declared.number.NodeId.{NodeId}
use Rattle.placing.specs.Bases.{HoldsPlaces}
use Rattle.placing.specs.Nodes.{BareTrees, children_at, kid_at, sight_at}
use Rattle.placing.specs.Told.{AreColumns, AreRows, AreRowsFor, Each}
use Rattle.placing.specs.declared.wide.GridWide.{GridWide}
use Rattle.tree_rules.specs.Answers.{Pair}
use Rattle.tree_rules.specs.GridSizes.{grid_block}
use Rattle.tree_rules.specs.Queries.{answer_of, block_size}
use Rattle.tree_rules.specs.declared.kind.NodeKind.TheVariants as kind
use Rattle.tree_rules.specs.declared.query.Ask.TheVariants as ask
use Rattle.tree_rules.specs.declared.query.Given.{Given}
use Rattle.tree_rules.specs.declared.query.Query.{Query}
use Rattle.inline_sizes.proofs.Held.{places_held}
use Rattle.inline_sizes.specs.GridsSeen.{grid_seen}
use Rattle.block_sizes.proofs.NodeAnswers.{grid_answer}
use Rattle.block_sizes.specs.Told.{IsToldWide}
use Rattle.block_sizes.specs.Wides.{rows_seen}
use Rattle.block_sizes.specs.declared.again.ToldWide.{ToldWide}

-- It is what the children of this grid told.
pub record IsKeepable (b : BareTrees) (n : NodeId) (w : GridWide) (column_ends row_ends : List ℕ) : Type 0 where
  pub places : HoldsPlaces (sight_at b n) (children_at b n) w.parts.base
  pub columns : AreColumns (sight_at b n) (kid_at b) Each (record { parts = w.parts; ends = column_ends })
  pub rows : AreRows (sight_at b n) (kid_at b) w.parts.base Each (record { columns = w.columns; align = (sight_at b n).label.content.inline.items; children = w.children; items = w.items; ends = row_ends })
  pub laid : IfSome w.rows (AreRowsFor (sight_at b n) w.parts.base w.items)

pub keepable : (b : BareTrees) (n : NodeId) (outer : List Pair) (width : Given) (t : ToldWide) (laid held : GridWide) → IsToldWide b n outer width t → held ≡ laid → laid ≡ record t.wide { rows = laid.rows } → IfSome laid.rows (AreRowsFor (sight_at b n) t.wide.parts.base t.wide.items)
    → IsKeepable b n held t.column_ends t.row_ends
keepable b n outer width t laid held told is same rows =
    let made : IsKeepable b n (record t.wide { rows = laid.rows }) t.column_ends t.row_ends = record { places = places_held b n outer width t.wide.parts.base told.wide.grid.base; columns = told.columns; rows = told.rows; laid = rows } in
    subst (λ (w : GridWide). IsKeepable b n w t.column_ends t.row_ends) (sym (is ∙ same)) made

-- The block size of the grid that a question asks for is the answer to it.
pub laid_answer : (b d : BareTrees) → d ≡ b → (n : NodeId) (q : Query) (outer : List Pair) (size : ℤ) → outer ≡ q.reps → (sight_at b n).label.kind ≡ kind.Grid → q.ask ≡ ask.Block → size ≡ grid_block (grid_seen d n outer q.inline) (rows_seen d n outer q.inline) →
    block_size size ≡ answer_of (sight_at b n) q
laid_answer b d is n q outer size same grid asks made =
    ap block_size (made ∙ (λ i. grid_block (grid_seen (is i) n (same i) q.inline) (rows_seen (is i) n (same i) q.inline)))
    ∙ grid_answer b n q grid asks
