-- The base of a grid stands behind a pointer: it is the same grid with the base that the code reads there.
use Rattle.std.proofs.Common.{◌≡◌, ◌∷◌, ◌+◌, ℕ, List, drop, subst, sym}
use Rattle.node_arena.specs.declared.number.NodeId.{NodeId}
use Rattle.placing.specs.Areas.{entries_at, entry_by}
use Rattle.placing.specs.Nodes.{BareTrees}
use Rattle.placing.specs.declared.items.ChildArea.{ChildArea}
use Rattle.placing.specs.declared.wide.GridBase.{GridBase}
use Rattle.placing.specs.declared.wide.GridParts.{GridParts}
use Rattle.placing.specs.declared.wide.GridWide.{GridWide}
use Rattle.tree_rules.specs.Answers.{Pair}
use Rattle.tree_rules.specs.declared.query.Given.{Given}
use Rattle.inline_sizes.specs.Grids.{IsGrid}
use Rattle.block_sizes.specs.Wides.{IsWide}

module _ (b : BareTrees) (n : NodeId) (outer : List Pair) (width : Given) where
  pub read_grid : (parts : GridParts) (read : GridBase) → read ≡ parts.base → IsGrid b n outer width parts → IsGrid b n outer width (record parts { base = read })
  read_grid parts read is h = subst (λ (base : GridBase). IsGrid b n outer width (record parts { base = base })) (sym is) h

  -- the grid in its columns is the same grid with the base that the code reads
  pub read_wide : (w : GridWide) (read : GridBase) → read ≡ w.parts.base → IsWide b n outer width w → IsWide b n outer width (record w { parts = record w.parts { base = read } })
  read_wide w read is h = subst (λ (base : GridBase). IsWide b n outer width (record w { parts = record w.parts { base = base } })) (sym is) h

-- the child that comes next in it
pub read_next : (b : BareTrees) (n : NodeId) (base read : GridBase) → read ≡ base → (k : ℕ) (e : ChildArea) → drop k (entries_at b n read.placed) ≡ entry_by b e ∷ drop (k + 1) (entries_at b n read.placed) →
    drop k (entries_at b n base.placed) ≡ entry_by b e ∷ drop (k + 1) (entries_at b n base.placed)
read_next b n base read is k e next = subst (λ (z : GridBase). drop k (entries_at b n z.placed) ≡ entry_by b e ∷ drop (k + 1) (entries_at b n z.placed)) is next
