use Rattle.std.proofs.Common.{ap, sym, subst, ◌∙◌, false, ℤ, w32}
use Rattle.std.specs.Prelude.{IsSome}
use Rattle.std.specs.BTreeMap as tree
use Rattle.std.specs.Ordering.{int_cmp}
use Rattle.std.proofs.lemmas.Int.{to_z-of_z}
use Rattle.cell_index.specs.declared.columns.TakenColumns.{TakenColumns}
use Rattle.cell_index.specs.Taken.{reads, taken}
use Rattle.cell_index.proofs.Changes.{reads_cut}
use Rattle.cell_index.proofs.bands.RowBands.cut.Goals as goal

pub returns-clause-same : goal.returns-clause-same
returns-clause-same c = λ other column.
    ap (λ es. reads (λ (columns : TakenColumns). taken columns column) false es other) c.in_ok-insert.ensures.entries
    ∙ reads_cut (λ (columns : TakenColumns). taken columns column) false _ c.in_ok-columns.columns c.args.self.now.bands.entries other c.insert.ensures.was_ordered (c.in_ok-columns.ensures column)

pub returns-then-contains_key-clause-begins : goal.returns-then-contains_key-clause-begins
returns-then-contains_key-clause-begins c =
    let P : ℤ → Type 0 = λ z. IsSome (tree.get int_cmp c.args.self.now.bands z) in
    subst P (to_z-of_z w32 c.args.row c.ranges.row) (sym c.contains_key.ensures ∙ c.if-contains_key.true)
