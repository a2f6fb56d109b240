use Rattle.std.proofs.Common.{rules, subst, ℤ, w32, SFits}
use Rattle.std.specs.Prelude.{IsSome}
use Rattle.std.specs.BTreeMap as tree
use Rattle.std.specs.Ordering.{int_cmp}
use Rattle.std.proofs.lemmas.Int.{to_z-of_z}
use Rattle.cell_index.proofs.bands.RowBands.add.Goals as goal

pub add_rows-requires-clause-first : goal.add_rows-requires-clause-first
add_rows-requires-clause-first c =
    let fits : SFits w32 c.args.area.rows.start = search rules in
    let P : ℤ → Type 0 = λ z. IsSome (tree.get int_cmp c.cut-2.new.self.bands z) in
    subst P (to_z-of_z w32 c.args.area.rows.start fits) (c.in_ok-cut-2.ensures.kept _ c.in_ok-cut.ensures.begins)

pub add_rows-requires-clause-last : goal.add_rows-requires-clause-last
add_rows-requires-clause-last c =
    let fits : SFits w32 c.args.area.rows.end = search rules in
    let P : ℤ → Type 0 = λ z. IsSome (tree.get int_cmp c.cut-2.new.self.bands z) in
    subst P (to_z-of_z w32 c.args.area.rows.end fits) c.in_ok-cut-2.ensures.begins
