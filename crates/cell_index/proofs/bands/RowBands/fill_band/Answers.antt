use Rattle.std.proofs.Common.{arith, subst, ◌∙◌, ◌≡◌, ℤ, to_z, of_z, w32}
use Rattle.std.proofs.lemmas.Int.{ints, to_z-of_z}
use Rattle.cell_index.specs.Taken.{IsAddedAt}
use Rattle.cell_index.proofs.Filled.{band_added, still_begins}
use Rattle.cell_index.proofs.bands.RowBands.fill_band.Goals as goal

pub returns-clause-added : goal.returns-clause-added
returns-clause-added c = λ other column.
    let P : ℤ → Type 0 = λ z. IsAddedAt z c.args.columns c.args.self.now c.add_to_band.new.self in
    let added : IsAddedAt c.args.row c.args.columns c.args.self.now c.add_to_band.new.self = subst P (to_z-of_z w32 c.args.row c.ranges.row) c.in_ok-add_to_band.ensures in
    c.join.ensures.same other column
    ∙ band_added c.args.row c.args.next c.args.columns c.args.self.now c.add_to_band.new.self added c.requires.ordered c.requires.order c.requires.next c.requires.none other column

pub returns-clause-kept : goal.returns-clause-kept
returns-clause-kept c = λ other more some.
    let e : to_z w32 (of_z w32 c.args.row) ≡ c.args.row = to_z-of_z w32 c.args.row c.ranges.row in
    c.join.ensures.kept other (omega (arith, ints, e, more)) (still_begins (to_z w32 (of_z w32 c.args.row)) c.args.columns c.args.self.now c.add_to_band.new.self other c.in_ok-add_to_band.ensures some)
