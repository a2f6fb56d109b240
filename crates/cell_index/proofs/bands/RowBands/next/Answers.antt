use Rattle.std.proofs.Common.{sym, subst, rules, ◌∙◌, ◌≡◌, ℤ, [], to_z, of_z, w32, SFits}
use Rattle.std.specs.Prelude.{filter, IsSome}
use Rattle.std.specs.BTreeMap as tree
use Rattle.std.specs.Ordering.{int_cmp}
use Rattle.std.proofs.lemmas.Int.{to_z-of_z}
use Rattle.cell_index.specs.declared.columns.TakenColumns.{TakenColumns}
use Rattle.cell_index.specs.Taken.{strictly}
use Rattle.cell_index.proofs.Changes.{IsNext, next_is}
use Rattle.cell_index.proofs.bands.RowBands.next.Goals as goal

pub returns-in-Some-clause-begins : goal.returns-in-Some-clause-begins
returns-in-Some-clause-begins c =
    let fits : SFits w32 c.in-Some.next.now = search rules in
    let found : IsNext (to_z w32 (of_z w32 c.args.row)) (to_z w32 (of_z w32 c.args.last)) c.in-Some.next.now c.args.self.now.bands.entries = next_is (to_z w32 (of_z w32 c.args.row)) (to_z w32 (of_z w32 c.args.last)) c.args.self.now.bands.entries
    (c.in-Some.next.now, c.in-Some.field-0-1.now) c.next.new.self c.range.ensures.ordered (sym (c.range.ensures.between tt) ∙ c.in-Some.ensures.steps) in
    let P : ℤ → Type 0 = λ z. IsSome (tree.get int_cmp c.args.self.now.bands z) in
    subst P (sym (to_z-of_z w32 c.in-Some.next.now fits)) found.begins

pub returns-in-Some-clause-none : goal.returns-in-Some-clause-none
returns-in-Some-clause-none c =
    let fits : SFits w32 c.in-Some.next.now = search rules in
    let found : IsNext (to_z w32 (of_z w32 c.args.row)) (to_z w32 (of_z w32 c.args.last)) c.in-Some.next.now c.args.self.now.bands.entries = next_is (to_z w32 (of_z w32 c.args.row)) (to_z w32 (of_z w32 c.args.last)) c.args.self.now.bands.entries
    (c.in-Some.next.now, c.in-Some.field-0-1.now) c.next.new.self c.range.ensures.ordered (sym (c.range.ensures.between tt) ∙ c.in-Some.ensures.steps) in
    let P : ℤ → Type 0 = λ z. filter (λ (e : ℤ × TakenColumns). strictly c.args.row z e.0) c.args.self.now.bands.entries ≡ [] in
    let Q : ℤ → Type 0 = λ z. filter (λ (e : ℤ × TakenColumns). strictly z c.in-Some.next.now e.0) c.args.self.now.bands.entries ≡ [] in
    subst P (sym (to_z-of_z w32 c.in-Some.next.now fits)) (subst Q (to_z-of_z w32 c.args.row c.ranges.row) found.none)
