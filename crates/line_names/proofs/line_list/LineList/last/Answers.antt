use Rattle.std.proofs.Common.{arith, rules, sym, ap, ◌∙◌, ◌≡◌, ◌-◌, ◌+ℤ◌, ◌-ℤ◌, pos, length, to_z, of_z, w32, w64, SFits}
use Rattle.std.proofs.lemmas.Int.{ints, to_z-of_z}
use Rattle.std.specs.Prelude.{Some, slice_get}
use Rattle.line_names.proofs.LineLists.{last_line}
use Rattle.line_names.proofs.line_list.LineList.last.Goals as goal

pub returns : goal.returns
returns c =
    let first : to_z w32 (of_z w32 c.self.inside.first) ≡ c.self.inside.first = to_z-of_z w32 c.self.inside.first (search rules) in
    let fits : SFits w64 c.place_line.result = search rules in
    let line : to_z w64 (of_z w64 c.place_line.result) ≡ (c.self.inside.first +ℤ pos c.self.inside.count) -ℤ pos 1 = omega (arith, ints, to_z-of_z w64 c.place_line.result fits, c.place_line.ensures, first, c.if-self-eq0.false) in
    ap (λ z. Some z) line
    ∙ sym (last_line c.self.inside.words c.self.inside.first c.self.inside.count c.self.invariant (omega (arith, c.if-self-eq0.false)))
    ∙ ap (λ ls. slice_get ls (length ls - 1)) c.self.view_is
