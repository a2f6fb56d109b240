use Rattle.std.proofs.Common.{rules, ap, ◌∙◌, ◌≡◌, ◌-◌, ◌+ℤ◌, pos, to_z, of_z, w32, w64, SFits}
use Rattle.std.proofs.lemmas.Int.{to_z-of_z}
use Rattle.line_names.specs.LineLists.{is_in}
use Rattle.line_names.specs.Passing.{passing}
use Rattle.line_names.proofs.LineLists.{to_place}
use Rattle.line_names.proofs.line_list.LinesIn.up_to.Goals as goal

pub returns : goal.returns
returns c =
    let first : to_z w32 (of_z w32 c.args.self.first) ≡ c.args.self.first = to_z-of_z w32 c.args.self.first (search rules) in
    let high : to_z w64 (of_z w64 c.args.high) ≡ c.args.high = to_z-of_z w64 c.args.high c.ranges.high in
    let fits : SFits w64 (c.args.high +ℤ pos 1) = search rules in
    let next : to_z w64 (of_z w64 (to_z w64 (of_z w64 c.args.high) +ℤ pos 1)) ≡ c.args.high +ℤ pos 1 = ap (λ z. to_z w64 (of_z w64 (z +ℤ pos 1))) high ∙ to_z-of_z w64 (c.args.high +ℤ pos 1) fits in
    ap (λ z. passing (is_in c.args.self.words.now z) (z +ℤ pos c.args.self.start) (c.place_of.result - c.args.self.start)) first
    ∙ to_place c.args.self.words.now c.args.self.first c.args.self.start c.args.self.end c.place_of.result c.args.high _ next c.place_of.ensures.within c.place_of.ensures.not_after c.place_of.ensures.not_before
