use Rattle.std.proofs.Common.{rules, ap, ◌∙◌, ◌≡◌, ◌-◌, ◌+ℤ◌, pos, to_z, of_z, w32, w64}
use Rattle.std.proofs.lemmas.Int.{to_z-of_z}
use Rattle.line_names.specs.LineLists.{is_in}
use Rattle.line_names.specs.Passing.{passing}
use Rattle.line_names.proofs.LineLists.{from_place}
use Rattle.line_names.proofs.line_list.LinesIn.from.Goals as goal

pub returns : goal.returns
returns c =
    let first : to_z w32 (of_z w32 c.args.self.first) ≡ c.args.self.first = to_z-of_z w32 c.args.self.first (search rules) in
    ap (λ z. passing (is_in c.args.self.words.now z) (z +ℤ pos c.later.result) (c.args.self.end - c.later.result)) first
    ∙ from_place c.args.self.words.now c.args.self.first c.args.self.start c.args.self.end c.place_of.result c.args.low _ (to_z-of_z w64 c.args.low c.ranges.low) c.place_of.ensures.within c.place_of.ensures.not_after c.place_of.ensures.not_before c.later.result c.later.ensures
