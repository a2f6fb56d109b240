use Rattle.std.proofs.Common.{rules, ◌∙◌, ◌≡◌, ap, pos, int_lt, to_z, of_z, w64, SFits}
use Rattle.std.specs.Prelude.{filter}
use Rattle.std.specs.Int.{int_min}
use Rattle.std.proofs.lemmas.Int.{to_z-of_z}
use Rattle.part_rules.specs.LineNames.{going_back, named_lines}
use Rattle.line_names.proofs.places.named_back.Goals as goal

pub returns : goal.returns
returns c =
    let fits : SFits w64 c.back_in.result = search rules in
    let same : to_z w64 (of_z w64 c.args.end) ≡ c.args.end = to_z-of_z w64 c.args.end c.ranges.end in
    to_z-of_z w64 c.back_in.result fits
    ∙ c.back_in.ensures
    ∙ ap (λ ls. going_back ls c.args.count (int_min (pos 0) (to_z w64 (of_z w64 c.args.end)))) (c.lines_before.ensures ∙ ap (λ ls. filter (λ l. int_lt l (to_z w64 (of_z w64 c.args.end))) ls) c.lines_of.ensures)
    ∙ ap (λ e. going_back (filter (λ l. int_lt l e) (named_lines c.args.table.now c.args.name.now)) c.args.count (int_min (pos 0) e)) same
