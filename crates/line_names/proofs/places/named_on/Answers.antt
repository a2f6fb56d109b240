use Rattle.std.proofs.Common.{rules, ◌∙◌, ◌≡◌, ap, pos, int_lt, to_z, of_z, w64, SFits}
use Rattle.std.specs.Prelude.{filter}
use Rattle.std.specs.Int.{int_max}
use Rattle.std.proofs.lemmas.Int.{to_z-of_z}
use Rattle.part_rules.specs.LineNames.{going_on, named_lines}
use Rattle.line_names.specs.Levels.{told}
use Rattle.line_names.proofs.places.named_on.Goals as goal

pub returns : goal.returns
returns c =
    let fits : SFits w64 c.going_on.result = search rules in
    let same : to_z w64 (of_z w64 c.args.start) ≡ c.args.start = to_z-of_z w64 c.args.start c.ranges.start in
    let last : to_z w64 (of_z w64 c.last_line.result) ≡ int_max (pos c.args.table.now.tracks) c.args.start = to_z-of_z w64 c.last_line.result (search rules) ∙ c.last_line.ensures.value ∙ ap (λ z. int_max (pos c.args.table.now.tracks) z) same in
    let lines : told c.lines_after-lines.result ≡ filter (λ l. int_lt c.args.start l) (named_lines c.args.table.now c.args.name.now) =
    c.lines_after-lines.ensures ∙ ap (λ ls. filter (λ l. int_lt (to_z w64 (of_z w64 c.args.start)) l) ls) c.lines_of.ensures ∙ ap (λ z. filter (λ l. int_lt z l) (named_lines c.args.table.now c.args.name.now)) same in
    to_z-of_z w64 c.going_on.result fits
    ∙ c.going_on.ensures.value
    ∙ ap (λ z. going_on (told c.lines_after-lines.result) c.args.count z) last
    ∙ ap (λ ls. going_on ls c.args.count (int_max (pos c.args.table.now.tracks) c.args.start)) lines
