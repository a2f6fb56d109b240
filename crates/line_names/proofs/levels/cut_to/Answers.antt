use Rattle.std.proofs.Common.{rules, ap, ◌∙◌, ◌≡◌, to_z, of_z, w32, w64}
use Rattle.std.proofs.lemmas.Int.{to_z-of_z}
use Rattle.std.specs.Prelude.{filter, int_le}
use Rattle.line_names.specs.Levels.{told}
use Rattle.line_names.proofs.levels.cut_to.Goals as goal

pub returns-clause-value : goal.returns-clause-value
returns-clause-value c =
    let start : to_z w64 (of_z w64 c.from.result) ≡ c.args.limit.start = to_z-of_z w64 c.from.result (search rules) ∙ c.from.ensures ∙ to_z-of_z w32 c.args.limit.start (search rules) in
    let end : to_z w64 (of_z w64 c.from-2.result) ≡ c.args.limit.end = to_z-of_z w64 c.from-2.result (search rules) ∙ c.from-2.ensures ∙ to_z-of_z w32 c.args.limit.end (search rules) in
    c.lines_up_to.ensures.value
    ∙ ap (λ ls. filter (λ l. int_le l (to_z w64 (of_z w64 c.from-2.result))) ls) c.lines_from.ensures.value
    ∙ ap (λ z. filter (λ l. int_le l (to_z w64 (of_z w64 c.from-2.result))) (filter (λ l. int_le z l) (told c.args.lines))) start
    ∙ ap (λ z. filter (λ l. int_le l z) (filter (λ l. int_le c.args.limit.start l) (told c.args.lines))) end
