use Rattle.std.proofs.Common.{rules, ap, ◌≡◌, ◌∙◌, sym, subst, List, ◌∷◌, length, ℕ}
use Rattle.std.specs.Prelude.{IfOk}
use Rattle.std.proofs.lemmas.Result.{IfOk-weaker}
use Rattle.part_rules.specs.FlexLines.{line_ranges}
use Rattle.flex_lines.specs.Lines.{AreRanges, begun}
use Rattle.flex_lines.proofs.Begun.{lines_begun, lines_ranges}
use Rattle.flex_lines.proofs.lines.collect_lines.Goals as goal

pub returns-then-wrap-clause-lines : goal.returns-then-wrap-clause-lines
returns-then-wrap-clause-lines g c =
    let first = c.in-Some.first.now in
    let rest = c.in-Some.rest.now in
    let gap = c.args.gap in
    let main : c.units-then-wrap.result ≡ c.args.main = search rules in
    let same : begun c.units-then-wrap.result gap 0 1 c.outer_hypothetical.result rest ≡ line_ranges c.args.main gap c.args.wrap c.args.items.now =
    ap (λ z. begun z gap 0 1 c.outer_hypothetical.result rest) main
    ∙ ap (λ z. begun c.args.main gap 0 1 z rest) c.outer_hypothetical.ensures.value
    ∙ lines_begun c.args.main gap first rest
    ∙ ap (λ b. line_ranges c.args.main gap b (first ∷ rest)) (sym c.if-wrap.true)
    ∙ ap (line_ranges c.args.main gap c.args.wrap) (sym c.in-Some.ensures.cases.0) in
    let Is : List (ℕ × ℕ) → Type 0 = λ ls. IfOk c.wrapped.result (λ lines. lines.items ≡ ls) in
    subst Is same c.wrapped.ensures

pub returns-then-wrap-clause-ranges : goal.returns-then-wrap-clause-ranges
returns-then-wrap-clause-ranges g c =
    let first = c.in-Some.first.now in
    let rest = c.in-Some.rest.now in
    let found : AreRanges (length c.args.items.now) (begun c.units-then-wrap.result c.args.gap 0 1 c.outer_hypothetical.result rest) =
    subst (λ n. AreRanges n (begun c.units-then-wrap.result c.args.gap 0 1 c.outer_hypothetical.result rest)) (ap length (sym c.in-Some.ensures.cases.0)) (lines_ranges c.units-then-wrap.result c.args.gap c.outer_hypothetical.result first rest) in
    IfOk-weaker c.wrapped.result (λ lines. lines.items ≡ begun c.units-then-wrap.result c.args.gap 0 1 c.outer_hypothetical.result rest) (λ lines. AreRanges (length c.args.items.now) lines.items)
    (λ lines e. subst (AreRanges (length c.args.items.now)) (sym e) found) c.wrapped.ensures
