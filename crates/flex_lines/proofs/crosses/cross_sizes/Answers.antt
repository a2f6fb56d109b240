use Rattle.std.proofs.Common.{ap, ◌≡◌, ◌∙◌, sym, subst, List, ℤ, Some, true, map}
use Rattle.std.specs.Prelude.{IfOk}
use Rattle.part_rules.specs.FlexLines.{line_crosses, own_cross, stretched_lines}
use Rattle.flex_lines.proofs.Crossing.{crosses_are}
use Rattle.flex_lines.proofs.crosses.cross_sizes.Goals as goal

pub returns-in-Some : goal.returns-in-Some
returns-in-Some g c =
    let outer = c.args.outer.now in
    let lines = c.args.lines.now in
    let sizes : c.deref.result.now ≡ map (own_cross outer c.args.cross c.args.wrap) lines =
    c.deref.ensures.value ∙ c.in_ok-sizes.ensures ∙ ap (λ o. map (own_cross outer o c.args.wrap) lines) c.exact-cross.ensures.value in
    let known : c.args.cross ≡ Some c.in-Some.size = sym c.exact-cross.ensures.value ∙ c.in-Some.is in
    let same : stretched_lines (Some c.in-Some.size) c.args.gap true c.deref.result.now ≡ line_crosses outer lines c.args.cross c.args.gap c.args.wrap c.args.stretch =
    crosses_are outer lines c.args.cross c.in-Some.size c.args.gap c.args.wrap c.args.stretch c.deref.result.now known c.if-wrap.true c.if-stretch.true sizes in
    let Is : List ℤ → Type 0 = λ zs. IfOk c.stretched.result (λ all. all.items ≡ zs) in
    subst Is same c.stretched.ensures
