use Rattle.std.proofs.Common.{◌∙◌, ◌≡◌, ◌+ℤ◌, ap, sym, subst, ℤ, pos, SFits, List, Bool, to_z, of_z, w32}
use Rattle.std.proofs.Common.{rules}
use Rattle.std.proofs.lemmas.Int.{to_z-of_z}
use Rattle.std.proofs.lemmas.Result.{IfOk-weaker}
use Rattle.part_rules.specs.declared.track.Rule.{Rule}
use Rattle.tree_rules.specs.Labels.{GridAxis, grid_of}
use Rattle.tree_rules.specs.Templates.{Written, written}
use Rattle.tree_rules.specs.TrackRules.{axis_rules, is_collapsed, tracks_of}
use Rattle.placing.specs.Axes.{grid_axis}
use Rattle.placing.specs.Covered.{AreFlags, rules_by}
use Rattle.placing.proofs.Tracks.{rules_made}
use Rattle.placing.proofs.rules.axis_rules.Goals as goal

pub returns : goal.returns
returns g c =
    let fits : SFits w32 c.first_line-first.result = search rules in
    let near : to_z w32 (of_z w32 c.first_line-first.result) ≡ c.args.tracks.start = to_z-of_z w32 c.first_line-first.result fits ∙ c.first_line-first.ensures in
    let axis : GridAxis = grid_axis g.row.AXIS (grid_of c.args.style.now) in
    let w : Written = written axis.template c.args.count in
    let told : AreFlags (λ at. is_collapsed c.fit_range-fit.result c.args.areas.now (c.args.tracks.start +ℤ pos at)) c.track_count-number.result c.in_ok-collapsed.collapsed =
    subst (λ (z : ℤ). AreFlags (λ at. is_collapsed c.fit_range-fit.result c.args.areas.now (z +ℤ pos at)) c.track_count-number.result c.in_ok-collapsed.collapsed) near c.in_ok-collapsed.ensures in
    let flags : AreFlags (λ at. is_collapsed c.fit_range-fit.result c.args.areas.now (c.args.tracks.start +ℤ pos at)) c.track_count-number.result c.as_slice.result.now =
    subst (λ (fs : List Bool). AreFlags (λ at. is_collapsed c.fit_range-fit.result c.args.areas.now (c.args.tracks.start +ℤ pos at)) c.track_count-number.result fs) (sym c.as_slice.ensures) told in
    let made : List Rule = rules_by c.args.base c.of-sizes.result c.autos_of.result.now (to_z w32 (of_z w32 c.first_line-first.result)) c.as_slice.result.now in
    let wanted : List Rule = axis_rules c.args.base axis w c.args.areas.now (tracks_of c.args.tracks) in
    let same : made ≡ wanted =
    ap (λ (z : ℤ). rules_by c.args.base c.of-sizes.result c.autos_of.result.now z c.as_slice.result.now) near
    ∙ rules_made c.args.base axis w c.args.areas.now c.args.tracks c.of-sizes.result c.autos_of.result.now c.fit_range-fit.result c.track_count-number.result c.as_slice.result.now c.of-sizes.ensures c.fit_range-fit.ensures.value c.track_count-number.ensures.value flags c.autos_of.ensures in
    let P : List Rule → Type 0 = λ rules. rules ≡ made in
    let Q : List Rule → Type 0 = λ rules. rules ≡ wanted in
    IfOk-weaker c.rules_of.result P Q (λ rules e. e ∙ same) c.rules_of.ensures
