use Rattle.std.proofs.Common.{◌∙◌, ◌+ℤ◌, ap, pos, rules, SFits, ℤ, w32}
use Rattle.std.specs.Option.{unwrap_or}
use Rattle.std.proofs.lemmas.Int.{to_z-of_z}
use Rattle.part_rules.specs.Repetition.{size_at}
use Rattle.style_types.specs.Table.{auto_track}
use Rattle.style_types.specs.declared.track.TrackFn.{TrackFn}
use Rattle.tree_rules.specs.TrackRules.{rule_of}
use Rattle.placing.proofs.rules.rule_after.Goals as goal

pub returns : goal.returns
returns c =
    let fits : SFits w32 c.line_after.result = search rules in
    c.rule_of.ensures
    ∙ ap (λ (s : TrackFn). rule_of c.args.base.now s c.args.collapsed)
    (c.size_of-size.ensures
    ∙ ap (λ (z : ℤ). unwrap_or (size_at c.args.sizes.now c.args.autos.now z) auto_track)
    (to_z-of_z w32 c.line_after.result fits ∙ c.line_after.ensures ∙ ap (λ (z : ℤ). z +ℤ pos c.args.tracks) (to_z-of_z w32 c.args.first c.ranges.first)))
