use Rattle.std.proofs.Common.{arith, ap, ◌≡◌, ◌∙◌}
use Rattle.part_rules.specs.Lists.{sum_of}
use Rattle.part_rules.specs.Sharing.{apportioned}
use Rattle.share_out.proofs.Parts.{all_parts, parts_are_all}
use Rattle.share_out.proofs.weights.apportion.Goals as goal

pub returns-clause-all : goal.returns-clause-all
returns-clause-all c whole =
    let parts : c.loop-place.out ≡ apportioned c.args.space c.args.total c.args.weights.now = all_parts c.loop-place.place c.loop-place.sum c.args.space c.args.total c.args.weights.now c.loop-place.out c.loop-place.invariant.length (omega arith) c.loop-place.invariant.parts in
    ap sum_of parts ∙ parts_are_all c.args.space c.args.total c.args.weights.now c.requires.some whole
