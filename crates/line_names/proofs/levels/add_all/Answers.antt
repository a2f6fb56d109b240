use Rattle.std.proofs.Common.{◌||◌, take}
use Rattle.part_rules.specs.LineNames.{holds_name}
use Rattle.line_names.specs.Levels.{joined_in}
use Rattle.line_names.proofs.Names.{part_same, part_step}
use Rattle.line_names.proofs.levels.add_all.Goals as goal

pub loop-name-preserved : goal.loop-name-preserved
loop-name-preserved c = λ done part.
    part_same c.add.new.index.lines _ _ (joined_in c.args.own.now c.args.above.now c.args.base.line c.args.tracks)
    (part_step done c.args.names.now c.loop-name.name-index c.name-item.result c.loop-name-test.true c.name-item.is)
    (c.in_ok-add.ensures (λ other. done other || holds_name other (take c.loop-name.name-index c.args.names.now)) (c.loop-name.invariant done part))
