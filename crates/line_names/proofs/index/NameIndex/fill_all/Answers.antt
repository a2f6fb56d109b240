use Rattle.std.proofs.Common.{◌||◌, take}
use Rattle.part_rules.specs.LineNames.{holds_name}
use Rattle.line_names.specs.SetLists.{named_in}
use Rattle.line_names.proofs.Names.{part_same, part_step}
use Rattle.line_names.proofs.index.NameIndex.fill_all.Goals as goal

pub loop-name-preserved : goal.loop-name-preserved
loop-name-preserved c = λ done part.
    part_same c.fill.new.self.lines _ _ (named_in c.args.lines.now)
    (part_step done c.args.names.now c.loop-name.name-index c.name-item.result c.loop-name-test.true c.name-item.is)
    (c.in_ok-fill.ensures (λ other. done other || holds_name other (take c.loop-name.name-index c.args.names.now)) (c.loop-name.invariant done part))
