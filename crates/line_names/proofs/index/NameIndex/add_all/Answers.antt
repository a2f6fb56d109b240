use Rattle.std.proofs.Common.{◌∙◌, ap, refl, arith, pos}
use Rattle.std.proofs.lemmas.List.{take_all}
use Rattle.part_rules.specs.LineNames.{holds_name}
use Rattle.line_names.specs.Indexes.{lines_in, marked}
use Rattle.line_names.proofs.Names.{marked_step}
use Rattle.line_names.proofs.index.NameIndex.add_all.Goals as goal

pub loop-name-init : goal.loop-name-init
loop-name-init c = λ other. refl

pub loop-name-preserved : goal.loop-name-preserved
loop-name-preserved c = λ other. c.in_ok-add.ensures other ∙ marked_step other c.args.names.now c.loop-name.name-index c.name-item.result _ (lines_in c.args.self.now.lines other) (pos c.args.line) (omega arith) c.name-item.is (c.loop-name.invariant other)

pub returns : goal.returns
returns c = λ other. c.loop-name.invariant other ∙ ap (λ names. marked (holds_name other names) (lines_in c.args.self.now.lines other) (pos c.args.line)) (take_all c.loop-name.name-index c.args.names.now c.loop-name-test.false)
