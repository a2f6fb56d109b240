use Rattle.std.proofs.Common.{◌∙◌, ap, sym, arith, get_or, pos}
use Rattle.std.proofs.lemmas.List.{take_all}
use Rattle.part_rules.specs.LineNames.{named_from}
use Rattle.line_names.proofs.Names.{index_step}
use Rattle.line_names.proofs.index.NameIndex.of_sets.Goals as goal

pub loop-at-preserved : goal.loop-at-preserved
loop-at-preserved c = λ other. c.in_ok-add_all.ensures other ∙ index_step other c.args.sets.now c.loop-at.at c.as_slice.result.now _ (omega (arith, c.loop-at-test.true))
    (c.as_slice.ensures ∙ c.index-sets-at.is ∙ ap (λ d. get_or c.args.sets.now c.loop-at.at d) (sym c.as_slice.ensures)) (c.loop-at.invariant other)

pub returns : goal.returns
returns c = λ other. c.loop-at.invariant other ∙ ap (λ lines. named_from other (pos 0) lines) (take_all c.loop-at.at c.args.sets.now c.loop-at-test.false)
