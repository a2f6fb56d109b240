use Rattle.std.proofs.Common.{arith, ap, sym, ◌∙◌, ◌≡◌, length, get_or, take}
use Rattle.line_names.specs.Levels.{joined_in}
use Rattle.line_names.specs.SetLists.{has_name}
use Rattle.line_names.proofs.Names.{part_same}
use Rattle.line_names.proofs.SetLists.{has_more}
use Rattle.line_names.proofs.Shared.{held_by_sets}
use Rattle.line_names.proofs.levels.index_below.Goals as goal

pub loop-names-preserved : goal.loop-names-preserved
loop-names-preserved c =
    let items : length c.as_slice-names-items.result.now ≡ length c.args.lines.now.sets = ap (λ ls. length ls) c.as_slice-names-items.ensures in
    part_same c.add_all.new.index.lines _ _ (joined_in c.in_ok-own.own c.args.above.now c.args.base.line c.args.tracks)
    (has_more c.args.lines.now.sets c.loop-names.names-index c.as_slice.result.now (omega (arith, items, c.loop-names-test.true))
    (c.as_slice.ensures ∙ c.names-item.is ∙ ap (λ ls. get_or ls c.loop-names.names-index c.names-item.result) c.as_slice-names-items.ensures ∙ ap (λ d. get_or c.args.lines.now.sets c.loop-names.names-index d) (sym c.as_slice.ensures)))
    (c.in_ok-add_all.ensures (has_name (take c.loop-names.names-index c.args.lines.now.sets)) c.loop-names.invariant)

pub returns : goal.returns
returns c =
    let items : length c.as_slice-names-items.result.now ≡ length c.args.lines.now.sets = ap (λ ls. length ls) c.as_slice-names-items.ensures in
    held_by_sets c.loop-names.index c.in_ok-own.own c.args.above.now c.args.base.line c.args.tracks c.args.lines.now.sets c.args.lines.now.kinds c.loop-names.names-index (omega (arith, items, c.loop-names-test.false)) c.in_ok-own.ensures c.requires.lines c.loop-names.invariant
