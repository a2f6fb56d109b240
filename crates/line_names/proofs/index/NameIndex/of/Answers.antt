use Rattle.std.proofs.Common.{arith, ap, sym, ◌∙◌, ◌≡◌, length, get_or, take}
use Rattle.line_names.specs.SetLists.{has_name, named_in}
use Rattle.line_names.proofs.Names.{part_same}
use Rattle.line_names.proofs.SetLists.{has_more, whole_part}
use Rattle.line_names.proofs.index.NameIndex.of.Goals as goal

pub loop-names-preserved : goal.loop-names-preserved
loop-names-preserved c =
    let items : length c.as_slice-names-items.result.now ≡ length c.args.lines.now.sets = ap (λ ls. length ls) c.as_slice-names-items.ensures in
    part_same c.fill_all.new.self.lines _ _ (named_in c.args.lines.now)
    (has_more c.args.lines.now.sets c.loop-names.names-index c.as_slice-in-loop-names.result.now (omega (arith, items, c.loop-names-test.true))
    (c.as_slice-in-loop-names.ensures ∙ c.names-item.is ∙ ap (λ ls. get_or ls c.loop-names.names-index c.names-item.result) c.as_slice-names-items.ensures ∙ ap (λ d. get_or c.args.lines.now.sets c.loop-names.names-index d) (sym c.as_slice-in-loop-names.ensures)))
    (c.in_ok-fill_all.ensures (has_name (take c.loop-names.names-index c.args.lines.now.sets)) c.loop-names.invariant)

pub returns : goal.returns
returns c =
    let items : length c.as_slice-names-items.result.now ≡ length c.args.lines.now.sets = ap (λ ls. length ls) c.as_slice-names-items.ensures in
    whole_part c.loop-names.index.lines c.args.lines.now.sets c.args.lines.now.kinds c.loop-names.names-index (omega (arith, items, c.loop-names-test.false)) c.loop-names.invariant
