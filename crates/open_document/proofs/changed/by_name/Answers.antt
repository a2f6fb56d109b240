use Rattle.std.proofs.Common.{rules, ◌≡◌, Some, ap, sym, ◌∙◌, slice_get}
use Rattle.std.proofs.lemmas.Option.{slice_get-get_or}
use Rattle.std.specs.BTreeMap.{Updates}
use Rattle.std.specs.Cmp.Lexicographic.{slice_cmp}
use Rattle.std.specs.Ordering.{nat_cmp}
use Rattle.open_document.proofs.Naming.{named_more}
use Rattle.open_document.proofs.changed.by_name.Goals as goal

pub loop-name-preserved : goal.loop-name-preserved
loop-name-preserved c =
    let boxes = c.args.boxes.now in
    let index = c.loop-name.name-index in
    let box = c.loop-name-item.result in
    let at : slice_get boxes index ≡ Some box = slice_get-get_or boxes index box c.loop-name-test.true ∙ ap Some (sym c.loop-name-item.is) in
    let updates : Updates (slice_cmp nat_cmp) c.loop-name.rects c.insert.new.self box.0 (Some box.1) = search rules in
    named_more c.loop-name.rects c.insert.new.self boxes index box c.requires at c.loop-name.invariant updates
