use Rattle.std.proofs.Common.{◌≡◌, Some, ap, sym, ◌∙◌, drop, slice_get}
use Rattle.std.proofs.lemmas.Option.{slice_get-get_or}
use Rattle.open_document.specs.Changed.{has_box}
use Rattle.open_document.proofs.Comparing.{drop_apart, noted_more}
use Rattle.open_document.proofs.changed.note_others.Goals as goal

pub loop-index-preserved : goal.loop-index-preserved
loop-index-preserved c before apart others p is =
    let boxes = c.args.boxes.now in
    let index = c.loop-index.index in
    let box = c.index-boxes-index.result in
    let at : slice_get boxes index ≡ Some box = slice_get-get_or boxes index box c.loop-index-test.true ∙ ap Some (sym c.index-boxes-index.is) in
    let same : c.is_among.result ≡ has_box (drop c.args.count before) box = c.is_among.ensures (drop c.args.count before) (drop_apart before c.args.count apart) is in
    noted_more before boxes c.args.count index c.args.changed.now c.loop-index.changed others p box c.loop-index.auto.index at (c.loop-index.invariant before apart others p is) c.note.new.changed c.is_among.result same c.in_ok-note.ensures
