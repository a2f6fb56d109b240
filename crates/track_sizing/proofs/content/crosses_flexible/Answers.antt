use Rattle.std.proofs.Common.{arith, ap, ◌∙◌, sym, take}
use Rattle.std.specs.List.{list_any}
use Rattle.std.proofs.lemmas.Int.{ints}
use Rattle.part_rules.specs.Tracks.{flexible}
use Rattle.track_sizing.proofs.Singles.{spanned_at}
use Rattle.track_sizing.proofs.content.crosses_flexible.Goals as goal

pub returns : goal.returns
returns c =
    c.some_flexible.ensures
    ∙ ap (list_any flexible) (c.split_at-2.ensures.front ∙ ap (take c.span_length-tracks.result) c.split_at.ensures.back
    ∙ sym (spanned_at c.args.item.now c.args.first c.args.rows.now c.place_of-start.result c.span_length-tracks.result c.requires.set c.place_of-start.ensures (omega (arith, ints, c.span_length-tracks.ensures.value))))
