use Rattle.std.proofs.Common.{arith, ◌∙◌, sym}
use Rattle.std.proofs.lemmas.Int.{ints}
use Rattle.track_sizing.specs.Kinds.{affected_of}
use Rattle.track_sizing.specs.Reached.{noted_by}
use Rattle.track_sizing.proofs.Noted.{joined_notes, noted_at}
use Rattle.track_sizing.proofs.reach.note_item.Goals as goal

pub returns : goal.returns
returns c =
    joined_notes (noted_by (affected_of c.args.affected.now)) c.args.notes.now c.args.rows.now c.place_of-start.result c.span_length-tracks.result
    c.split_at_mut-front.result.0.now c.split_at_mut-front.result.1.now c.split_at_mut-own.result.0.now c.split_at_mut-own.result.1.now c.note_affected.new.notes c.split_at.result.1.now c.split_at-2.result.0.now
    c.split_at_mut-front.ensures.front c.split_at_mut-front.ensures.back c.split_at_mut-own.ensures.front c.split_at_mut-own.ensures.back c.split_at.ensures.back c.split_at-2.ensures.front c.note_affected.ensures
    ∙ sym (noted_at c.args.affected.now c.args.item.now c.args.first c.args.rows.now c.args.notes.now c.place_of-start.result c.span_length-tracks.result c.requires.set c.requires.length c.place_of-start.ensures (omega (arith, ints, c.span_length-tracks.ensures.value)))
