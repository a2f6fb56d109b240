use Rattle.std.proofs.Common.{arith, ap, ◌∙◌, sym, List}
use Rattle.std.proofs.Math.ListN.{drop_of_length-le}
use Rattle.lunit.specs.declared.item.Item.{Item}
use Rattle.track_sizing.specs.Reached.{all_noted}
use Rattle.track_sizing.proofs.Noted.{all_notes, no_notes}
use Rattle.track_sizing.proofs.reach.note_reached.Goals as goal

pub returns : goal.returns
returns c =
    all_notes c.args.affected.now c.args.items.now c.args.rows.now c.args.notes.now c.loop-item.notes c.requires.length
    (sym (ap (λ (xs : List Item). all_noted c.args.affected.now xs c.args.rows.now c.loop-item.notes) (drop_of_length-le c.args.items.now (omega arith))) ∙ c.loop-item.invariant.same)

pub returns-then-not-some_affected : goal.returns-then-not-some_affected
returns-then-not-some_affected c = no_notes c.args.affected.now c.args.items.now c.args.rows.now c.args.notes.now c.note_none.new.notes c.requires.length c.note_none.ensures (sym c.some_affected.ensures ∙ c.if-not-some_affected.true)
