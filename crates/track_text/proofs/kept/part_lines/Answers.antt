use Rattle.std.proofs.Common.{rules, arith, ◌≡◌, ◌≤◌, ◌+◌, ◌++◌, [], ◌∷◌, List, take, drop, length, ap, ◌∙◌, sym}
use Rattle.track_text.specs.declared.entry.Part.{Part}
use Rattle.track_text.specs.declared.entry.Part.TheVariants as part
use Rattle.track_text.specs.declared.kept.Lines.{Lines}
use Rattle.track_text.specs.Repeats.{times}
use Rattle.track_text.specs.Kept.{entries_of}
use Rattle.track_text.specs.Lines.{closed_by, open_after}
use Rattle.track_text.proofs.Holding.{from_there}
use Rattle.track_text.proofs.Listing.{lines_next, open_next, lines_last}
use Rattle.track_text.proofs.kept.part_lines.Goals.{in-Written+in_ok-lines, in_default}
use Rattle.track_text.proofs.kept.part_lines.Goals as goal

pub loop-part-preserved : goal.loop-part-preserved
loop-part-preserved c =
    let item = c.part-item.result in
    let held = c.loop-part.lines in
    let all = take 10001 (closed_by [] (entries_of c.args.parts.now)) in
    let last = open_after [] (entries_of c.args.parts.now) in
    let here = drop c.loop-part.part-index c.args.parts.now in
    let left = drop (c.loop-part.part-index + 1) c.args.parts.now in
    let e : here ≡ item ∷ left = search (rules, from_there) in
    elim c.match-part.branch [
      | in-Written+in_ok-lines w ↦
          let k : item ≡ part.Written w.in-Written.count w.in-Written.body = search rules in
          let made = w.in_ok-lines.lines in
          let n : made.closed ≡ take 10001 (held.closed ++ closed_by held.last (times w.in-Written.count w.in-Written.body)) = search rules in
          let o : made.last ≡ open_after held.last (times w.in-Written.count w.in-Written.body) = search rules in
          let same : length c.match-part.lines.closed ≡ length made.closed = ap (λ (l : Lines). length l.closed) w.lines-is in
          record {
            few = omega (arith, w.in_ok-lines.ensures.few, same);
            closed = ap (λ (l : Lines). take 10001 (l.closed ++ closed_by l.last (entries_of left))) w.lines-is
                ∙ lines_next 10001 held.closed made.closed all held.last made.last w.in-Written.count w.in-Written.body here left item e k n o c.loop-part.invariant.closed;
            last = ap (λ (l : Lines). open_after l.last (entries_of left)) w.lines-is
                ∙ open_next held.last made.last last w.in-Written.count w.in-Written.body here left item e k o c.loop-part.invariant.last;
          }
      | in_default w ↦
          let same : length c.match-part.lines.closed ≡ length held.closed = ap (λ (l : Lines). length l.closed) w.lines-is in
          record {
            few = omega (arith, c.loop-part.invariant.few, same);
            closed = ap (λ (l : Lines). take 10001 (l.closed ++ closed_by l.last (entries_of left))) w.lines-is
                ∙ ap (λ (ps : List Part). take 10001 (held.closed ++ closed_by held.last (entries_of ps))) (sym (e ∙ ap (λ (x : Part). x ∷ left) w.in_default.is))
                ∙ c.loop-part.invariant.closed;
            last = ap (λ (l : Lines). open_after l.last (entries_of left)) w.lines-is
                ∙ ap (λ (ps : List Part). open_after held.last (entries_of ps)) (sym (e ∙ ap (λ (x : Part). x ∷ left) w.in_default.is))
                ∙ c.loop-part.invariant.last;
          }
    ]

pub returns-clause-closed : goal.returns-clause-closed
returns-clause-closed c = lines_last 10001 c.loop-part.lines.closed (take 10001 (closed_by [] (entries_of c.args.parts.now))) c.loop-part.lines.last c.args.parts.now c.loop-part.part-index (omega arith) c.loop-part.invariant.few c.loop-part.invariant.closed
