use Rattle.std.proofs.Common.{rules, ◌≡◌, ◌++◌, ◌∷◌, [], take}
use Rattle.runs.specs.Times.{times as runs_times}
use Rattle.track_text.specs.NameSets.{distinct}
use Rattle.track_text.specs.Kept.{entries_of}
use Rattle.track_text.specs.Lines.{closed_by, open_after}
use Rattle.track_text.proofs.Listing.{few_ok, names_ok}
use Rattle.track_text.proofs.kept.part_names.Goals as goal

pub returns-clause-few : goal.returns-clause-few
returns-clause-few c = few_ok 10001 (c.in_ok-closed.field-0.closed ++ runs_times 1 c.push.new.self) c.with_times.result c.with_times.ensures

pub returns-clause-names : goal.returns-clause-names
returns-clause-names c =
    let es = entries_of c.args.parts.now in
    let k : c.in_ok-closed.field-0.closed ≡ take 10001 (closed_by [] es) = c.in_ok-closed.ensures.closed in
    let o : c.in_ok-closed.field-0.last ≡ open_after [] es = c.in_ok-closed.ensures.last in
    let m : c.push.new.self ≡ distinct c.in_ok-closed.field-0.last ∷ [] = search rules in
    names_ok 10001 c.in_ok-closed.field-0.closed c.push.new.self es c.in_ok-closed.field-0.last c.with_times.result k o m c.with_times.ensures
