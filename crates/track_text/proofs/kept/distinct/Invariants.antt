use Rattle.std.proofs.Common.{◌≡◌, drop}
use Rattle.track_text.specs.NameSets.{with_names, distinct}
use Rattle.track_text.proofs.Holding.{Holds}
use Rattle.track_text.proofs.kept.distinct.Given as goal

abbrev pub invariant-loop-name : goal.invariant-loop-name
invariant-loop-name l = record {
  holds : Holds l.seen l.set;
  rest : with_names l.set (drop l.name-index l.names) ≡ distinct l.names;
}
