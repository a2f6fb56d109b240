use Rattle.std.proofs.Common.{◌≡◌, ◌≤◌, ◌++◌, length, take, drop}
use Rattle.track_text.specs.Templates.{sets_of}
use Rattle.track_text.proofs.subgrids.sets_of.Given as goal

abbrev pub invariant-loop-part : goal.invariant-loop-part
invariant-loop-part l = record {
  few : length l.held ≤ 20001;
  rest : take 20001 (l.held ++ sets_of (drop l.part-index l.parts)) ≡ take 20001 (sets_of l.parts);
}
