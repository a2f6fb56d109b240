use Rattle.std.proofs.Common.{◌≡◌, ◌++◌, drop}
use Rattle.track_text.specs.Templates.{tracks_of}
use Rattle.track_text.proofs.kept.tracks_of.Given as goal

abbrev pub invariant-loop-entry : goal.invariant-loop-entry
invariant-loop-entry l = l.tracks ++ tracks_of (drop l.entry-index l.entries) ≡ tracks_of l.entries
