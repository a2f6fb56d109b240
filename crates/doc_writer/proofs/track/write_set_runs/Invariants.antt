use Rattle.std.proofs.Common.{◌≡◌, drop}
use Rattle.doc_writer.specs.Spaces.{put}
use Rattle.doc_writer.specs.Tracks.{set_runs}
use Rattle.doc_writer.proofs.track.write_set_runs.Given as goal

-- the set, and those that are left, after what is written so far, are all
abbrev pub invariant-loop-next : goal.invariant-loop-next
invariant-loop-next l = put l.line (set_runs l.names l.count (drop l.next-index l.lines)) ≡ put l.fn.line (set_runs l.first 1 l.lines)
