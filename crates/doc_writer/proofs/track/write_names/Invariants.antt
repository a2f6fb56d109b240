use Rattle.std.proofs.Common.{◌≡◌, drop}
use Rattle.doc_writer.specs.Spaces.{put}
use Rattle.doc_writer.proofs.track.write_names.Given as goal

-- the names that are left, after those so far, are all
abbrev pub invariant-loop-name : goal.invariant-loop-name
invariant-loop-name l = put l.line (drop l.name-index l.name-items) ≡ put l.fn.line l.names
