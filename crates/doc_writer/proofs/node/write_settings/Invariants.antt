use Rattle.std.proofs.Common.{◌≡◌, false, drop}
use Rattle.std.specs.FinMap as map
use Rattle.doc_writer.specs.Documents.{settings_of, declarations}
use Rattle.doc_writer.specs.Spaces.{put}
use Rattle.doc_writer.proofs.node.write_settings.Given as goal

-- the declarations that are left, after those so far, are all
abbrev pub invariant-loop-p : goal.invariant-loop-p
invariant-loop-p l = put l.line (declarations l.some (settings_of (map.get l.style) (drop l.p-index l.properties))) ≡ put l.fn.line (declarations false (settings_of (map.get l.style) l.properties))
