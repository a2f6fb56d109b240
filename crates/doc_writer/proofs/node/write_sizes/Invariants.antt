use Rattle.std.proofs.Common.{◌≡◌, drop}
use Rattle.doc_writer.specs.Documents.{px_words}
use Rattle.doc_writer.specs.Spaces.{put}
use Rattle.doc_writer.proofs.node.write_sizes.Given as goal

-- the sizes that are left, after those so far, are all
abbrev pub invariant-loop-size : goal.invariant-loop-size
invariant-loop-size l = put l.line (px_words (drop l.size-index l.sizes)) ≡ put l.fn.line (px_words l.sizes)
