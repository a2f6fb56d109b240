use Rattle.std.proofs.Common.{◌≡◌, drop}
use Rattle.plain_tree.specs.Trees.{leafless}
use Rattle.doc_text.specs.Documents.{nodes_of}
use Rattle.doc_text.proofs.read.read_nodes.Given as goal

-- the nodes of the lines that are left, after those so far, are all
abbrev pub invariant-loop-line : goal.invariant-loop-line
invariant-loop-line l = nodes_of l.version (drop l.line-index l.lines) l.growth ≡ nodes_of l.version l.lines leafless
