use Rattle.std.proofs.Common.{◌≡◌, [], length}
use Rattle.std.specs.FinMap as map
use Rattle.doc_text.specs.NodeText.{with_braces, braces_in}
use Rattle.doc_text.proofs.node_text.with_braces.Given as goal

-- what is read from here on is what is read of all
abbrev pub invariant-loop-made : goal.invariant-loop-made
invariant-loop-made l = with_braces l.version (braces_in l.left) l.made ≡ with_braces l.version (braces_in l.text) ([], map.empty)

abbrev pub decreases-loop-made : goal.decreases-loop-made
decreases-loop-made l = length l.left.bytes
