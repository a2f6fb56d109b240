use Rattle.std.proofs.Common.{◌≡◌, drop}
use Rattle.doc_text.specs.NodeText.{widths_of}
use Rattle.doc_text.proofs.Widths.{behind}
use Rattle.doc_text.proofs.node_text.widths_of.Given as goal

-- the widths so far, before those that are left, are all
abbrev pub invariant-loop-token : goal.invariant-loop-token
invariant-loop-token l = behind l.widths (widths_of l.text (drop l.token-index l.tokens)) ≡ widths_of l.text l.tokens
