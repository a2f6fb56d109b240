-- The rules of nodes that close.
use Rattle.doc_text.proofs.Opening.{adopted_last}

pub ruleset adopted = (adopted_last)
