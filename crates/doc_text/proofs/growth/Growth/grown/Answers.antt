use Rattle.doc_text.proofs.Opening.{kept_grown}
use Rattle.doc_text.proofs.growth.Growth.grown.Goals as goal

pub invariant_of-result : goal.invariant_of-result
invariant_of-result c =
    kept_grown c.self.inside.names c.insert.new.self c.self.inside.path c.in_ok-pushed.field-0 c.args.node.name c.self.inside.count c.self.invariant
    c.in_ok-insert.ensures.updates c.in_ok-pushed.ensures.names c.in_ok-pushed.ensures.bare c.in_ok-pushed.ensures.count
