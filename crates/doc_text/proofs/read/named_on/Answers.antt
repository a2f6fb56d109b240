use Rattle.doc_text.proofs.Naming.{no_place, no_text}
use Rattle.doc_text.proofs.read.named_on.Goals as goal

pub returns-in-Err : goal.returns-in-Err
returns-in-Err c =
    no_place c.args.version c.args.level c.args.name c.args.at c.args.rest.now c.args.growth
    c.first_fault.result c.in-Err.error c.first_fault.ensures c.in-Err.ensures.standing

pub returns-in-Err-node_text : goal.returns-in-Err-node_text
returns-in-Err-node_text c =
    no_text c.args.version c.args.level c.args.name c.args.at c.args.rest.now c.args.growth
    c.first_fault-in-Err-node_text.result c.in-Err-node_text.error c.in-Ok.field-0
    c.first_fault-in-Err-node_text.ensures c.in-Ok.ensures.standing c.in-Err-node_text.ensures
