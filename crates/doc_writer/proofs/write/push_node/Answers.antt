use Rattle.std.proofs.Common.{◌∙◌, ap, arith, length}
use Rattle.doc_text.specs.View.{label_of}
use Rattle.doc_writer.proofs.Short.{node_long, node_short}
use Rattle.doc_writer.proofs.write.push_node.Goals as goal

pub returns-then-as_slice-gt-LONGEST-clause-err : goal.returns-then-as_slice-gt-LONGEST-clause-err
returns-then-as_slice-gt-LONGEST-clause-err c =
    node_long c.args.text.now.items c.as_slice.result.now c.args.level (label_of c.args.node.now) (c.as_slice.ensures ∙ c.in_ok-write_node.ensures) c.if-as_slice-gt-LONGEST.true

pub returns-clause-ok : goal.returns-clause-ok
returns-clause-ok c =
    node_short c.args.text.now.items c.write_node.new.line c.push_line.new.text.items c.args.level (label_of c.args.node.now) c.in_ok-write_node.ensures (omega (arith, c.if-as_slice-gt-LONGEST.false, ap length c.as_slice.ensures)) c.in_ok-push_line.ensures
