use Rattle.std.proofs.Common.{◌≤◌, max}
use Rattle.doc_writer.specs.Marks.{SetsRun}
use Rattle.doc_writer.proofs.area.mark_run.Given as goal

-- the cells so far have the mark
abbrev pub invariant-loop-k : goal.invariant-loop-k
invariant-loop-k l = record { low : l.start ≤ l.k; reach : l.k ≤ max l.start l.end; sets : SetsRun l.start l.k l.mark l.fn.marks l.marks }
