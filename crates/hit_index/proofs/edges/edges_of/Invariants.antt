use Rattle.hit_index.specs.Strips.{AreEdges}
use Rattle.hit_index.proofs.edges.edges_of.Given as goal

abbrev pub invariant-loop-strip : goal.invariant-loop-strip
invariant-loop-strip l = AreEdges l.rects l.strip l.edges.items
