use Rattle.std.proofs.Common.{arith, sym, ap, ◌∙◌, to_z, w32}
use Rattle.std.proofs.lemmas.Int.{ints, clamps, to_z-of_z}
use Rattle.cell_index.specs.Passed.{passed}
use Rattle.cell_index.proofs.Passed.{passed_ends, passed_in, passed_never, passed_out, passed_stops}
use Rattle.cell_index.proofs.columns.passed.Goals as goal
use Rattle.cell_index.proofs.columns.passed.Goals.{then-inside, else-inside+else-edge-line}

pub returns-then-edge-line : goal.returns-then-edge-line
returns-then-edge-line c =
    sym (passed_stops c.loop-edge.inside c.args.edges.now c.loop-edge.edge-index (to_z w32 c.loop-edge.line-bits) c.args.columns c.if-inside.false (omega (arith, c.loop-edge-test.true)) (omega (arith, ints, c.if-edge-line.true)))
    ∙ c.loop-edge.invariant
    ∙ ap (λ z. passed c.args.begins_inside c.args.edges.now z c.args.columns) (to_z-of_z w32 c.args.start c.ranges.start)

pub loop-edge-preserved : goal.loop-edge-preserved
loop-edge-preserved c = elim c.if-inside.branch [
  | then-inside w ↦
      passed_in c.loop-edge.inside c.args.edges.now c.loop-edge.edge-index (to_z w32 c.loop-edge.line-bits) (to_z w32 c.if-inside.line-bits) c.args.columns w.if-inside.true (omega (arith, c.loop-edge-test.true)) (omega (arith, ints, clamps))
      ∙ c.loop-edge.invariant
  | else-inside+else-edge-line w ↦
      passed_out c.loop-edge.inside c.args.edges.now c.loop-edge.edge-index (to_z w32 c.loop-edge.line-bits) (to_z w32 c.if-inside.line-bits) c.args.columns w.if-inside.false (omega (arith, c.loop-edge-test.true)) (omega (arith, ints, w.if-edge-line.false)) (omega (arith, ints))
      ∙ c.loop-edge.invariant
]

pub returns-then-inside-2 : goal.returns-then-inside-2
returns-then-inside-2 c =
    sym (passed_never c.loop-edge.inside c.args.edges.now c.loop-edge.edge-index (to_z w32 c.loop-edge.line-bits) c.args.columns c.if-inside-2.true (omega (arith, c.loop-edge-test.false)) (omega (arith, ints)))
    ∙ c.loop-edge.invariant
    ∙ ap (λ z. passed c.args.begins_inside c.args.edges.now z c.args.columns) (to_z-of_z w32 c.args.start c.ranges.start)

pub returns-else-inside-2 : goal.returns-else-inside-2
returns-else-inside-2 c =
    sym (passed_ends c.loop-edge.inside c.args.edges.now c.loop-edge.edge-index (to_z w32 c.loop-edge.line-bits) c.args.columns c.if-inside-2.false (omega (arith, c.loop-edge-test.false)))
    ∙ c.loop-edge.invariant
    ∙ ap (λ z. passed c.args.begins_inside c.args.edges.now z c.args.columns) (to_z-of_z w32 c.args.start c.ranges.start)
