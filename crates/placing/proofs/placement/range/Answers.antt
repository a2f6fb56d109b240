use Rattle.std.proofs.Common.{arith}
use Rattle.lunit.specs.declared.geometry.Area.{Area}
use Rattle.node_arena.specs.declared.number.NodeId.{NodeId}
use Rattle.placing.specs.Along.{span_along}
use Rattle.placing.proofs.Spans.{range_step}
use Rattle.placing.proofs.placement.range.Goals as goal

pub loop-area-preserved : goal.loop-area-preserved
loop-area-preserved c =
    range_step c.args.explicit (λ (e : NodeId × Area). span_along c.args.axis e.1) c.args.areas.now c.loop-area.area-index _ c.loop-area.range c.with_span-range.result c.span_along.result (omega (arith, c.loop-area-test.true)) c.loop-area.invariant c.with_span-range.ensures c.span_along.ensures
