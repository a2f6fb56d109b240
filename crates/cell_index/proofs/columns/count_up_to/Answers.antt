use Rattle.std.proofs.Common.{arith, ◌≡◌, ◌+◌, ◌-◌, ◌/◌, to_z, of_z, w64}
use Rattle.std.proofs.lemmas.Int.{ints, to_z-of_z}
use Rattle.cell_index.proofs.Edges.{ascending, counted_after, counted_before}
use Rattle.cell_index.proofs.columns.count_up_to.Goals as goal

pub loop-low-preserved-then-edge_at-limit : goal.loop-low-preserved-then-edge_at-limit
loop-low-preserved-then-edge_at-limit c = record {
  order = omega arith;
  within = omega arith;
  before = λ i h. omega (arith, ints, c.edge_at.ensures, c.if-edge_at-limit.true, ascending c.args.edges.now c.requires i (c.loop-low.low + (c.loop-low.high - c.loop-low.low) / 2) (omega arith) (omega arith));
  after = λ i h k. omega (arith, ints, c.loop-low.invariant.after i h k);
}

pub loop-low-preserved : goal.loop-low-preserved
loop-low-preserved c = record {
  order = omega arith;
  within = omega arith;
  before = λ i h. omega (arith, ints, c.loop-low.invariant.before i h);
  after = λ i h k. omega (arith, ints, c.edge_at.ensures, c.if-edge_at-limit.false, ascending c.args.edges.now c.requires (c.loop-low.low + (c.loop-low.high - c.loop-low.low) / 2) i h k);
}

pub returns-clause-before : goal.returns-clause-before
returns-clause-before c =
    let e : to_z w64 (of_z w64 c.args.limit) ≡ c.args.limit = to_z-of_z w64 c.args.limit c.ranges.limit in
    counted_before c.args.edges.now c.args.limit c.loop-low.low (λ i h. omega (arith, ints, c.loop-low.invariant.before i h, e))

pub returns-clause-after : goal.returns-clause-after
returns-clause-after c =
    let e : to_z w64 (of_z w64 c.args.limit) ≡ c.args.limit = to_z-of_z w64 c.args.limit c.ranges.limit in
    counted_after c.args.edges.now c.args.limit c.loop-low.low (λ i h k. omega (arith, ints, c.loop-low.invariant.after i (omega arith) k, e))
