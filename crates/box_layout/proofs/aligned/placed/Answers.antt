use Rattle.std.proofs.Common.{arith}
use Rattle.std.proofs.lemmas.Int.{ints}
use Rattle.box_layout.proofs.aligned.placed.Goals as goal

pub returns-clause-near : goal.returns-clause-near
returns-clause-near c = record {
  low = omega (arith, ints, c.add.ensures, c.add-2.ensures, c.add-3.ensures, c.wide.ensures.range.0, c.wide.ensures.range.1, c.requires.taken.0, c.requires.taken.1, c.requires.moved.0, c.requires.moved.1);
  high = omega (arith, ints, c.add.ensures, c.add-2.ensures, c.add-3.ensures, c.wide.ensures.range.0, c.wide.ensures.range.1, c.requires.taken.0, c.requires.taken.1, c.requires.moved.0, c.requires.moved.1);
}
