use Rattle.std.proofs.Common.{arith}
use Rattle.std.proofs.lemmas.Int.{ints}
use Rattle.word_leaf.proofs.Filling.{sum_next}
use Rattle.word_leaf.proofs.words.width_of.Goals as goal

pub loop-word-preserved : goal.loop-word-preserved
loop-word-preserved c = record {
  so_far = omega (arith, ints, sum_next c.args.words.now c.loop-word.word-index c.word-item.result c.loop-word-test.true);
  low = omega (arith, ints);
  high = omega (arith, ints);
}
