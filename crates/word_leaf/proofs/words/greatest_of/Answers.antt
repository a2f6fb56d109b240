use Rattle.std.proofs.Common.{arith}
use Rattle.word_leaf.proofs.Greatest.{all_seen}
use Rattle.word_leaf.proofs.words.greatest_of.Goals as goal

pub returns : goal.returns
returns c = all_seen c.loop-word.greatest c.args.words.now c.loop-word.word-index c.loop-word.invariant.so_far (omega arith) c.loop-word.invariant.some c.loop-word.invariant.high
