use Rattle.std.proofs.Common.{rules, arith}
use Rattle.std.proofs.lemmas.List.{length-take}
use Rattle.outside.proofs.Fronts.{copied_front}
use Rattle.outside.proofs.memory.give.Goals as goal

pub returns-clause-given : goal.returns-clause-given
returns-clause-given c = copied_front c.args.bytes.now c.args.room.now c.copy_from_slice.new.self c.args.at c.min-count.result c.copy_from_slice.ensures.after (search (rules, length-take, arith))
