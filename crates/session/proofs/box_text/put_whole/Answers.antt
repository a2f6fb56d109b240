use Rattle.std.proofs.Common.{arith, rules}
use Rattle.std.proofs.lemmas.Fmt.{length-decimal-le}
use Rattle.session.proofs.box_text.put_whole.Goals as goal

pub write_digits-requires : goal.write_digits-requires
write_digits-requires c = (omega (arith, length-decimal-le 20 c.args.whole (omega arith) (omega arith) (omega arith)), search rules)

pub returns-clause-short : goal.returns-clause-short
returns-clause-short c = omega (arith, length-decimal-le 20 c.args.whole (omega arith) (omega arith) (omega arith), c.write_digits.ensures.start)
