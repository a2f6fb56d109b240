use Rattle.std.proofs.Common.{ℕ, List, ap, length, arith, length-drop}
use Rattle.text_scan.specs.Tokens.{is_separator}
use Rattle.text_scan.proofs.Front.{position_or_len-le}
use Rattle.text_scan.proofs.token.front_length.Goals as goal

pub returns-clause-within : goal.returns-clause-within
returns-clause-within c =
    let rest = c.from_index.result.now in
    omega (arith, c.requires, c.word_length.ensures, position_or_len-le is_separator rest, ap (λ (xs : List ℕ). length xs) c.from_index.ensures, length-drop c.args.at c.args.bytes.now)
