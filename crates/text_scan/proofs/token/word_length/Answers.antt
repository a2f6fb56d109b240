use Rattle.std.proofs.Common.{sym, None}
use Rattle.text_scan.specs.Tokens.{is_separator}
use Rattle.text_scan.proofs.Front.{position_cases}
use Rattle.text_scan.proofs.token.word_length.Goals as goal

pub returns-in-None : goal.returns-in-None
returns-in-None c = sym (position_cases is_separator c.args.bytes.now None c.in-None.ensures)
