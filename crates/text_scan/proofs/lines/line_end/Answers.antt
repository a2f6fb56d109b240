use Rattle.std.proofs.Common.{◌+◌, ℕ, ap, sym, ◌∙◌, List, position, arith}
use Rattle.std.specs.Option.{option_map}
use Rattle.text_scan.specs.Lines.{is_line_feed}
use Rattle.text_scan.proofs.Front.{position_or_len-le, position-drop}
use Rattle.text_scan.proofs.lines.line_end.Goals as goal

pub from_index-requires : goal.from_index-requires
from_index-requires c = omega (arith, position_or_len-le is_line_feed c.args.bytes.now, c.requires)

pub returns-in-Some : goal.returns-in-Some
returns-in-Some c =
    let rest = ap (λ (xs : List ℕ). position is_line_feed xs) c.from_index.ensures in
    ap (option_map (λ (i : ℕ). c.args.searched + i)) (c.in-Some.ensures ∙ rest) ∙ sym (position-drop is_line_feed c.args.bytes.now c.args.searched c.requires)

pub returns-in-None : goal.returns-in-None
returns-in-None c =
    let rest = ap (λ (xs : List ℕ). position is_line_feed xs) c.from_index.ensures in
    ap (option_map (λ (i : ℕ). c.args.searched + i)) (c.in-None.ensures ∙ rest) ∙ sym (position-drop is_line_feed c.args.bytes.now c.args.searched c.requires)
