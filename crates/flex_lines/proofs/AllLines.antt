-- All lines, one after another.
use Rattle.std.proofs.Common.{arith, ap, ◌≡◌, ◌∙◌, sym, ℕ, zero, suc, ◌+◌, ◌<◌, ℤ, List, [], ◌∷◌, ◌++◌, drop, get_or, length, slice_range}
use Rattle.std.proofs.lemmas.List.{append_assoc, drop_more}
use Rattle.part_rules.specs.declared.flex.FlexItem.{FlexItem}
use Rattle.part_rules.specs.FlexLines.{line_sizes, main_sizes}
use Rattle.flex_lines.specs.Lines.{AreRanges, IsRange}

abbrev Lines : Type 0
Lines = List (ℕ × ℕ)

-- a line among ranges is a range
pub range_read : (items : ℕ) (lines : Lines) (i : ℕ) (d : ℕ × ℕ) → AreRanges items lines → i < length lines → IsRange items (get_or lines i d)
range_read items [] i d h lt = absurd (omega (arith, lt))
range_read items (line ∷ lines) zero d h lt = h.0
range_read items (line ∷ lines) (suc i) d h lt = range_read items lines i d h.1 (omega (arith, lt))
