-- Lines as ranges of the items, from the outer size of the line that stands.
use Rattle.std.specs.Prelude.{ℕ, suc, ◌≤◌, ℤ, ◌+ℤ◌, int_le, List, [], ◌∷◌, if◌then◌else◌}
use Rattle.part_rules.specs.declared.flex.FlexItem.{FlexItem}
use Rattle.part_rules.specs.FlexLines.{outer_hypothetical}

-- The line that stands, from `start` up to `place` and of so much outer size, and the lines after it.
abbrev pub begun : ℤ → ℤ → ℕ → ℕ → ℤ → List FlexItem → List (ℕ × ℕ)
begun main gap start place present [] = (start, place) ∷ []
begun main gap start place present (x ∷ rest) =
    let joined = present +ℤ gap +ℤ outer_hypothetical x in
    let joins = begun main gap start (suc place) joined rest in
    let begins = (start, place) ∷ begun main gap place (suc place) (outer_hypothetical x) rest in
    if int_le joined main then joins else begins

-- a range of so many items
pub record IsRange (items : ℕ) (range : ℕ × ℕ) : Type 0 where
  pub order : range.0 ≤ range.1
  pub end : range.1 ≤ items

-- ranges of so many items
abbrev pub AreRanges : ℕ → List (ℕ × ℕ) → Type 0
AreRanges items [] = Unit {0}
AreRanges items (range ∷ rest) = IsRange items range × AreRanges items rest
