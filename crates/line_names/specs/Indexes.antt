-- An index of the lines by their names.
use Rattle.std.specs.Prelude.{◌≡◌, ℕ, ◌-◌, ℤ, pos, Bool, true, List, [], ◌∷◌, ◌++◌, length, Option, Some, None, unwrap_or, slice_get, int_lt, if◌then◌else◌}
use Rattle.std.specs.Ordering.{nat_cmp}
use Rattle.std.specs.Cmp.Lexicographic.{slice_cmp}
use Rattle.std.specs.BTreeMap as tree
use Rattle.std.specs.BTreeMap.{BTreeMap}
use Rattle.part_rules.specs.LineNames.{named_from}

-- the lines that stand under a name
abbrev pub lines_in : BTreeMap (List ℕ) (List ℤ) → List ℕ → List ℤ
lines_in index name = unwrap_or (tree.get (slice_cmp nat_cmp) index name) []

-- the line, if there is one, is before this one
abbrev pub precedes : Option ℤ → ℤ → Bool
precedes None line = true
precedes (Some last) line = int_lt last line

-- the last of these lines, if there is one, is before this one
abbrev pub ends_before : List ℤ → ℤ → Bool
ends_before lines line = precedes (slice_get lines (length lines - 1)) line

-- these lines and this one, which may stand among them already
abbrev pub noted : List ℤ → ℤ → List ℤ
noted lines line = if ends_before lines line then lines ++ line ∷ [] else lines

-- the lines of a name with this line, where the line has the name
abbrev pub marked : Bool → List ℤ → ℤ → List ℤ
marked held lines line = if held then noted lines line else lines

-- each name has the lines that the definition gives for it
abbrev pub IsIndexOf : BTreeMap (List ℕ) (List ℤ) → List (List (List ℕ)) → Type 0
IsIndexOf index lines = (name : List ℕ) → lines_in index name ≡ named_from name (pos 0) lines

-- the names that pass a test have these lines, and all others none
abbrev pub IsPart : BTreeMap (List ℕ) (List ℤ) → (List ℕ → Bool) → (List ℕ → List ℤ) → Type 0
IsPart index done value = (name : List ℕ) → lines_in index name ≡ (if done name then value name else [])
