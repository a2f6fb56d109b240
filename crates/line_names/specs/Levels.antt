-- The names that a grid and those above it give to lines, as the code shares them.
use Rattle.std.specs.Prelude.{◌≡◌, ℕ, ◌+◌, ◌≤◌, ℤ, pos, negsuc, neg_ℤ, ◌+ℤ◌, ◌-ℤ◌, ◌≤ℤ◌, int_le, Bool, ◌||◌, List, [], ◌∷◌, ◌++◌, get_or, map, filter}
use Rattle.part_rules.specs.LineNames.{holds_name, lines_by, names_by_areas}
use Rattle.line_names.specs.Indexes.{lines_in}
use Rattle.line_names.specs.LineLists.{listed}
use Rattle.line_names.specs.Passing.{among, passing}
use Rattle.line_names.specs.SetLists.{sets_of}
use Rattle.line_names.specs.declared.counting.NamedLines.{NamedLines}
use Rattle.line_names.specs.declared.index.NameIndex.{NameIndex}
use Rattle.line_names.specs.declared.levels.Level.{Level}

-- ---- lines told from another line

-- these lines, told from this one
abbrev pub told_from : ℤ → List ℤ → List ℤ
told_from base lines = map (λ line. line -ℤ base) lines

-- these lines as the table that has them tells them
abbrev pub told : NamedLines → List ℤ
told l = told_from l.base.line (listed l.lines)

-- those of these lines that lie in a range
abbrev pub within : ℤ → ℤ → List ℤ → List ℤ
within low high lines = filter (λ line. int_le line high) (filter (λ line. int_le low line) lines)

-- the names of a line of a list of lines; one beyond them has none
abbrev pub names_in : List (List (List ℕ)) → ℤ → List (List ℕ)
names_in lines (pos line) = get_or lines line []
names_in lines (negsuc line) = []

-- ---- levels

-- the sets of a grid of its own
abbrev pub own_sets : Level → List (List (List ℕ))
own_sets level = sets_of level.sets.sets level.sets.kinds

-- the lines of a grid below others: of the topmost its sets have all names
abbrev pub lines_under : Level → List Level → List (List (List ℕ))
lines_under level [] = own_sets level
lines_under level (above ∷ rest) =
    lines_by
    (λ line. get_or (own_sets level) line [] ++ names_by_areas (pos line) level.areas ++ names_in (lines_under above rest) (level.over.start +ℤ pos line))
    (level.tracks + 1) 0

-- the first of these lists that is not empty
abbrev pub over : List ℤ → List ℤ → List ℤ
over [] below = below
over (line ∷ lines) below = line ∷ lines

-- the lines of a name in the lowest of these levels that has some
abbrev pub found : List Level → List ℕ → List ℤ
found [] name = []
found (level ∷ rest) name = over (lines_in level.index.lines name) (found rest name)

-- the lines of a name under levels: those that an index has for it, or else those of the levels that lie in the range
abbrev pub seen_in : NameIndex → List Level → ℤ → ℤ → ℤ → List ℕ → List ℤ
seen_in index above base low high name = over (told_from base (lines_in index.lines name)) (within low high (told_from base (found above name)))

-- the lines of a name are those from 0 to a number of tracks that pass the test of the name
abbrev pub IsHeld : NameIndex → List Level → ℤ → ℕ → (List ℕ → ℤ → Bool) → Type 0
IsHeld index above base tracks test = (name : List ℕ) → seen_in index above base (pos 0) (pos tracks) name ≡ passing (test name) (pos 0) (tracks + 1)

-- the lines of a name in these levels, in the tracks of a subgrid below them, are those that pass the test of the name
abbrev pub IsAbove : List Level → ℤ → ℕ → (List ℕ → ℤ → Bool) → Type 0
IsAbove above base tracks test = (name : List ℕ) → within (pos 0) (pos tracks) (told_from base (found above name)) ≡ passing (test name) (pos 0) (tracks + 1)

-- a test that a line passes too if it has the name in these lines
abbrev pub or_in : (List ℕ → ℤ → Bool) → List (List (List ℕ)) → List ℕ → ℤ → Bool
or_in test lines name l = test name l || holds_name name (names_in lines l)

-- an index holds what the levels above hold, and these lines
abbrev pub HoldsLines : NameIndex → List Level → ℤ → ℕ → List (List (List ℕ)) → Type 0
HoldsLines index above base tracks lines = (test : List ℕ → ℤ → Bool) → IsAbove above base tracks test → IsHeld index above base tracks (or_in test lines)

-- whether a line of the topmost grid is among these lines of a subgrid, whose line 0 is this one, or among those of the levels above
abbrev pub either : List ℤ → List ℤ → ℤ → ℤ → Bool
either own above base line = among own (line -ℤ base) || among above line

-- the lines of a name in an index of a subgrid's own lines or in the levels above, as lines of the topmost grid
abbrev pub joined_in : NameIndex → List Level → ℤ → ℕ → List ℕ → List ℤ
joined_in own above base tracks name = passing (either (lines_in own.lines name) (found above name) base) base (tracks + 1)

-- the tracks of a subgrid whose line 0 is this one of the topmost grid
pub record IsBelow (base : ℤ) (tracks : ℕ) : Type 0 where
  pub few : tracks ≤ 20000
  pub low : neg_ℤ (pos 10000) ≤ℤ base
  pub high : base ≤ℤ pos 10000
