-- The name sets of lines, each with the number of its set (own rule).
use Rattle.std.specs.Prelude.{◌≡◌, ◌⊎◌, ℕ, ◌<◌, ℤ, pos, negsuc, Bool, false, List, [], ◌∷◌, length, get_or, map}
use Rattle.std.specs.List.{list_any}
use Rattle.part_rules.specs.LineNames.{holds_name, named_from}
use Rattle.line_names.specs.Passing.{among, passing}
use Rattle.line_names.specs.declared.set_list.SetList.{SetList}

-- the sets of lines that have these kinds
abbrev pub sets_of : List (List (List ℕ)) → List ℕ → List (List (List ℕ))
sets_of sets kinds = map (λ kind. get_or sets kind []) kinds

-- the kind of one of so many sets, or that of a line without names, which is past all sets
abbrev pub IsKind : ℕ → ℕ → Type 0
IsKind count kind = (kind < count) ⊎ (kind ≡ 4294967295)

-- all of these are such kinds
abbrev pub AreKinds : ℕ → List ℕ → Type 0
AreKinds count kinds = (line : ℕ) → line < length kinds → IsKind count (get_or kinds line 0)

-- whether a line has one of these kinds
abbrev pub is_of : List ℤ → List ℕ → ℤ → Bool
is_of some kinds (pos line) = among some (pos (get_or kinds line 0))
is_of some kinds (negsuc line) = false

-- the lines of a name among these, numbered from 0
abbrev pub named_in : SetList → List ℕ → List ℤ
named_in l name = named_from name (pos 0) (sets_of l.sets l.kinds)

-- whether one of these sets has the name
abbrev pub has_name : List (List (List ℕ)) → List ℕ → Bool
has_name sets name = list_any (λ names. holds_name name names) sets

-- of each kind of so many lines the lines, numbered from 0
pub record AreLists (l : SetList) (lines : ℕ) (lists : List (List ℤ)) : Type 0 where
  pub counted : length lists ≡ length l.sets
  pub passed : (kind : ℕ) → kind < length l.sets → get_or lists kind [] ≡ passing (is_of (pos kind ∷ []) l.kinds) (pos 0) lines
