-- Names of lines, and sets of them in square brackets (CSS Grid 2, 7.2.2).
use Rattle.std.specs.Prelude.{ℕ, Bool, not, ◌&&◌, List, [], ◌∷◌, ◌++◌, if◌then◌else◌, Option, Some, None, codes}
use Rattle.std.specs.Str.{bytes_eq}
use Rattle.std.specs.List.{list_any}
use Rattle.lunit.specs.Names.{is_name}
use Rattle.track_text.specs.Words.{Word, up_to}

-- the words that name neither a line nor an area (own rule)
abbrev pub is_reserved : Word → Bool
is_reserved word = list_any (bytes_eq word) (codes "span" ∷ codes "auto" ∷ codes "inherit" ∷ codes "initial" ∷ codes "unset" ∷ codes "revert" ∷ [])

-- a name of a line or an area
abbrev pub is_line_name : Word → Bool
is_line_name word = is_name word && not (is_reserved word)

abbrev pub name_first : List Word → Option (Word × ℕ)
name_first [] = None
name_first (word ∷ words) = if is_line_name word then Some (word, 0) else None

-- after `[`: the names up to `]`, and how many words are taken with it
abbrev pub names_after : List Word → Option (List Word × ℕ)
names_after words = up_to (codes "]") name_first 0 words

abbrev pub is_among : List Word → Word → Bool
is_among names name = list_any (bytes_eq name) names

-- the name at the end of the others, unless it is among them
abbrev pub with_name : List Word → Word → List Word
with_name names name = if is_among names name then names else names ++ name ∷ []

-- the names, and those of the others that are not among them
abbrev pub with_names : List Word → List Word → List Word
with_names names [] = names
with_names names (name ∷ more) = with_names (with_name names name) more

-- each name once, where it first stands (own rule)
abbrev pub distinct : List Word → List Word
distinct names = with_names [] names
