-- What a name is.
use Rattle.std.specs.Prelude.{ℕ, Bool, false, ◌&&◌, ◌||◌, ◌==◌, nat_le, List, [], ◌∷◌, ◌++◌, length, codes, if◌then◌else◌, Result, Ok, Err}
use Rattle.std.specs.List.{list_all}
use Rattle.lunit.specs.declared.errors.BadName.{BadName}

abbrev pub between : ℕ → ℕ → ℕ → Bool
between low high byte = nat_le low byte && nat_le byte high

-- a letter or `_` (own rule)
abbrev pub begins_name : ℕ → Bool
begins_name byte = between 97 122 byte || (between 65 90 byte || byte == 95)

-- a letter, a digit, `-` or `_` (own rule)
abbrev pub continues_name : ℕ → Bool
continues_name byte = begins_name byte || (between 48 57 byte || byte == 45)

-- the text is a name of at most 58 bytes (own rule)
abbrev pub is_name : List ℕ → Bool
is_name [] = false
is_name (byte ∷ bytes) = begins_name byte && list_all continues_name bytes && nat_le (length (byte ∷ bytes)) 58

-- the name of an edge of the area of this name (CSS Grid 2, 7.3.2)
abbrev pub edge_of : Bool → List ℕ → List ℕ
edge_of end text = text ++ (if end then codes "-end" else codes "-start")

-- the name that the text is, or that it is none
abbrev pub read_name : List ℕ → Result (List ℕ) BadName
read_name text = if is_name text then Ok text else Err (record {})
