-- The commands of the program, and the words that they are (own rules).
use Rattle.std.specs.Prelude.{◌<◌, ◌≤◌, ⊤, ℕ, ◌^◌, ◌&&◌, Bool, false, nat_le, nat_lt, if◌then◌else◌, List, [], ◌∷◌, length, Option, Some, None, option_and_then, codes}
use Rattle.std.specs.Str.{all_ascii_digits, bytes_eq}
use Rattle.std.specs.Str.Parse.{digits_value}
use Rattle.clap.specs.Words.{Text}
use Rattle.command_words.specs.Options.{has_dashes, is_taken, value_in, layout, make}
use Rattle.command_words.specs.declared.Command.{Command}
use Rattle.command_words.specs.declared.Command.TheVariants.{Layout, Make, Write}

-- ---- numbers

-- 1 to 20 decimal digits
abbrev pub is_number : Text → Bool
is_number text = (nat_lt 0 (length text) && nat_le (length text) 20) && all_ascii_digits text

abbrev pub below : ℕ → Option ℕ
below number = if nat_lt number (2 ^ 64) then Some number else None

-- the number below 2^64 that the text is
unfoldable pub number_of : Text → Option ℕ
number_of text = if is_number text then below (digits_value 10 text) else None

-- the number of nodes that a document can be made of: 1 to 20,000
abbrev pub within : ℕ → Option ℕ
within number = if nat_lt number 1 then None else (if nat_lt 20000 number then None else Some number)

unfoldable pub nodes_of : Text → Option ℕ
nodes_of text = option_and_then within (number_of text)

-- ---- the options of a command

-- the value of a flag that is there
abbrev pub is_given : Option Text → Bool
is_given None = false
is_given (Some value) = bytes_eq value (codes "true")

-- of `layout`: nothing, or `--stats`
unfoldable pub layout_of : List Text → Option Command
layout_of words = if has_dashes words then None
    else (if is_taken layout words then Some (Layout (is_given (value_in layout words (codes "stats")))) else None)

abbrev pub made_of : Option ℕ → Option ℕ → Option Command
made_of None nodes = None
made_of (Some seed) None = None
made_of (Some seed) (Some nodes) = Some (Make seed nodes)

abbrev pub made_by : Option Text → Option Text → Option Command
made_by None nodes = None
made_by (Some seed) None = None
made_by (Some seed) (Some nodes) = made_of (number_of seed) (nodes_of nodes)

-- of `make`: `--seed N` and `--nodes M`
unfoldable pub make_of : List Text → Option Command
make_of words = if has_dashes words then None
    else (if is_taken make words then made_by (value_in make words (codes "seed")) (value_in make words (codes "nodes")) else None)

-- of `write`: nothing follows it
unfoldable pub write_of : List Text → Option Command
write_of [] = Some Write
write_of (word ∷ words) = None

-- ---- the words

-- the command that the words are: the first names it, and its options follow
unfoldable pub command_of : List Text → Option Command
command_of [] = None
command_of (first ∷ rest) = if bytes_eq first (codes "layout") then layout_of rest
    else (if bytes_eq first (codes "make") then make_of rest
    else (if bytes_eq first (codes "write") then write_of rest else None))

-- ---- what holds of a command

-- a document is made of 1 to 20,000 nodes
abbrev pub HasNodes : Command → Type 0
HasNodes (Layout stats) = ⊤
HasNodes (Make seed nodes) = (0 < nodes) × (nodes ≤ 20000)
HasNodes Write = ⊤
