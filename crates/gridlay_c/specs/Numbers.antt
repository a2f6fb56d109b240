-- The numbers that the calls answer.
use Rattle.std.specs.Prelude.{ℕ}

abbrev pub ok : ℕ
ok = 0

-- the room is too short
abbrev pub room : ℕ
room = 1

-- there is no such name, index or box
abbrev pub none : ℕ
none = 2

-- the text is refused
abbrev pub refused : ℕ
refused = 3

-- there is no document
abbrev pub closed : ℕ
closed = 4

-- the document was not laid out since it was edited last
abbrev pub stale : ℕ
stale = 5

-- memory was wanting
abbrev pub memory : ℕ
memory = 6

-- the text has more than 2^26 bytes
abbrev pub over : ℕ
over = 7

-- a line of the text would have more than 65,536 bytes
abbrev pub long : ℕ
long = 8
