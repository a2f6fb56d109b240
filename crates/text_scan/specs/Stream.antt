-- A stream of bytes that is read line by line.
use Rattle.std.specs.Prelude.{◌≡◌, ℕ, ◌+◌, Bool, true, false, not, ◌&&◌, ◌||◌, ◌==◌, if◌then◌else◌, List, [], ◌++◌, length, Option, Some, None, option_to_list}
use Rattle.std.specs.List.{before_first, after_first, position_or_len}
use Rattle.text_scan.specs.declared.line.Line.{Line}
use Rattle.text_scan.specs.Lines.{is_line_feed, has_line_feed, ends_line, whole_lines, line_of, lines_from, lines_of}

-- What a reader of lines knows: the number of the next line, how many bytes were fed in all, and the bytes
-- that were fed and not yet taken.
pub record Stream : Type 0 where
  pub number : ℕ
  pub fed : ℕ
  pub held : List ℕ

-- Nothing was fed yet; lines are counted from 1.
abbrev pub empty_stream : Stream
empty_stream = record { number = 1; fed = 0; held = [] }

-- The stream after one more piece.
abbrev pub fed_with : List ℕ → Stream → Stream
fed_with piece s = record { number = s.number; fed = s.fed + length piece; held = s.held ++ piece }

abbrev pub is_empty : List ℕ → Bool
is_empty bytes = length bytes == 0

-- Whether the held bytes begin with a whole line: they hold a line feed, or all bytes were fed and some are held.
abbrev pub is_line_due : Bool → List ℕ → Bool
is_line_due ended held = has_line_feed held || (ended && not (is_empty held))

-- The length of the line that is due.
abbrev pub due_length : Bool → List ℕ → Option ℕ
due_length ended held = if is_line_due ended held then Some (position_or_len is_line_feed held) else None

-- The line that comes next, where one is due.
abbrev pub next_line : Bool → Stream → Option Line
next_line ended s = if is_line_due ended s.held then Some (line_of s.number (before_first is_line_feed s.held)) else None

-- The stream after that line and its line feed.
abbrev pub after_next : Bool → Stream → Stream
after_next ended s = if is_line_due ended s.held then record { number = s.number + 1; fed = s.fed; held = after_first is_line_feed s.held } else s

-- The lines of what is held and of the bytes that come after it.
abbrev pub lines_ahead : Stream → List ℕ → List Line
lines_ahead s more = lines_from s.number (s.held ++ more)

-- What was read so far: of the bytes that were fed, the whole lines in front were taken, and the rest is held.
pub record HasRead (fed : List ℕ) (taken : List Line) (s : Stream) : Type 0 where
  pub whole : List ℕ
  pub split : fed ≡ whole ++ s.held
  pub ended : ends_line whole ≡ true
  pub lines : taken ≡ lines_of whole
  pub number : s.number ≡ length taken + 1
  pub count : s.fed ≡ length fed

-- What a call of `take` makes of it.
pub record Takes (ended : Bool) (fed : List ℕ) (taken : List Line) (found : Option Line) (s : Stream) : Type 0 where
  -- a whole line more
  pub more : ended ≡ false → HasRead fed (taken ++ option_to_list found) s
  -- or all whole lines were taken
  pub whole : ended ≡ false → found ≡ None → taken ≡ lines_of (whole_lines fed)
  -- what was taken, then the lines of what is held, are the lines of all that was fed
  pub all : taken ++ option_to_list found ++ lines_from s.number s.held ≡ lines_of fed
