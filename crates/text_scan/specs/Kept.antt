-- What the fields of a reader of lines hold.
use Rattle.std.specs.Prelude.{◌+◌, ◌-◌, ◌≤◌, length, drop}
use Rattle.std.specs.List.{position_or_len}
use Rattle.text_scan.specs.Lines.{is_line_feed}
use Rattle.text_scan.specs.Stream.{Stream}
use Rattle.text_scan.specs.declared.lines.Lines.TheInside.{Inside}

-- The bytes before `start` are taken.
abbrev pub stream_of : Inside → Stream
stream_of a = record { number = a.number; fed = a.fed; held = drop a.start a.held.items }

pub record IsKept (a : Inside) : Type 0 where
  pub within : a.start ≤ length a.held.items
  -- the bytes that count as searched have no line feed
  pub searched : a.searched ≤ position_or_len is_line_feed (drop a.start a.held.items)
  pub stored : length a.held.items ≤ a.fed
  pub from_one : 1 ≤ a.number
  -- each line that was taken had a byte or a line feed, so the number fits
  pub counted : a.number + (length a.held.items - a.start) ≤ a.fed + 1
  pub bounded : a.fed ≤ 134217728
