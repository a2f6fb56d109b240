use Rattle.std.proofs.Common.{◌≡◌, map, take}
use Rattle.box_layout.specs.Seats.{frame_of_seat}
use Rattle.box_layout.proofs.lines.frames_of_seats.Given as goal

abbrev pub invariant-loop-seat : goal.invariant-loop-seat
invariant-loop-seat l = l.frames ≡ map frame_of_seat (take l.seat-index l.seats)
