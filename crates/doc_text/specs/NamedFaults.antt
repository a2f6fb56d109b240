-- The first fault of a node.
use Rattle.std.specs.Prelude.{Bool, true, false}
use Rattle.text_scan.specs.declared.line.Place.{Place}
use Rattle.track_text.specs.declared.errors.ReadError.{ReadError}
use Rattle.track_text.specs.declared.errors.ReadError.TheVariants as error
use Rattle.track_text.specs.Gives.{fault_at}

-- 6 at the name where it is taken, and else the fault that comes after it
abbrev pub first_fault : Bool → Place → ReadError → ReadError
first_fault true at later = error.Fault (fault_at 6 at)
first_fault false at later = later
