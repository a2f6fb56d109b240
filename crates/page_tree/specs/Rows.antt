-- The rows of the table of refusals, one after another.
use Rattle.std.specs.Prelude.{ℕ, Bool, Option, Some, None}
use Rattle.text_scan.specs.declared.line.Fault.{Fault}
use Rattle.text_scan.specs.declared.line.Place.{Place}
use Rattle.track_text.specs.Gives.{fault_at}
use Rattle.doc_text.specs.Edits.{where_}

-- the fault of this number where the row comes, and else what follows
abbrev pub or_later : Bool → ℕ → Place → Option Fault → Option Fault
or_later comes number at later = elim (where_ comes at) [ Some place ↦ Some (fault_at number place) | None ↦ later ]
