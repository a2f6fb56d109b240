-- A slot that C holds.
use Rattle.std.specs.Prelude.{◌≡◌}
use Rattle.std.specs.Option.{is_some}
use Rattle.gridlay_c.specs.declared.slot.Slot.{Slot}

-- that the mark says whether there is a document
abbrev pub IsTrue : Slot → Type 0
IsTrue s = s.full ≡ is_some s.handle.held
