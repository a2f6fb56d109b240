-- What a handle owns: a document in a block of its own, where it holds one.
use base.Fml.{Fml, ftrue}
use denote.RawPtr.{Ptr}
use Rattle.std.specs.Prelude.{Option, Some, None}
use Rattle.std.specs.Coded.{Coded, coded_option}
use Rattle.std.specs.Box.Ownership.{box_owns}
use Rattle.std.specs.Global.{Global}
use Rattle.std_heap.specs.contracts.GlobalAllocator.TheImpl.{ghosts}
use Rattle.open_document.specs.contracts.document.OpenDocument.{the_row}

unfoldable pub handle_owns : Global → Ptr → Option the_row.Denot → Fml
handle_owns a p (Some x) = box_owns (ghosts.dealloc_token a) the_row p x
handle_owns a p None = ftrue

abbrev pub held_coded : Coded (Option the_row.Denot)
held_coded = coded_option the_row.coded
