-- A document in a box, and a handle and its parts as rows: what the walks over a handle share.
use mir.Syntax.{impl, tnil, dnil}
use denote.Signature.{Slot, plain}
use mathlib.Core.List.{[]}
use Rattle.std_alloc.proofs.BoxSteps.Form.{Bx}
use Rattle.std_heap.specs.contracts.Global as Heap
use Rattle.std_heap.specs.contracts.GlobalAllocator.TheImpl.{ghosts, dict}
use Rattle.std_heap.proofs.Global.TheLaws as heap
use Rattle.open_document.specs.contracts.document.OpenDocument as OpenDocument
use Rattle.open_document.proofs.document.OpenDocument.TheLaws as document
use Rattle.gridlay_c.specs.contracts.parts.Parts as Parts
use Rattle.gridlay_c.specs.contracts.handle.Handle as Handle

-- the box of a document
abbrev pub E : Bx
E = record { row = OpenDocument.the_row; laws = document.the_row_laws; al = record { row = Heap.the_row; laws = heap.the_row_laws; g = ghosts; d = dict; drops = impl [] tnil dnil } }

-- its parts, the handle and the allocator as parameters
abbrev pub of-parts : Slot 0
of-parts = plain (λ _. Parts.the_row OpenDocument.the_row Heap.the_row ghosts)

abbrev pub of-handle : Slot 0
of-handle = plain (λ _. Handle.the_row)

abbrev pub of-alloc : Slot 0
of-alloc = plain (λ _. Heap.the_row)
