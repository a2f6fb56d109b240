-- The lines of a document.
use Rattle.std.proofs.Common.{◌≡◌, ◌≤◌, ◌∷◌, ◌++◌, [], List, length, sym, subst}
use Rattle.doc_text.specs.Valid.{AreShort}
use Rattle.text_scan.specs.declared.line.Line.{Line}

short_joined : (lines more : List Line) → AreShort lines → AreShort more → AreShort (lines ++ more)
short_joined [] more s t = t
short_joined (line ∷ lines) more s t = (s.0, short_joined lines more s.1 t)

pub short_more : (lines next : List Line) (line : Line) → next ≡ lines ++ line ∷ [] → length line.bytes ≤ 65536 → AreShort lines → AreShort next
short_more lines next line e h s = subst AreShort (sym e) (short_joined lines (line ∷ []) s (h, tt))
