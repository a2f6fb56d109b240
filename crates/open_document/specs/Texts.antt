-- How the lines of a text are held.
use Rattle.std.specs.Prelude.{◌≡◌, ℕ, ◌≤◌, List, length}
use Rattle.text_scan.specs.Lines.{lines_of}
use Rattle.doc_text.specs.Valid.{AreShort}
use Rattle.session.specs.Serving.{Holds}
use Rattle.session.specs.declared.text.Held.{Held}

-- what is held makes the document of the text, which has so many lines
pub record HoldsText (text : List ℕ) (held : Held) (count : ℕ) : Type 0 where
  pub holds : Holds held (lines_of text)
  pub counted : count ≡ length (lines_of text)
  pub few : count ≤ length text
  pub short : AreShort held.lines
