-- The lines of a text, one after another.
use Rattle.std.proofs.Common.{◌≡◌, refl, ap, sym, subst, ◌∙◌, ℕ, ◌+◌, ◌≤◌, true, false, Bool, List, [], ◌∷◌, ◌++◌, length, None, Some, Ok, Err, arith, append_assoc, append-nil, length-append}
use Rattle.std.specs.Prelude.{if◌then◌else◌}
use Rattle.std.proofs.lemmas.Bool.{false≢true}
use Rattle.text_scan.specs.declared.line.Fault.{Fault}
use Rattle.text_scan.specs.declared.line.Line.{Line}
use Rattle.text_scan.specs.declared.line.Place.{Place}
use Rattle.text_scan.specs.Lines.{line_of, lines_from, lines_of}
use Rattle.text_scan.specs.Stream.{Stream, empty_stream, fed_with, lines_ahead}
use Rattle.doc_text.specs.declared.document.Doc.{Doc}
use Rattle.doc_text.specs.Documents.{document_of}
use Rattle.doc_text.specs.Valid.{AreShort, IsShort}
use Rattle.session.specs.Input.{limit}
use Rattle.session.specs.Script.{document_of_lines}
use Rattle.session.specs.Serving.{Holds}
use Rattle.session.specs.declared.text.Held.{Held}
use Rattle.session.proofs.Pieces.{short_next}
use Rattle.session.proofs.Texts.{lines_of-length}
use Rattle.open_document.specs.Calls.{ReadsDocument, document_in}
use Rattle.open_document.specs.declared.errors.OpenError.TheVariants as opening
use Rattle.open_document.specs.Texts.{HoldsText}

-- so many lines were held, and the others lie ahead
pub record IsReading (text : List ℕ) (stream : Stream) (held : Held) (count : ℕ) : Type 0 where
  pub given : List Line
  pub parts : given ++ lines_ahead stream [] ≡ lines_of text
  pub holds : Holds held given
  pub counted : count ≡ length given
  pub short : AreShort held.lines

-- the text was fed, and no line taken
pub reading_first : (text : List ℕ) (fresh stream : Stream) (held : Held) → fresh ≡ empty_stream → stream ≡ fed_with text fresh → (held.lines ≡ []) × (held.lost ≡ false) → IsReading text stream held 0
reading_first text fresh stream held e f h =
    let is : stream ≡ fed_with text empty_stream = f ∙ ap (fed_with text) e in
    record {
      given = [];
      parts = ap (λ (s : Stream). lines_ahead s []) is ∙ ap (lines_from 1) (append-nil text);
      holds = record { same = λ more end. ap (λ (l : List Line). document_of (l ++ more) end) h.0; lost = λ lost. absurd (false≢true (sym h.1 ∙ lost)) };
      counted = refl;
      short = subst AreShort (sym h.0) tt;
    }

module _ (text : List ℕ) (stream stream' : Stream) (held held' : Held) (count : ℕ) (line : Line) (p : IsReading text stream held count) (next : line ∷ lines_ahead stream' [] ≡ lines_ahead stream []) where
  whole : (p.given ++ line ∷ []) ++ lines_ahead stream' [] ≡ lines_of text
  whole = append_assoc p.given (line ∷ []) (lines_ahead stream' []) ∙ ap (λ (l : List Line). p.given ++ l) next ∙ p.parts

  pub reading_more : Holds held' (p.given ++ line ∷ []) → AreShort held'.lines → IsReading text stream' held' (count + 1)
  reading_more h s = record { given = p.given ++ line ∷ []; parts = whole; holds = h; counted = omega (arith, p.counted, length-append p.given (line ∷ [])); short = s }

  pub reading_few : length text ≤ limit → count + 1 ≤ limit
  reading_few few =
      let all : length (p.given ++ line ∷ []) + length (lines_ahead stream' []) ≡ length (lines_of text) = sym (length-append (p.given ++ line ∷ []) (lines_ahead stream' [])) ∙ ap (λ (l : List Line). length l) whole in
      omega (arith, all, p.counted, length-append p.given (line ∷ []), lines_of-length text, few)

-- a line that was taken is one that a document can hold
pub taken_short : (b : Bool) (line : Line) (number : ℕ) (bytes : List ℕ) → Some line ≡ (if b then Some (line_of number bytes) else None) → IsShort line
taken_short b line number bytes e = short_next b line number bytes e

-- no line is left
pub reading_ends : (text : List ℕ) (stream stream' : Stream) (held : Held) (count : ℕ) → IsReading text stream held count → lines_ahead stream' [] ≡ lines_ahead stream [] → stream'.held ≡ [] → HoldsText text held count
reading_ends text stream stream' held count p next drained =
    let none : lines_ahead stream' [] ≡ [] = ap (λ (bytes : List ℕ). lines_from stream'.number (bytes ++ [])) drained in
    let all : p.given ≡ lines_of text = sym (append-nil p.given) ∙ ap (λ (l : List Line). p.given ++ l) (sym none ∙ next) ∙ p.parts in
    record {
      holds = subst (Holds held) all p.holds;
      counted = p.counted ∙ ap (λ (l : List Line). length l) all;
      few = omega (arith, p.counted, ap (λ (l : List Line). length l) all, lines_of-length text);
      short = p.short;
    }

-- ---- what is held makes the document of the text

pub held_document : (text : List ℕ) (held : Held) (count : ℕ) (lines : List Line) (end : Place) → HoldsText text held count → lines ≡ held.lines → end ≡ record { line = count + 1; column = 1 } → document_of lines end ≡ document_in text
unfolding document_of_lines
held_document text held count lines end p k at =
    ap (λ (l : List Line). document_of l end) (k ∙ sym (append-nil held.lines))
    ∙ p.holds.same [] end
    ∙ ap (λ (l : List Line). document_of l end) (append-nil (lines_of text))
    ∙ ap (document_of (lines_of text)) (at ∙ ap (λ (n : ℕ). record { line = n + 1; column = 1 }) p.counted)

module _ (text : List ℕ) (held : Held) (count : ℕ) (lines : List Line) (end : Place) (p : HoldsText text held count) (few : length text ≤ limit) (k : lines ≡ held.lines) (at : end ≡ record { line = count + 1; column = 1 }) where
  pub document_read : (doc : Doc) → document_of lines end ≡ Ok doc → ReadsDocument text (Ok doc)
  document_read doc e = (few, sym (held_document text held count lines end p k at) ∙ e)

  pub document_refused : (fault : Fault) → document_of lines end ≡ Err fault → ReadsDocument text (Err (opening.Refused fault))
  document_refused fault e = record { within = few; read = sym (held_document text held count lines end p k at) ∙ e }

pub ruleset reading = (reading_first, reading_more, reading_few, reading_ends, taken_short)

pub ruleset deciding = (document_read, document_refused)
