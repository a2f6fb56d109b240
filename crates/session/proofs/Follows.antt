-- The edits of a script, line after line: what is known of the first lines is so of all.
use Rattle.std.proofs.Common.{◌≡◌, refl, ap, sym, subst, ◌∙◌, ℕ, suc, ◌+◌, ◌≤◌, Bool, true, false, List, [], ◌∷◌, ◌++◌, length, Result, Ok, arith}
use Rattle.std.specs.Prelude.{◌==◌, if◌then◌else◌, ⊤}
use Rattle.std.proofs.lemmas.Bool.{true≢false, eq-eqb, ne_eqb}
use Rattle.text_scan.specs.declared.line.Line.{Line}
use Rattle.text_scan.specs.declared.line.Fault.{Fault}
use Rattle.text_scan.specs.Tokens.{is_skipped}
use Rattle.doc_text.specs.declared.document.Doc.{Doc}
use Rattle.doc_text.specs.Histories.{begins}
use Rattle.session.specs.Courses.{Course, begun, last_course, made_by, next_course, touched_by}
use Rattle.session.specs.Script.{has_end, before_end, after_end, document_of_lines, made_in, made_from, all_made}
use Rattle.session.specs.Serving.{IsLaid}
use Rattle.session.specs.Touched.{Agrees, Either, Follows, FollowsLines, touched_from, touched_in, touched_lines}
use Rattle.session.proofs.Scripts.{before_more, after_more, after_none}
use Rattle.sparing.specs.Sparing.{Touches}

-- ---- the first lines of more

module _ (touches : Touches) where
  first_step : (b : Bool) (A A' B B' : Type 0) → (A → A') → (B → B') → Either b A B → Either b A' B'
  first_step true A A' B B' f g p = f p
  first_step false A A' B B' f g p = g p

  follows_first : (k : ℕ) (c : Course) (lines more : List Line) → Follows touches k c (lines ++ more) → Follows touches k c lines
  follows_first k c [] more p = tt
  follows_first k c (line ∷ lines) more p =
      first_step (is_skipped line) (Follows touches k c (lines ++ more)) (Follows touches k c lines)
      (Agrees touches k c line × Follows touches (k + 1) (next_course c line) (lines ++ more)) (Agrees touches k c line × Follows touches (k + 1) (next_course c line) lines)
      (λ q. follows_first k c lines more q) (λ q. (q.0, follows_first (k + 1) (next_course c line) lines more q.1)) p

  -- the line behind the first lines touches what its number says
  AgreesNext : ℕ → Course → List Line → Line → Type 0
  AgreesNext k c lines last = is_skipped last ≡ false → Agrees touches (k + length (made_in c.history lines)) (last_course c lines) last

  last_step : (b : Bool) (k : ℕ) (c : Course) (line : Line) (lines : List Line) (last : Line)
      → (Follows touches k c (lines ++ last ∷ []) → AgreesNext k c lines last)
      → (Follows touches (k + 1) (next_course c line) (lines ++ last ∷ []) → AgreesNext (k + 1) (next_course c line) lines last)
      → Either b (Follows touches k c (lines ++ last ∷ [])) (Agrees touches k c line × Follows touches (k + 1) (next_course c line) (lines ++ last ∷ []))
      → is_skipped last ≡ false
      → Agrees touches (k + length (if b then made_in c.history lines else made_by c line ∷ made_in (next_course c line).history lines)) (if b then last_course c lines else last_course (next_course c line) lines) last
  unfolding AgreesNext
  last_step true k c line lines last f g p e = f p e
  last_step false k c line lines last f g p e =
      let n : k + 1 + length (made_in (next_course c line).history lines) ≡ k + suc (length (made_in (next_course c line).history lines)) = omega arith in
      subst (λ (i : ℕ). Agrees touches i (last_course (next_course c line) lines) last) n (g p.1 e)

  none_step : (b : Bool) (A B : Type 0) → Either b A B → b ≡ false → B
  none_step true A B p e = absurd (true≢false e)
  none_step false A B p e = p

  follows_last : (k : ℕ) (c : Course) (lines : List Line) (last : Line) → Follows touches k c (lines ++ last ∷ []) → AgreesNext k c lines last
  unfolding AgreesNext
  follows_last k c [] last p e =
      let here : k ≡ k + 0 = omega arith in
      subst (λ (i : ℕ). Agrees touches i c last) here (none_step (is_skipped last) ⊤ (Agrees touches k c last × ⊤) p e).0
  follows_last k c (line ∷ lines) last p e = last_step (is_skipped line) k c line lines last (follows_last k c lines last) (follows_last (k + 1) (next_course c line) lines last) p e

-- ---- a run between two lines

module _ (touches : Touches) (given : List Line) (c : Course) (k : ℕ) (bad : Bool) (p : IsLaid given c k bad) (line : Line) (f : FollowsLines touches (given ++ line ∷ [])) where
  whole : Follows touches 1 (begun p.first) (after_end given ++ line ∷ [])
  whole = subst (Follows touches 1 (begun p.first)) (after_more given (line ∷ []) p.ended) (f p.first (ap document_of_lines (before_more given (line ∷ []) p.ended) ∙ p.read))

  ok_same : (x y : Doc) → ◌≡◌ {A = Result Doc Fault} (Ok x) (Ok y) → x ≡ y
  ok_same x y e = cc

  pub follows_given : FollowsLines touches given
  follows_given first e = subst (λ (d : Doc). Follows touches 1 (begun d) (after_end given)) (ok_same p.first first (sym p.read ∙ e)) (follows_first touches 1 (begun p.first) (after_end given) (line ∷ []) whole)

  pub agrees_line : is_skipped line ≡ false → Agrees touches k c line
  unfolding AgreesNext
  agrees_line e =
      let made : all_made given ≡ Ok p.first ∷ made_in (begins p.first) (after_end given) = ap (λ (o : Result Doc Fault). made_from o (after_end given)) p.read in
      let number : 1 + length (made_in (begins p.first) (after_end given)) ≡ k = omega (arith, p.count, ap length made) in
      subst (λ (i : ℕ). Agrees touches i c line) number (subst (λ (d : Course). Agrees touches (1 + length (made_in (begins p.first) (after_end given))) d line) (sym p.now) (follows_last touches 1 (begun p.first) (after_end given) line whole e))

-- ---- all lines of an input

-- from a number on
FromOn : ℕ → Touches → Touches → Type 0
FromOn k touches others = (n : ℕ) (name : List ℕ) → k ≤ n → touches n name ≡ others n name

follows_in : (touches : Touches) (k : ℕ) (c : Course) (lines : List Line) → FromOn k touches (touched_in k c lines) → Follows touches k c lines
unfolding FromOn
follows_in touches k c [] h = tt
follows_in touches k c (line ∷ lines) h = by_skipped (is_skipped line) (λ n name l. h n name l) (follows_in touches k c lines) (follows_in touches (k + 1) (next_course c line) lines)
  where
    by_skipped : (b : Bool) → ((n : ℕ) (name : List ℕ) → k ≤ n → touches n name ≡ (if b then touched_in k c lines n name else if n == k then touched_by c line name else touched_in (k + 1) (next_course c line) lines n name))
        → (FromOn k touches (touched_in k c lines) → Follows touches k c lines)
        → (FromOn (k + 1) touches (touched_in (k + 1) (next_course c line) lines) → Follows touches (k + 1) (next_course c line) lines)
        → Either b (Follows touches k c lines) (Agrees touches k c line × Follows touches (k + 1) (next_course c line) lines)
    by_skipped true g first later = first g
    by_skipped false g first later = (
      λ name. g k name (omega arith) ∙ ap (λ (t : Bool). if t then touched_by c line name else touched_in (k + 1) (next_course c line) lines k name) (eq-eqb k k refl),
      later (λ n name l. g n name (omega (arith, l)) ∙ ap (λ (t : Bool). if t then touched_by c line name else touched_in (k + 1) (next_course c line) lines n name) (ne_eqb n k (λ e. absurd (omega (arith, l, e))))),
    )

follows_read : (made : Result Doc Fault) (script : List Line) (first : Doc) → made ≡ Ok first → FromOn 1 (λ n name. touched_from made script n name) (touched_in 1 (begun first) script)
unfolding FromOn
follows_read made script first e n name l = ap (λ (m : Result Doc Fault). touched_from m script n name) e

-- the lines of an input, of which these are the first
pub follows_all : (given rest all : List Line) → given ++ rest ≡ all → FollowsLines (touched_lines all) given
unfolding touched_lines FromOn
follows_all given rest all is first e = by_end (has_end given) refl
  where
    by_end : (b : Bool) → has_end given ≡ b → Follows (touched_lines all) 1 (begun first) (after_end given)
    by_end false o = subst (Follows (touched_lines all) 1 (begun first)) (sym (after_none given o)) tt
    by_end true o =
        let read : document_of_lines (before_end all) ≡ Ok first = ap (λ (l : List Line). document_of_lines (before_end l)) (sym is) ∙ ap document_of_lines (before_more given rest o) ∙ e in
        let script : after_end all ≡ after_end given ++ rest = ap after_end (sym is) ∙ after_more given rest o in
        follows_first (touched_lines all) 1 (begun first) (after_end given) rest
        (subst (Follows (touched_lines all) 1 (begun first)) script
        (follows_in (touched_lines all) 1 (begun first) (after_end all) (follows_read (document_of_lines (before_end all)) (after_end all) first read)))
