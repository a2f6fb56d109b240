-- Scripts, one line after another.
use Rattle.std.proofs.Common.{◌≡◌, refl, ap, sym, ◌||◌, Bool, true, false, List, [], ◌∷◌, ◌++◌}
use Rattle.std.proofs.lemmas.Bool.{false≢true}
use Rattle.std.specs.Prelude.{if◌then◌else◌}
use Rattle.text_scan.specs.declared.line.Line.{Line}
use Rattle.text_scan.specs.Tokens.{is_skipped}
use Rattle.doc_text.specs.Histories.{History}
use Rattle.session.specs.Courses.{Course, last_course, made_by, next_course}
use Rattle.session.specs.Script.{is_end_of_document, has_end, before_end, after_end, doc_made, made_of, made_in, next_history, is_refused, some_refused}
use Rattle.session.proofs.Logs.{Made}

-- ---- where the document ends

or_true : (b c : Bool) → (b || c) ≡ false → (b ≡ false) × (c ≡ false)
or_true true c e = absurd (false≢true (sym e))
or_true false c e = (refl, e)

module _ (line : Line) (given more : List Line) where
  has_step : (b : Bool) → (b || has_end given) ≡ true → (has_end given ≡ true → has_end (given ++ more) ≡ true) → (b || has_end (given ++ more)) ≡ true
  has_step true e h = refl
  has_step false e h = h e

  before_step : (b : Bool) → (b || has_end given) ≡ true → (has_end given ≡ true → before_end (given ++ more) ≡ before_end given) → (if b then [] else line ∷ before_end (given ++ more)) ≡ (if b then [] else line ∷ before_end given)
  before_step true e h = refl
  before_step false e h = ap (λ (l : List Line). line ∷ l) (h e)

  after_step : (b : Bool) → (b || has_end given) ≡ true → (has_end given ≡ true → after_end (given ++ more) ≡ after_end given ++ more) → (if b then given ++ more else after_end (given ++ more)) ≡ (if b then given else after_end given) ++ more
  after_step true e h = refl
  after_step false e h = h e

pub has_more : (given more : List Line) → has_end given ≡ true → has_end (given ++ more) ≡ true
has_more [] more e = absurd (false≢true e)
has_more (line ∷ given) more e = has_step line given more (is_end_of_document line) e (has_more given more)

pub before_more : (given more : List Line) → has_end given ≡ true → before_end (given ++ more) ≡ before_end given
before_more [] more e = absurd (false≢true e)
before_more (line ∷ given) more e = before_step line given more (is_end_of_document line) e (before_more given more)

pub after_more : (given more : List Line) → has_end given ≡ true → after_end (given ++ more) ≡ after_end given ++ more
after_more [] more e = absurd (false≢true e)
after_more (line ∷ given) more e = after_step line given more (is_end_of_document line) e (after_more given more)

pub before_none : (given : List Line) → has_end given ≡ false → before_end given ≡ given
before_none [] e = refl
before_none (line ∷ given) e = by_end (is_end_of_document line) e (before_none given)
  where
    by_end : (b : Bool) → (b || has_end given) ≡ false → (has_end given ≡ false → before_end given ≡ given) → (if b then [] else line ∷ before_end given) ≡ line ∷ given
    by_end true e h = absurd (false≢true (sym e))
    by_end false e h = ap (λ (l : List Line). line ∷ l) (h e)

pub after_none : (given : List Line) → has_end given ≡ false → after_end given ≡ []
after_none [] e = refl
after_none (line ∷ given) e = by_end (is_end_of_document line) e (after_none given)
  where
    by_end : (b : Bool) → (b || has_end given) ≡ false → (has_end given ≡ false → after_end given ≡ []) → (if b then given else after_end given) ≡ []
    by_end true e h = absurd (false≢true (sym e))
    by_end false e h = h e

-- ---- what edit lines make

abbrev pub one_made : Course → Line → List Made
one_made c line = if is_skipped line then [] else made_by c line ∷ []

made_step : (b : Bool) (c next : Course) (made : Made) (script : List Line) (line : Line)
    → made_in c.history (script ++ line ∷ []) ≡ made_in c.history script ++ one_made (last_course c script) line
    → made_in next.history (script ++ line ∷ []) ≡ made_in next.history script ++ one_made (last_course next script) line
    → (if b then made_in c.history (script ++ line ∷ []) else made ∷ made_in next.history (script ++ line ∷ []))
    ≡ (if b then made_in c.history script else made ∷ made_in next.history script) ++ one_made (if b then last_course c script else last_course next script) line
made_step true c next made script line p q = p
made_step false c next made script line p q = ap (λ (l : List Made). made ∷ l) q

pub made_push : (c : Course) (script : List Line) (line : Line) → made_in c.history (script ++ line ∷ []) ≡ made_in c.history script ++ one_made (last_course c script) line
made_push c [] line = refl
made_push c (first ∷ script) line = made_step (is_skipped first) c (next_course c first) (made_by c first) script line (made_push c script line) (made_push (next_course c first) script line)

-- what more lines make comes behind
abbrev pub MadeMore : History → List Line → List Line → Type 0
MadeMore h script more = (rest : List Made) × (made_in h (script ++ more) ≡ made_in h script ++ rest)

made_more_step : (b : Bool) (h next : History) (made : Made) (script more : List Line) → MadeMore h script more → MadeMore next script more
    → (rest : List Made) × ((if b then made_in h (script ++ more) else made ∷ made_in next (script ++ more)) ≡ (if b then made_in h script else made ∷ made_in next script) ++ rest)
made_more_step true h next made script more p q = p
made_more_step false h next made script more p q = (q.0, ap (λ (l : List Made). made ∷ l) q.1)

pub made_more : (h : History) (script more : List Line) → MadeMore h script more
made_more h [] more = (made_in h more, refl)
made_more h (line ∷ script) more = made_more_step (is_skipped line) h (next_history h (made_of h line)) (doc_made (made_of h line)) script more (made_more h script more) (made_more (next_history h (made_of h line)) script more)

-- ---- refusals, and the course

pub refused_push : (made : List Made) (last : Made) → some_refused (made ++ last ∷ []) ≡ (some_refused made || is_refused last)
refused_push [] last = or_false (is_refused last)
  where
    or_false : (b : Bool) → (b || false) ≡ b
    or_false true = refl
    or_false false = refl
refused_push (first ∷ made) last = by_first (is_refused first) (refused_push made last)
  where
    by_first : (b : Bool) → some_refused (made ++ last ∷ []) ≡ (some_refused made || is_refused last) → (b || some_refused (made ++ last ∷ [])) ≡ ((b || some_refused made) || is_refused last)
    by_first true e = refl
    by_first false e = e

-- the course after a line more
abbrev pub one_course : Course → Line → Course
one_course c line = if is_skipped line then c else next_course c line

pub last_push : (c : Course) (script : List Line) (line : Line) → last_course c (script ++ line ∷ []) ≡ one_course (last_course c script) line
last_push c [] line = refl
last_push c (first ∷ script) line = by_first (is_skipped first) (last_push c script line) (last_push (next_course c first) script line)
  where
    by_first : (b : Bool) → last_course c (script ++ line ∷ []) ≡ one_course (last_course c script) line → last_course (next_course c first) (script ++ line ∷ []) ≡ one_course (last_course (next_course c first) script) line
        → (if b then last_course c (script ++ line ∷ []) else last_course (next_course c first) (script ++ line ∷ []))
        ≡ one_course (if b then last_course c script else last_course (next_course c first) script) line
    by_first true p q = p
    by_first false p q = q
