-- The lines that are taken, and the lines of what is held, are the lines of all that was fed.
use Rattle.std.proofs.Common.{◌≡◌, refl, ap, sym, subst, ◌∙◌, ℕ, suc, ◌+◌, ◌<◌, ◌≤◌, Bool, true, false, not, ◌&&◌, ◌||◌, cond, eqb, List, [], ◌∷◌, ◌++◌, length, Option, Some, None, Result, Ok, Err, IfOk, OnOk, OnSome, inl, inr, ◌⊎◌, arith, append_assoc, append-nil, length-append, length-drop, take_all}
use Rattle.std.specs.Option.{option_to_list, is_some}
use Rattle.std.specs.List.{position_or_len, before_first, after_first}
use Rattle.std.proofs.lemmas.Bool.{cases_lt, cases_Bool, cond-false, false≢true, ne_eqb}
use Rattle.std.proofs.lemmas.List.{drop_all}
use Rattle.text_scan.specs.declared.line.Line.{Line}
use Rattle.text_scan.specs.Lines.{is_line_feed, has_line_feed, ends_line, whole_lines, split_lines, line_of, numbered, lines_from, lines_of}
use Rattle.text_scan.specs.Stream.{Stream, empty_stream, fed_with, is_empty, is_line_due, next_line, after_next, lines_ahead, HasRead, Takes}
use Rattle.text_scan.proofs.Front.{position_or_len-le}
use Rattle.text_scan.proofs.Due.{due_by_feed, due_at_end, some_held}
use Rattle.text_scan.proofs.Splits.{split_first, split_line, split_bytes, split_open, split_append, numbered_append, numbered_length, ends_push, whole_lines_append}

-- what is given, then what lies ahead, as the test turns out
abbrev given_and_ahead : Bool → Stream → List ℕ → List Line
given_and_ahead due s more =
    option_to_list (cond due (Some (line_of s.number (before_first is_line_feed s.held))) None)
    ++ lines_ahead (cond due (record { number = s.number + 1; fed = s.fed; held = after_first is_line_feed s.held }) s) more

by_feed : (s : Stream) (more : List ℕ) → position_or_len is_line_feed s.held < length s.held → given_and_ahead true s more ≡ lines_ahead s more
by_feed s more h = ap (numbered s.number) (sym (split_first s.held more h))

at_end : (s : Stream) → position_or_len is_line_feed s.held ≡ length s.held → 0 < length s.held → given_and_ahead true s [] ≡ lines_ahead s []
at_end s h some =
    let front : before_first is_line_feed s.held ≡ s.held = take_all _ s.held (omega (arith, h)) in
    let rest : after_first is_line_feed s.held ≡ [] = drop_all _ s.held (omega (arith, h)) in
    ap (λ (bytes : List ℕ). line_of s.number bytes ∷ numbered (s.number + 1) (split_lines (after_first is_line_feed s.held ++ []))) front
    ∙ ap (λ (bytes : List ℕ). line_of s.number s.held ∷ numbered (s.number + 1) (split_lines (bytes ++ []))) rest
    ∙ ap (numbered s.number) (sym (ap split_lines (append-nil s.held) ∙ split_open s.held h some))

-- a line that is given, then the lines ahead, are the lines that were ahead
pub next_ahead : (ended : Bool) (s : Stream) (more : List ℕ) → (ended ≡ true → more ≡ []) → option_to_list (next_line ended s) ++ lines_ahead (after_next ended s) more ≡ lines_ahead s more
next_ahead ended s more last = by_cases (cases_lt (position_or_len is_line_feed s.held) (length s.held))
  where
    as_due : (due : Bool) → is_line_due ended s.held ≡ due → given_and_ahead due s more ≡ lines_ahead s more → option_to_list (next_line ended s) ++ lines_ahead (after_next ended s) more ≡ lines_ahead s more
    as_due due e h = ap (λ (b : Bool). given_and_ahead b s more) e ∙ h

    is_last : (a b : Bool) → (a && b) ≡ true → a ≡ true
    is_last true b e = refl
    is_last false b e = e

    unended : position_or_len is_line_feed s.held ≡ length s.held → ((ended && not (is_empty s.held)) ≡ true) ⊎ ((ended && not (is_empty s.held)) ≡ false) → option_to_list (next_line ended s) ++ lines_ahead (after_next ended s) more ≡ lines_ahead s more
    unended h (inl t) = as_due true (due_at_end ended s.held h ∙ t)
        (subst (λ (bytes : List ℕ). given_and_ahead true s bytes ≡ lines_ahead s bytes) (sym (last (is_last ended (not (is_empty s.held)) t))) (at_end s h (some_held ended (length s.held) t)))
    unended h (inr f) = as_due false (due_at_end ended s.held h ∙ f) refl

    by_cases : (position_or_len is_line_feed s.held < length s.held) ⊎ (length s.held ≤ position_or_len is_line_feed s.held) → option_to_list (next_line ended s) ++ lines_ahead (after_next ended s) more ≡ lines_ahead s more
    by_cases (inl lt) = as_due true (due_by_feed ended s.held lt) (by_feed s more lt)
    by_cases (inr ge) = unended (omega (arith, position_or_len-le is_line_feed s.held)) (cases_Bool (ended && not (is_empty s.held)))

-- ---- what was read so far

pub read_start : HasRead [] [] empty_stream
read_start = record { whole = []; split = refl; ended = refl; lines = refl; number = refl; count = refl }

-- the lines of whole lines and of what follows them
lines_append : (whole more : List ℕ) → ends_line whole ≡ true → lines_of (whole ++ more) ≡ lines_of whole ++ lines_from (1 + length (lines_of whole)) more
lines_append whole more e =
    ap (numbered 1) (split_append whole more e) ∙ numbered_append 1 (split_lines whole) (split_lines more)
    ∙ ap (λ (n : ℕ). lines_of whole ++ lines_from (1 + n) more) (sym (numbered_length 1 (split_lines whole)))

-- all lines of what was fed
pub read_all : (fed : List ℕ) (taken : List Line) (s : Stream) → HasRead fed taken s → taken ++ lines_from s.number s.held ≡ lines_of fed
read_all fed taken s h =
    let number : s.number ≡ 1 + length (lines_of h.whole) = omega (arith, h.number, ap (λ (ls : List Line). length ls) h.lines) in
    ap (λ (ls : List Line). ls ++ lines_from s.number s.held) h.lines
    ∙ ap (λ (n : ℕ). lines_of h.whole ++ lines_from n s.held) number
    ∙ sym (lines_append h.whole s.held h.ended) ∙ ap lines_of (sym h.split)

-- the lines that a line feed ended
pub read_whole : (fed : List ℕ) (taken : List Line) (s : Stream) → has_line_feed s.held ≡ false → HasRead fed taken s → taken ≡ lines_of (whole_lines fed)
read_whole fed taken s none h = h.lines ∙ ap lines_of (sym (ap whole_lines h.split ∙ whole_lines_append h.whole s.held h.ended none))

-- one whole line more
read_one : (fed : List ℕ) (taken : List Line) (s : Stream) → position_or_len is_line_feed s.held < length s.held → HasRead fed taken s
    → HasRead fed (taken ++ line_of s.number (before_first is_line_feed s.held) ∷ []) (record { number = s.number + 1; fed = s.fed; held = after_first is_line_feed s.held })
read_one fed taken s lt h =
    let front = before_first is_line_feed s.held in
    let rest = after_first is_line_feed s.held in
    let bytes : s.held ≡ (front ++ 10 ∷ []) ++ rest = split_bytes s.held lt ∙ sym (append_assoc front (10 ∷ []) rest) in
    record {
      whole = h.whole ++ (front ++ 10 ∷ []);
      split = h.split ∙ ap (λ (bs : List ℕ). h.whole ++ bs) bytes ∙ sym (append_assoc h.whole (front ++ 10 ∷ []) rest);
      ended = ap ends_line (sym (append_assoc h.whole front (10 ∷ []))) ∙ ends_push (h.whole ++ front);
      lines = sym (lines_append h.whole (front ++ 10 ∷ []) h.ended
          ∙ ap (λ (ls : List (List ℕ)). lines_of h.whole ++ numbered (1 + length (lines_of h.whole)) ls) (split_line s.held [] lt)
          ∙ ap (λ (n : ℕ). lines_of h.whole ++ line_of n front ∷ []) (omega (arith, h.number, ap (λ (ls : List Line). length ls) h.lines))
          ∙ ap (λ (ls : List Line). ls ++ line_of s.number front ∷ []) (sym h.lines));
      number = omega (arith, h.number, length-append taken (line_of s.number front ∷ []));
      count = h.count;
    }

-- what is taken before all bytes are fed
read_next : (fed : List ℕ) (taken : List Line) (s : Stream) → HasRead fed taken s → HasRead fed (taken ++ option_to_list (next_line false s)) (after_next false s)
read_next fed taken s h = by_cases (cases_lt (position_or_len is_line_feed s.held) (length s.held))
  where
    as_due : (due : Bool) → is_line_due false s.held ≡ due
        → HasRead fed (taken ++ option_to_list (cond due (Some (line_of s.number (before_first is_line_feed s.held))) None)) (cond due (record { number = s.number + 1; fed = s.fed; held = after_first is_line_feed s.held }) s)
        → HasRead fed (taken ++ option_to_list (next_line false s)) (after_next false s)
    as_due due e r = subst (λ (b : Bool). HasRead fed (taken ++ option_to_list (cond b (Some (line_of s.number (before_first is_line_feed s.held))) None)) (cond b (record { number = s.number + 1; fed = s.fed; held = after_first is_line_feed s.held }) s)) (sym e) r

    by_cases : (position_or_len is_line_feed s.held < length s.held) ⊎ (length s.held ≤ position_or_len is_line_feed s.held) → HasRead fed (taken ++ option_to_list (next_line false s)) (after_next false s)
    by_cases (inl lt) = as_due true (due_by_feed false s.held lt) (read_one fed taken s lt h)
    by_cases (inr ge) = as_due false (due_at_end false s.held (omega (arith, position_or_len-le is_line_feed s.held))) (subst (λ (ls : List Line). HasRead fed ls s) (sym (append-nil taken)) h)

none_held : (held : List ℕ) → is_line_due false held ≡ false → has_line_feed held ≡ false
none_held held e = by_or (has_line_feed held) e
  where
    by_or : (a : Bool) → (a || false) ≡ false → a ≡ false
    by_or true e = e
    by_or false e = refl

not_due : (due : Bool) (line : Line) → cond due (Some line) None ≡ None → due ≡ false
not_due true line e = absurd (false≢true (sym (ap is_some e)))
not_due false line e = refl

-- what `take` gives and leaves
pub takes_next : (ended : Bool) (fed : List ℕ) (taken : List Line) (s : Stream) → HasRead fed taken s → Takes ended fed taken (next_line ended s) (after_next ended s)
takes_next ended fed taken s h = record {
  more = λ e. subst (λ (b : Bool). HasRead fed (taken ++ option_to_list (next_line b s)) (after_next b s)) (sym e) (read_next fed taken s h);
  whole = λ e none. read_whole fed taken s (none_held s.held (ap (λ (b : Bool). is_line_due b s.held) (sym e) ∙ not_due _ _ none)) h;
  all = append_assoc taken (option_to_list (next_line ended s)) (lines_from (after_next ended s).number (after_next ended s).held)
      ∙ ap (λ (ls : List Line). taken ++ ls) (ends_ahead ∙ next_ahead ended s [] (λ _. refl) ∙ ap (lines_from s.number) (append-nil s.held))
      ∙ read_all fed taken s h;
}
  where
    ends_ahead : option_to_list (next_line ended s) ++ lines_from (after_next ended s).number (after_next ended s).held ≡ option_to_list (next_line ended s) ++ lines_ahead (after_next ended s) []
    ends_ahead = ap (λ (bs : List ℕ). option_to_list (next_line ended s) ++ lines_from (after_next ended s).number bs) (sym (append-nil (after_next ended s).held))

-- where a line is given, less is held afterwards
abbrev Falls : Bool → Stream → Type 0
Falls due s = OnSome (cond due (Some (line_of s.number (before_first is_line_feed s.held))) None)
    (length (cond due (record { number = s.number + 1; fed = s.fed; held = after_first is_line_feed s.held }) s).held < length s.held)

falls : (s : Stream) → 0 < length s.held → Falls true s
falls s h = omega (arith, h, length-drop (position_or_len is_line_feed s.held + 1) s.held)

pub falls_next : (ended : Bool) (s : Stream) → OnSome (next_line ended s) (length (after_next ended s).held < length s.held)
falls_next ended s = by_cases (cases_lt (position_or_len is_line_feed s.held) (length s.held))
  where
    as_due : (due : Bool) → is_line_due ended s.held ≡ due → Falls due s → Falls (is_line_due ended s.held) s
    as_due due e h = subst (λ (b : Bool). Falls b s) (sym e) h

    unended : position_or_len is_line_feed s.held ≡ length s.held → ((ended && not (is_empty s.held)) ≡ true) ⊎ ((ended && not (is_empty s.held)) ≡ false) → Falls (is_line_due ended s.held) s
    unended h (inl t) = as_due true (due_at_end ended s.held h ∙ t) (falls s (some_held ended (length s.held) t))
    unended h (inr f) = as_due false (due_at_end ended s.held h ∙ f) tt

    by_cases : (position_or_len is_line_feed s.held < length s.held) ⊎ (length s.held ≤ position_or_len is_line_feed s.held) → Falls (is_line_due ended s.held) s
    by_cases (inl lt) = as_due true (due_by_feed ended s.held lt) (falls s (omega arith))
    by_cases (inr ge) = unended (omega (arith, position_or_len-le is_line_feed s.held)) (cases_Bool (ended && not (is_empty s.held)))

-- ---- the same of a call that may want memory

pub ahead_of : {E : Type 0} (ended : Bool) (s after : Stream) (more : List ℕ) (r : Result (Option Line) E) → (ended ≡ true → more ≡ [])
    → IfOk r (λ found. found ≡ next_line ended s) → OnOk r (after ≡ after_next ended s) → IfOk r (λ found. option_to_list found ++ lines_ahead after more ≡ lines_ahead s more)
ahead_of ended s after more (Ok found) last line e =
    ap (λ (f : Option Line). option_to_list f ++ lines_ahead after more) line
    ∙ ap (λ (t : Stream). option_to_list (next_line ended s) ++ lines_ahead t more) e ∙ next_ahead ended s more last
ahead_of ended s after more (Err e) last line _ = tt

pub takes_of : {E : Type 0} (ended : Bool) (s after : Stream) (fed : List ℕ) (taken : List Line) (r : Result (Option Line) E) → HasRead fed taken s
    → IfOk r (λ found. found ≡ next_line ended s) → OnOk r (after ≡ after_next ended s) → IfOk r (λ found. Takes ended fed taken found after)
takes_of ended s after fed taken (Ok found) h line e =
    subst (λ (f : Option Line). Takes ended fed taken f after) (sym line) (subst (λ (t : Stream). Takes ended fed taken (next_line ended s) t) (sym e) (takes_next ended fed taken s h))
takes_of ended s after fed taken (Err e) h line _ = tt

pub falls_of : {E : Type 0} (ended : Bool) (s after : Stream) (r : Result (Option Line) E)
    → IfOk r (λ found. found ≡ next_line ended s) → OnOk r (after ≡ after_next ended s) → IfOk r (λ found. OnSome found (length after.held < length s.held))
falls_of ended s after (Ok found) line e =
    subst (λ (f : Option Line). OnSome f (length after.held < length s.held)) (sym line) (subst (λ (t : Stream). OnSome (next_line ended s) (length t.held < length s.held)) (sym e) (falls_next ended s))
falls_of ended s after (Err e) line _ = tt

-- nothing is held where no line is due and all bytes were fed
pub drained : (held : List ℕ) → is_line_due true held ≡ false → held ≡ []
drained [] e = refl
drained (b ∷ bs) e = absurd (by_or (has_line_feed (b ∷ bs)) (some (length bs)) e)
  where
    some : (n : ℕ) → not (eqb (suc n) 0) ≡ true
    some n = ap not (ne_eqb (suc n) 0 (λ e. omega (arith, e)))

    by_or : (a : Bool) → {d : Bool} → d ≡ true → (a || d) ≡ false → ⊥
    by_or true h f = false≢true (sym f)
    by_or false h f = false≢true (sym f ∙ h)

pub drained_of : {E : Type 0} (ended : Bool) (s after : Stream) (r : Result (Option Line) E) → ((r ≡ Ok None) → is_line_due ended s.held ≡ false)
    → OnOk r (after ≡ after_next ended s) → ended ≡ true → r ≡ Ok None → after.held ≡ []
drained_of {E = E} ended s after r none ok e n =
    let due = none n in
    let same : after ≡ after_next ended s = subst (λ (q : Result (Option Line) E). OnOk q (after ≡ after_next ended s) → after ≡ after_next ended s) (sym n) (λ h. h) ok in
    ap (λ (t : Stream). t.held) (same ∙ cond-false (is_line_due ended s.held) _ _ due) ∙ drained s.held (ap (λ (b : Bool). is_line_due b s.held) (sym e) ∙ due)
