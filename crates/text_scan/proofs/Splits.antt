-- How the lines of a text follow from the lines of its parts.
use Rattle.std.proofs.Common.{◌≡◌, refl, ap, sym, subst, ◌∙◌, ℕ, suc, ◌+◌, ◌<◌, Bool, true, false, not, ◌||◌, cond, List, [], ◌∷◌, ◌++◌, length, take, drop, arith}
use Rattle.std.specs.List.{position_or_len, before_first, after_first}
use Rattle.std.proofs.lemmas.Bool.{cond-true, cond-false, false≢true, eqb-true}
use Rattle.std.proofs.lemmas.List.Folds.{list_any-append}
use Rattle.std.proofs.lemmas.List.Sums.{split_at_first, passes_at_first}
use Rattle.text_scan.specs.declared.line.Line.{Line}
use Rattle.text_scan.specs.Lines.{is_line_feed, has_line_feed, ends_line, whole_lines, onto_first, split_lines, line_of, numbered}

-- ---- the first line

first_step : (t : Bool) (b n : ℕ) (bs more : List ℕ)
    → (n < length bs → split_lines (bs ++ more) ≡ take n bs ∷ split_lines (drop (n + 1) bs ++ more))
    → cond (not t) (1 + n) 0 < suc (length bs)
    → cond t ([] ∷ split_lines (bs ++ more)) (onto_first b (split_lines (bs ++ more))) ≡ take (cond (not t) (1 + n) 0) (b ∷ bs) ∷ split_lines (drop (cond (not t) (1 + n) 0 + 1) (b ∷ bs) ++ more)
first_step true b n bs more ih h = refl
first_step false b n bs more ih h =
    let front : suc n ≡ 1 + n = omega arith in
    let rest : suc (n + 1) ≡ 1 + n + 1 = omega arith in
    ap (onto_first b) (ih (omega arith))
    ∙ ap (λ (k : ℕ). take k (b ∷ bs) ∷ split_lines (drop (n + 1) bs ++ more)) front
    ∙ ap (λ (k : ℕ). take (1 + n) (b ∷ bs) ∷ split_lines (drop k (b ∷ bs) ++ more)) rest

-- a line that a line feed ends, whatever follows
pub split_first : (bytes more : List ℕ) → position_or_len is_line_feed bytes < length bytes → split_lines (bytes ++ more) ≡ before_first is_line_feed bytes ∷ split_lines (after_first is_line_feed bytes ++ more)
split_first [] more h = absurd (omega arith)
split_first (b ∷ bs) more h = first_step (is_line_feed b) b (position_or_len is_line_feed bs) bs more (split_first bs more) h

line_step : (t : Bool) (b n : ℕ) (bs more : List ℕ)
    → is_line_feed b ≡ t
    → (n < length bs → split_lines (take n bs ++ 10 ∷ more) ≡ take n bs ∷ split_lines more)
    → cond (not t) (1 + n) 0 < suc (length bs)
    → split_lines (take (cond (not t) (1 + n) 0) (b ∷ bs) ++ 10 ∷ more) ≡ take (cond (not t) (1 + n) 0) (b ∷ bs) ∷ split_lines more
line_step true b n bs more e ih h = refl
line_step false b n bs more e ih h =
    let front : suc n ≡ 1 + n = omega arith in
    let step : split_lines (b ∷ take n bs ++ 10 ∷ more) ≡ (b ∷ take n bs) ∷ split_lines more =
    cond-false (is_line_feed b) _ _ e ∙ ap (onto_first b) (ih (omega arith)) in
    subst (λ (k : ℕ). split_lines (take k (b ∷ bs) ++ 10 ∷ more) ≡ take k (b ∷ bs) ∷ split_lines more) front step

-- that line by itself
pub split_line : (bytes more : List ℕ) → position_or_len is_line_feed bytes < length bytes → split_lines (before_first is_line_feed bytes ++ 10 ∷ more) ≡ before_first is_line_feed bytes ∷ split_lines more
split_line [] more h = absurd (omega arith)
split_line (b ∷ bs) more h = line_step (is_line_feed b) b (position_or_len is_line_feed bs) bs more refl (split_line bs more) h

-- the bytes of such a line, before and after its line feed
pub split_bytes : (bytes : List ℕ) → position_or_len is_line_feed bytes < length bytes → bytes ≡ before_first is_line_feed bytes ++ 10 ∷ after_first is_line_feed bytes
split_bytes bytes h =
    split_at_first is_line_feed bytes 0 h
    ∙ ap (λ (b : ℕ). before_first is_line_feed bytes ++ b ∷ after_first is_line_feed bytes) (eqb-true _ 10 (passes_at_first is_line_feed bytes 0 h))

open_step : (t : Bool) (b n : ℕ) (bs : List ℕ) → (n ≡ length bs → 0 < length bs → split_lines bs ≡ bs ∷ []) → cond (not t) (1 + n) 0 ≡ suc (length bs) → cond t ([] ∷ split_lines bs) (onto_first b (split_lines bs)) ≡ (b ∷ bs) ∷ []
open_step true b n bs ih h = absurd (omega arith)
open_step false b n [] ih h = refl
open_step false b n (c ∷ bs) ih h = ap (onto_first b) (ih (omega arith) (omega arith))

-- a last line that no line feed ends
pub split_open : (bytes : List ℕ) → position_or_len is_line_feed bytes ≡ length bytes → 0 < length bytes → split_lines bytes ≡ bytes ∷ []
split_open [] h some = absurd (omega arith)
split_open (b ∷ bs) h some = open_step (is_line_feed b) b (position_or_len is_line_feed bs) bs (split_open bs) h

-- ---- whole lines, and what follows them

record Begins (lines : List (List ℕ)) : Type 0 where
  pub first : List ℕ
  pub rest : List (List ℕ)
  pub is : lines ≡ first ∷ rest

begins_onto : (b : ℕ) (lines : List (List ℕ)) → Begins (onto_first b lines)
begins_onto b [] = record { first = b ∷ []; rest = []; is = refl }
begins_onto b (line ∷ lines) = record { first = b ∷ line; rest = lines; is = refl }

begins_step : (t : Bool) (b : ℕ) (lines : List (List ℕ)) → Begins (cond t ([] ∷ lines) (onto_first b lines))
begins_step true b lines = record { first = []; rest = lines; is = refl }
begins_step false b lines = begins_onto b lines

begins : (b : ℕ) (bs : List ℕ) → Begins (split_lines (b ∷ bs))
begins b bs = begins_step (is_line_feed b) b (split_lines bs)

onto_front : (b : ℕ) (lines more : List (List ℕ)) → Begins lines → onto_first b (lines ++ more) ≡ onto_first b lines ++ more
onto_front b lines more h = ap (λ (ls : List (List ℕ)). onto_first b (ls ++ more)) h.is ∙ sym (ap (λ (ls : List (List ℕ)). onto_first b ls ++ more) h.is)

whole_step : (t : Bool) (b : ℕ) (lines more both : List (List ℕ)) → Begins lines → both ≡ lines ++ more → cond t ([] ∷ both) (onto_first b both) ≡ cond t ([] ∷ lines) (onto_first b lines) ++ more
whole_step true b lines more both h e = ap (λ (ls : List (List ℕ)). [] ∷ ls) e
whole_step false b lines more both h e = ap (onto_first b) e ∙ onto_front b lines more h

last_step : (t : Bool) (b : ℕ) (more : List ℕ) → t ≡ true → cond t ([] ∷ split_lines more) (onto_first b (split_lines more)) ≡ cond t ([] ∷ []) (onto_first b []) ++ split_lines more
last_step true b more h = refl
last_step false b more h = absurd (false≢true h)

-- after whole lines a new line begins
pub split_append : (whole more : List ℕ) → ends_line whole ≡ true → split_lines (whole ++ more) ≡ split_lines whole ++ split_lines more
split_append [] more h = refl
split_append (b ∷ []) more h = last_step (is_line_feed b) b more h
split_append (b ∷ c ∷ bs) more h = whole_step (is_line_feed b) b (split_lines (c ∷ bs)) (split_lines more) (split_lines (c ∷ bs ++ more)) (begins c bs) (split_append (c ∷ bs) more h)

pub numbered_append : (number : ℕ) (lines more : List (List ℕ)) → numbered number (lines ++ more) ≡ numbered number lines ++ numbered (number + length lines) more
numbered_append number [] more = ap (λ (n : ℕ). numbered n more) (omega arith)
numbered_append number (line ∷ lines) more = ap (λ (ls : List Line). line_of number line ∷ ls) (numbered_append (number + 1) lines more ∙ ap (λ (n : ℕ). numbered (number + 1) lines ++ numbered n more) (omega arith))

pub numbered_length : (number : ℕ) (lines : List (List ℕ)) → length (numbered number lines) ≡ length lines
numbered_length number [] = refl
numbered_length number (line ∷ lines) = ap suc (numbered_length (number + 1) lines)

pub ends_push : (bytes : List ℕ) → ends_line (bytes ++ 10 ∷ []) ≡ true
ends_push [] = refl
ends_push (b ∷ []) = refl
ends_push (b ∷ c ∷ bs) = ends_push (c ∷ bs)

or_true : (a : Bool) → (a || true) ≡ true
or_true true = refl
or_true false = refl

-- whole lines, if there are any, hold a line feed
ends_has : (b : ℕ) (bs : List ℕ) → ends_line (b ∷ bs) ≡ true → has_line_feed (b ∷ bs) ≡ true
ends_has b [] h = ap (λ (t : Bool). t || false) h
ends_has b (c ∷ bs) h = ap (λ (t : Bool). is_line_feed b || t) (ends_has c bs h) ∙ or_true (is_line_feed b)

whole_none : (rest : List ℕ) → has_line_feed rest ≡ false → whole_lines rest ≡ []
whole_none [] h = refl
whole_none (b ∷ bs) h = cond-false (has_line_feed (b ∷ bs)) _ _ h

ends_tail : (b : ℕ) (bs : List ℕ) → ends_line (b ∷ bs) ≡ true → ends_line bs ≡ true
ends_tail b [] h = refl
ends_tail b (c ∷ bs) h = h

pub whole_lines_append : (whole rest : List ℕ) → ends_line whole ≡ true → has_line_feed rest ≡ false → whole_lines (whole ++ rest) ≡ whole
whole_lines_append [] rest h none = whole_none rest none
whole_lines_append (b ∷ bs) rest h none =
    let held : has_line_feed (b ∷ bs ++ rest) ≡ true = list_any-append is_line_feed (b ∷ bs) rest ∙ ap (λ (t : Bool). t || has_line_feed rest) (ends_has b bs h) in
    cond-true (has_line_feed (b ∷ bs ++ rest)) _ _ held ∙ ap (λ (bytes : List ℕ). b ∷ bytes) (whole_lines_append bs rest (ends_tail b bs h) none)
