-- The table of fractions, and the parts of a line that are put one before another.
use Rattle.std.proofs.Common.{arith, ap, sym, refl, ◌∙◌, ◌≡◌, ℕ, ℤ, ◌+◌, ◌-◌, ◌/◌, ◌%◌, ◌<◌, ◌≤◌, min, unsigned_abs, List, [], ◌∷◌, ◌++◌, length, drop, map, get_or, decimal, append_assoc, zero-add}
use Rattle.std.proofs.lemmas.List.{get_or-map, drop-append-le, drop-drop}
use Rattle.std.proofs.lemmas.List.FromFn.{get_or-map-range_with_len}
use Rattle.std.specs.List.{range_with_len}
use Rattle.lunit.specs.Printed.{fraction_text, minus_of}
use Rattle.lunit.specs.declared.geometry.Rect.{Rect}
use Rattle.session.specs.Printing.{px_of, spaced, spaced_pair, box_line}
use Rattle.session.specs.declared.box_text.TheConstants.{FRACTIONS}

abbrev first : List ℕ → ℕ
first row = get_or row 0 0

abbrev shown : List ℕ → List ℕ
shown row = drop (8 - first row) row

all_shown : map shown FRACTIONS ≡ map fraction_text (range_with_len 0 64)
all_shown = refl

all_short : map first FRACTIONS ≡ map (λ row. min 7 (first row)) FRACTIONS
all_short = refl

pub shown_at : (parts : ℕ) (d : List ℕ) → parts < 64 → shown (get_or FRACTIONS parts d) ≡ fraction_text parts
shown_at parts d h =
    sym (get_or-map shown FRACTIONS parts d [] h)
    ∙ ap (λ (rows : List (List ℕ)). get_or rows parts []) all_shown
    ∙ get_or-map-range_with_len fraction_text 0 64 parts parts [] h (zero-add parts)

pub short_at : (parts : ℕ) (d : List ℕ) → parts < 64 → first (get_or FRACTIONS parts d) ≤ 7
short_at parts d h =
    let least : first (get_or FRACTIONS parts d) ≡ min 7 (first (get_or FRACTIONS parts d)) =
    sym (get_or-map first FRACTIONS parts d 0 h)
    ∙ ap (λ (firsts : List ℕ). get_or firsts parts 0) all_short
    ∙ get_or-map (λ row. min 7 (first row)) FRACTIONS parts d 0 h
    in
    omega (arith, least)

-- a row that was put, from where its text begins
pub row_put : (new rest row text : List ℕ) (start end : ℕ) → start + length row ≡ end → length row ≡ 8 → first row ≤ 7 → shown row ≡ text → drop start new ≡ row ++ rest → drop (end - first row) new ≡ text ++ rest
row_put new rest row text start end e long short h put =
    ap (λ (n : ℕ). drop n new) (let f : end - first row ≡ start + (8 - first row) = omega (arith, e, long, short) in f)
    ∙ sym (drop-drop (8 - first row) start new)
    ∙ ap (drop (8 - first row)) put
    ∙ drop-append-le (8 - first row) row rest (omega (arith, long))
    ∙ ap (λ (xs : List ℕ). xs ++ rest) h

four : (a b c d : List ℕ) → a ++ (b ++ (c ++ d)) ≡ a ++ b ++ c ++ d
four a b c d = sym (append_assoc (a ++ b) c d ∙ append_assoc a b (c ++ d))

pub px_put : (units z : ℤ) (size : ℕ) (all signed whole parts rest : List ℕ) → z ≡ units → size ≡ unsigned_abs z → parts ≡ fraction_text (size % 64) ++ rest → whole ≡ decimal (size / 64) ++ parts → signed ≡ minus_of z ++ whole → all ≡ 32 ∷ signed → all ≡ spaced units ++ rest
unfolding spaced px_of
px_put units z size all signed whole parts rest same e a b c d =
    let under : whole ≡ decimal (size / 64) ++ (fraction_text (size % 64) ++ rest) = b ∙ ap (λ (xs : List ℕ). decimal (size / 64) ++ xs) a in
    let done : signed ≡ minus_of z ++ decimal (size / 64) ++ fraction_text (size % 64) ++ rest = c ∙ ap (λ (xs : List ℕ). minus_of z ++ xs) under ∙ four (minus_of z) (decimal (size / 64)) (fraction_text (size % 64)) rest in
    let exact : size ≡ unsigned_abs units = e ∙ ap unsigned_abs same in
    d ∙ ap (λ (xs : List ℕ). 32 ∷ xs) (done ∙ λ i. minus_of (same i) ++ decimal (exact i / 64) ++ fraction_text (exact i % 64) ++ rest)

pub pair_put : (first second left right : ℤ) (all middle rest : List ℕ) → right ≡ second → left ≡ first → middle ≡ spaced right ++ rest → all ≡ spaced left ++ middle → all ≡ spaced_pair first second ++ rest
unfolding spaced_pair
pair_put first second left right all middle rest r l a b =
    b ∙ ap (λ (xs : List ℕ). spaced left ++ xs) a ∙ sym (append_assoc (spaced left) (spaced right) rest)
    ∙ λ i. spaced (l i) ++ spaced (r i) ++ rest

pub box_put : (name : List ℕ) (rect : Rect) (all spelled places sizes feed rest : List ℕ) → feed ≡ 10 ∷ rest → rest ≡ [] → sizes ≡ spaced_pair rect.width rect.height ++ feed → places ≡ spaced_pair rect.x rect.y ++ sizes → all ≡ spelled ++ places → spelled ≡ name → all ≡ box_line (name, rect)
unfolding box_line
box_put name rect all spelled places sizes feed rest a none b c d e =
    let last : feed ≡ 10 ∷ [] = a ∙ ap (λ (xs : List ℕ). 10 ∷ xs) none in
    let ends : sizes ≡ spaced_pair rect.width rect.height ++ 10 ∷ [] = b ∙ ap (λ (xs : List ℕ). spaced_pair rect.width rect.height ++ xs) last in
    let follows : places ≡ spaced_pair rect.x rect.y ++ (spaced_pair rect.width rect.height ++ 10 ∷ []) = c ∙ ap (λ (xs : List ℕ). spaced_pair rect.x rect.y ++ xs) ends in
    d ∙ (λ i. e i ++ follows i) ∙ four name (spaced_pair rect.x rect.y) (spaced_pair rect.width rect.height) (10 ∷ [])
