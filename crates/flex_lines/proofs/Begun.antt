-- The lines from the outer size of the line that stands are those of the definition.
use Rattle.std.proofs.Common.{arith, ap, ◌≡◌, ◌∙◌, sym, true≢false, ℕ, suc, ◌+◌, ◌-◌, ◌<◌, ◌≤◌, ℤ, pos, ◌+ℤ◌, ◌*ℤ◌, Bool, true, false, List, [], ◌∷◌, ◌++◌, length, drop, get_or, map, if◌then◌else◌, int_le, add-one}
use Rattle.std.proofs.lemmas.Int.{ints}
use Rattle.std.proofs.lemmas.List.{drop_more, length-append, append_assoc}
use Rattle.part_rules.specs.declared.flex.FlexItem.{FlexItem}
use Rattle.part_rules.specs.Lists.{sum_of, filled_from}
use Rattle.part_rules.specs.FlexLines.{outer_hypothetical, line_length, ranges_from, line_ranges}
use Rattle.flex_lines.specs.Lines.{begun, AreRanges, IsRange}

abbrev Lines : Type 0
Lines = List (ℕ × ℕ)

sum-append-one : (a : List FlexItem) (x : FlexItem) → sum_of (map outer_hypothetical (a ++ x ∷ [])) ≡ sum_of (map outer_hypothetical a) +ℤ outer_hypothetical x
sum-append-one [] x = omega (arith, ints)
sum-append-one (y ∷ a) x = omega (arith, ints, sum-append-one a x)

times-more : (z : ℤ) (n : ℕ) → z *ℤ pos (suc n) ≡ z *ℤ pos n +ℤ z
times-more z n = omega (arith, ints)

-- a line is longer by a gap and the item that joins it
joins : (gap : ℤ) (y : FlexItem) (line : List FlexItem) (x : FlexItem) → line_length gap ((y ∷ line) ++ x ∷ []) ≡ line_length gap (y ∷ line) +ℤ gap +ℤ outer_hypothetical x
joins gap y line x =
    let n : length ((y ∷ line) ++ x ∷ []) - 1 ≡ suc (length (y ∷ line) - 1) = omega (arith, length-append line (x ∷ [])) in
    let s : gap *ℤ pos (length ((y ∷ line) ++ x ∷ []) - 1) ≡ gap *ℤ pos (length (y ∷ line) - 1) +ℤ gap = ap (λ k. gap *ℤ pos k) n ∙ times-more gap (length (y ∷ line) - 1) in
    omega (arith, ints, s, sum-append-one line x)

alone : (gap : ℤ) (x : FlexItem) → line_length gap (x ∷ []) ≡ outer_hypothetical x
alone gap x = omega (arith, ints)

from_begun : (main gap : ℤ) (start place : ℕ) (y : FlexItem) (line rest : List FlexItem) → place ≡ start + length (y ∷ line)
    → ranges_from start (filled_from (λ l. int_le (line_length gap l) main) (y ∷ line) rest) ≡ begun main gap start place (line_length gap (y ∷ line)) rest
from_begun main gap start place y line [] h = ap (λ (n : ℕ). (start, n) ∷ []) (sym h)
from_begun main gap start place y line (x ∷ rest) h =
    go (int_le (line_length gap ((y ∷ line) ++ x ∷ [])) main) (int_le (line_length gap (y ∷ line) +ℤ gap +ℤ outer_hypothetical x) main) (ap (λ z. int_le z main) (joins gap y line x))
    (from_begun main gap start (suc place) y (line ++ x ∷ []) rest (omega (arith, h, length-append line (x ∷ []))) ∙ ap (λ z. begun main gap start (suc place) z rest) (joins gap y line x))
    (ap (λ (n : ℕ). ranges_from n (filled_from fits (x ∷ []) rest)) (sym h) ∙ from_begun main gap place (suc place) x [] rest (omega arith) ∙ ap (λ z. begun main gap place (suc place) z rest) (alone gap x))
  where
    fits : List FlexItem → Bool
    fits l = int_le (line_length gap l) main

    go : (s t : Bool) → s ≡ t
        → ranges_from start (filled_from fits (y ∷ (line ++ x ∷ [])) rest) ≡ begun main gap start (suc place) (line_length gap (y ∷ line) +ℤ gap +ℤ outer_hypothetical x) rest
        → ranges_from (start + length (y ∷ line)) (filled_from fits (x ∷ []) rest) ≡ begun main gap place (suc place) (outer_hypothetical x) rest
        → ranges_from start (if s then filled_from fits (y ∷ (line ++ x ∷ [])) rest else (y ∷ line) ∷ filled_from fits (x ∷ []) rest)
        ≡ (if t then begun main gap start (suc place) (line_length gap (y ∷ line) +ℤ gap +ℤ outer_hypothetical x) rest else (start, place) ∷ begun main gap place (suc place) (outer_hypothetical x) rest)
    go true true e same other = same
    go true false e same other = absurd (true≢false e)
    go false true e same other = absurd (true≢false (sym e))
    go false false e same other = ap (λ (n : ℕ). (start, n) ∷ ranges_from n (filled_from fits (x ∷ []) rest)) (sym h) ∙ ap (λ (ls : Lines). (start, place) ∷ ls) (ap (λ (n : ℕ). ranges_from n (filled_from fits (x ∷ []) rest)) h ∙ other)

-- the first item begins the first line
pub lines_begun : (main gap : ℤ) (y : FlexItem) (rest : List FlexItem) → begun main gap 0 1 (outer_hypothetical y) rest ≡ line_ranges main gap true (y ∷ rest)
lines_begun main gap y rest = sym (from_begun main gap 0 1 y [] rest (omega arith) ∙ ap (λ z. begun main gap 0 1 z rest) (alone gap y))

abbrev then_else : Bool → Lines → Lines → Lines
then_else b xs ys = if b then xs else ys

step : (main gap present joined : ℤ) (start place i : ℕ) (rest : List FlexItem) (d : FlexItem) (b : Bool) → i < length rest
    → joined ≡ present +ℤ gap +ℤ outer_hypothetical (get_or rest i d) → int_le joined main ≡ b
    → begun main gap start place present (drop i rest) ≡ then_else b (begun main gap start (suc place) joined (drop (i + 1) rest)) ((start, place) ∷ begun main gap place (suc place) (outer_hypothetical (get_or rest i d)) (drop (i + 1) rest))
step main gap present joined start place i rest d b h j t =
    let after = drop (i + 1) rest in
    let outer = outer_hypothetical (get_or rest i d) in
    ap (begun main gap start place present) (drop_more rest i d h)
    ∙ sym (ap (λ (z : ℤ). then_else (int_le z main) (begun main gap start (suc place) z after) ((start, place) ∷ begun main gap place (suc place) outer after)) j)
    ∙ ap (λ (c : Bool). then_else c (begun main gap start (suc place) joined after) ((start, place) ∷ begun main gap place (suc place) outer after)) t

-- the next item joins the line
pub one_joins : (main gap present joined : ℤ) (start place i : ℕ) (rest : List FlexItem) (d : FlexItem) (made all : Lines) → i < length rest
    → joined ≡ present +ℤ gap +ℤ outer_hypothetical (get_or rest i d) → int_le joined main ≡ true
    → made ++ begun main gap start place present (drop i rest) ≡ all → made ++ begun main gap start (place + 1) joined (drop (i + 1) rest) ≡ all
one_joins main gap present joined start place i rest d made all h j t e =
    ap (λ (n : ℕ). made ++ begun main gap start n joined (drop (i + 1) rest)) (add-one place)
    ∙ sym (ap (λ (ls : Lines). made ++ ls) (step main gap present joined start place i rest d true h j t)) ∙ e

-- the next item begins a line
pub one_begins : (main gap present joined outer : ℤ) (start place i : ℕ) (rest : List FlexItem) (d : FlexItem) (made all : Lines) → i < length rest
    → outer ≡ outer_hypothetical (get_or rest i d) → joined ≡ present +ℤ gap +ℤ outer_hypothetical (get_or rest i d) → int_le joined main ≡ false
    → made ++ begun main gap start place present (drop i rest) ≡ all → (made ++ (start, place) ∷ []) ++ begun main gap place (place + 1) outer (drop (i + 1) rest) ≡ all
one_begins main gap present joined outer start place i rest d made all h o j t e =
    append_assoc made ((start, place) ∷ []) (begun main gap place (place + 1) outer (drop (i + 1) rest))
    ∙ ap (λ (n : ℕ). made ++ (start, place) ∷ begun main gap place n outer (drop (i + 1) rest)) (add-one place)
    ∙ ap (λ (z : ℤ). made ++ (start, place) ∷ begun main gap place (suc place) z (drop (i + 1) rest)) o
    ∙ sym (ap (λ (ls : Lines). made ++ ls) (step main gap present joined start place i rest d false h j t)) ∙ e

-- all lines are ranges of the items
begun_ranges : (main gap present : ℤ) (start place items : ℕ) (rest : List FlexItem) → start ≤ place → place + length rest ≡ items → AreRanges items (begun main gap start place present rest)
begun_ranges main gap present start place items [] h e = (record { order = h; end = omega (arith, e) }, tt)
begun_ranges main gap present start place items (x ∷ rest) h e =
    go (int_le (present +ℤ gap +ℤ outer_hypothetical x) main)
    (begun_ranges main gap (present +ℤ gap +ℤ outer_hypothetical x) start (suc place) items rest (omega (arith, h)) (omega (arith, e)))
    (record { order = h; end = omega (arith, e) }, begun_ranges main gap (outer_hypothetical x) place (suc place) items rest (omega arith) (omega (arith, e)))
  where
    go : (b : Bool) → AreRanges items (begun main gap start (suc place) (present +ℤ gap +ℤ outer_hypothetical x) rest)
        → IsRange items (start, place) × AreRanges items (begun main gap place (suc place) (outer_hypothetical x) rest)
        → AreRanges items (if b then begun main gap start (suc place) (present +ℤ gap +ℤ outer_hypothetical x) rest else (start, place) ∷ begun main gap place (suc place) (outer_hypothetical x) rest)
    go true p q = p
    go false p q = q

pub lines_ranges : (main gap first : ℤ) (y : FlexItem) (rest : List FlexItem) → AreRanges (length (y ∷ rest)) (begun main gap 0 1 first rest)
lines_ranges main gap first y rest = begun_ranges main gap first 0 1 (length (y ∷ rest)) rest (omega arith) (omega arith)
