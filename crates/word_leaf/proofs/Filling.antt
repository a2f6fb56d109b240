-- The number of lines, from the width of the line that stands.
use Rattle.std.proofs.Common.{arith, ap, ◌≡◌, ◌∙◌, refl, sym, true≢false, ℕ, suc, ◌+◌, ◌-◌, ◌<◌, ℤ, pos, ◌+ℤ◌, ◌*ℤ◌, Bool, true, false, List, [], ◌∷◌, ◌++◌, length, drop, get_or, if◌then◌else◌, int_le, int_lt, cond, Less, Equal, Greater}
use Rattle.std.proofs.lemmas.Int.{ints}
use Rattle.std.proofs.lemmas.List.{drop_more, length-append}
use Rattle.std.specs.Ordering.{int_cmp, is_le}
use Rattle.part_rules.specs.Lists.{sum_of, filled_from}
use Rattle.part_rules.specs.WordLines.{line_width, word_lines}

-- how many lines the words begin after a line of this width that stands
abbrev pub begun : ℤ → ℤ → ℤ → List ℤ → ℕ
begun space width present [] = 0
begun space width present (w ∷ ws) =
    let joined = present +ℤ space +ℤ w in
    if int_le joined width then begun space width joined ws else suc (begun space width w ws)

sum-append-one : (a : List ℤ) (w : ℤ) → sum_of (a ++ w ∷ []) ≡ sum_of a +ℤ w
sum-append-one [] w = omega (arith, ints)
sum-append-one (x ∷ a) w = omega (arith, ints, sum-append-one a w)

times-more : (z : ℤ) (n : ℕ) → z *ℤ pos (suc n) ≡ z *ℤ pos n +ℤ z
times-more z n = omega (arith, ints)

-- a line is wider by a space and the word that joins it
joins : (space y : ℤ) (line : List ℤ) (w : ℤ) → line_width space ((y ∷ line) ++ w ∷ []) ≡ line_width space (y ∷ line) +ℤ space +ℤ w
joins space y line w =
    let n : length ((y ∷ line) ++ w ∷ []) - 1 ≡ suc (length (y ∷ line) - 1) = omega (arith, length-append line (w ∷ [])) in
    let s : space *ℤ pos (length ((y ∷ line) ++ w ∷ []) - 1) ≡ space *ℤ pos (length (y ∷ line) - 1) +ℤ space = ap (λ k. space *ℤ pos k) n ∙ times-more space (length (y ∷ line) - 1) in
    omega (arith, ints, s, sum-append-one line w)

alone : (space w : ℤ) → line_width space (w ∷ []) ≡ w
alone space w = omega (arith, ints)

from_begun : (space width y : ℤ) (line ws : List ℤ) → length (filled_from (λ l. int_le (line_width space l) width) (y ∷ line) ws) ≡ suc (begun space width (line_width space (y ∷ line)) ws)
from_begun space width y line [] = omega arith
from_begun space width y line (w ∷ ws) =
    go (int_le (line_width space ((y ∷ line) ++ w ∷ [])) width) (int_le (line_width space (y ∷ line) +ℤ space +ℤ w) width) (ap (λ z. int_le z width) (joins space y line w))
    (from_begun space width y (line ++ w ∷ []) ws ∙ ap (λ z. suc (begun space width z ws)) (joins space y line w))
    (from_begun space width w [] ws ∙ ap (λ z. suc (begun space width z ws)) (alone space w))
  where
    fits : List ℤ → Bool
    fits l = int_le (line_width space l) width

    go : (s t : Bool) → s ≡ t → length (filled_from fits (y ∷ (line ++ w ∷ [])) ws) ≡ suc (begun space width (line_width space (y ∷ line) +ℤ space +ℤ w) ws) → length (filled_from fits (w ∷ []) ws) ≡ suc (begun space width w ws)
        → length (if s then filled_from fits (y ∷ (line ++ w ∷ [])) ws else (y ∷ line) ∷ filled_from fits (w ∷ []) ws) ≡ suc (if t then begun space width (line_width space (y ∷ line) +ℤ space +ℤ w) ws else suc (begun space width w ws))
    go true true e same other = same
    go true false e same other = absurd (true≢false e)
    go false true e same other = absurd (true≢false (sym e))
    go false false e same other = ap suc other

-- The first word stands on a line, and the rest begins lines after it.
pub lines_begun : (space width y : ℤ) (ws : List ℤ) → length (word_lines space width (y ∷ ws)) ≡ suc (begun space width y ws)
lines_begun space width y ws = from_begun space width y [] ws ∙ ap (λ z. suc (begun space width z ws)) (alone space y)

-- a step of the filling: the next word joins the line
word_joins : (space width present : ℤ) (ws : List ℤ) (i : ℕ) (d : ℤ) → i < length ws → int_le (present +ℤ space +ℤ get_or ws i d) width ≡ true
    → begun space width present (drop i ws) ≡ begun space width (present +ℤ space +ℤ get_or ws i d) (drop (i + 1) ws)
word_joins space width present ws i d h e = ap (begun space width present) (drop_more ws i d h)
    ∙ ap (λ (b : Bool). if b then begun space width (present +ℤ space +ℤ get_or ws i d) (drop (i + 1) ws) else suc (begun space width (get_or ws i d) (drop (i + 1) ws))) e

-- a step of the filling: the next word begins a line
word_begins : (space width present : ℤ) (ws : List ℤ) (i : ℕ) (d : ℤ) → i < length ws → int_le (present +ℤ space +ℤ get_or ws i d) width ≡ false
    → begun space width present (drop i ws) ≡ suc (begun space width (get_or ws i d) (drop (i + 1) ws))
word_begins space width present ws i d h e = ap (begun space width present) (drop_more ws i d h)
    ∙ ap (λ (b : Bool). if b then begun space width (present +ℤ space +ℤ get_or ws i d) (drop (i + 1) ws) else suc (begun space width (get_or ws i d) (drop (i + 1) ws))) e

-- a step of the sum
pub sum_next : (ws : List ℤ) (i : ℕ) (d : ℤ) → i < length ws → sum_of (drop i ws) ≡ get_or ws i d +ℤ sum_of (drop (i + 1) ws)
sum_next ws i d h = ap sum_of (drop_more ws i d h)

-- A step of the code: its test is that of the filling.
pub joins_where : (space width present joined : ℤ) (ws : List ℤ) (i : ℕ) (d : ℤ) (lines all : ℕ) → i < length ws → joined ≡ present +ℤ space +ℤ get_or ws i d → int_le joined width ≡ true
    → lines + begun space width present (drop i ws) ≡ all → lines + begun space width joined (drop (i + 1) ws) ≡ all
joins_where space width present joined ws i d lines all h j t e =
    let fits : int_le (present +ℤ space +ℤ get_or ws i d) width ≡ true = ap (λ z. int_le z width) (sym j) ∙ t in
    ap (λ z. lines + begun space width z (drop (i + 1) ws)) j ∙ ap (λ n. lines + n) (sym (word_joins space width present ws i d h fits)) ∙ e

pub begins_where : (space width present joined : ℤ) (ws : List ℤ) (i : ℕ) (d : ℤ) (lines all : ℕ) → i < length ws → joined ≡ present +ℤ space +ℤ get_or ws i d → int_le joined width ≡ false
    → lines + begun space width present (drop i ws) ≡ all → (lines + 1) + begun space width (get_or ws i d) (drop (i + 1) ws) ≡ all
begins_where space width present joined ws i d lines all h j t e =
    let not : int_le (present +ℤ space +ℤ get_or ws i d) width ≡ false = ap (λ z. int_le z width) (sym j) ∙ t in
    omega (arith, word_begins space width present ws i d h not, e)

-- what `<=` answers at numbers
pub le_is : (x y : ℤ) → int_le x y ≡ is_le (int_cmp x y)
le_is x y = by (int_lt x y) (int_lt y x) (int_le x y) refl refl refl
  where
    by : (s t u : Bool) → int_lt x y ≡ s → int_lt y x ≡ t → int_le x y ≡ u → u ≡ is_le (cond s Less (cond t Greater Equal))
    by true true u a b c = absurd (omega (arith, ints))
    by true false true a b c = refl
    by true false false a b c = absurd (omega (arith, ints))
    by false true true a b c = absurd (omega (arith, ints))
    by false true false a b c = refl
    by false false true a b c = refl
    by false false false a b c = absurd (omega (arith, ints))
