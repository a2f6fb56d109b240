-- The lines of a name as bits.
use Rattle.std.proofs.Common.{arith, rules, tests, refl, sym, ap, ◌∙◌, ◌≡◌, ◌≢◌, ◌⊎◌, inl, inr, ℕ, zero, suc, ◌+◌, ◌-◌, ◌*◌, ◌/◌, ◌%◌, ◌^◌, ◌<◌, ◌≤◌, ℤ, pos, ◌+ℤ◌, ◌-ℤ◌, ◌<ℤ◌, ◌≤ℤ◌, int_lt, Bool, true, false, ◌||◌, List, [], ◌∷◌, ◌++◌, length, length-append, get_or, ◌==◌, max, w64}
use Rattle.std.specs.Prelude.{slice_get, slice_set, Some, None, bit_or, filter, int_le}
use Rattle.std.specs.Int.{bit_at}
use Rattle.std.proofs.Math.Seq.{get_or-append_seam}
use Rattle.std.proofs.lemmas.Bool.{cases_eq, cases_lt}
use Rattle.std.proofs.lemmas.Int.{ints}
use Rattle.std.proofs.lemmas.List.{append-nil, get_or-set_same, get_or-set_other}
use Rattle.std.proofs.lemmas.Nat.Bits.{bit_at-zero, bit_at_set_same, bit_at_set_other}
use Rattle.std.proofs.lemmas.Option.{slice_get-get_or}
use Rattle.line_names.specs.Indexes.{ends_before, precedes}
use Rattle.line_names.specs.LineLists.{has_bit, bit_of, is_in, bits_in, IsLineList}
use Rattle.line_names.specs.Passing.{among, passing, picked}
use Rattle.line_names.proofs.Names.{ends_before-from}
use Rattle.line_names.proofs.Passing.{among_inside, among_outside, cut_end, cut_front, passing_high, passing_more, passing_none, passing_places, passing_split}

-- ---- bits

-- the bit of a line is the one at its place
pub line_bit : (words : List ℕ) (first : ℤ) (place : ℕ) → is_in words first (first +ℤ pos place) ≡ has_bit words place
line_bit words first place =
    let at : (first +ℤ pos place) -ℤ first ≡ pos place = omega (arith, ints) in
    ap (bit_of words) at

-- so many lines and one more
pub bit_more : (words : List ℕ) (first : ℤ) (start place : ℕ) → start ≤ place →
    passing (is_in words first) (first +ℤ pos start) (place + 1 - start) ≡ passing (is_in words first) (first +ℤ pos start) (place - start) ++ picked (has_bit words place) (first +ℤ pos place) []
bit_more words first start place h =
    let count : place + 1 - start ≡ (place - start) + 1 = omega (arith, h) in
    let at : (first +ℤ pos start) +ℤ pos (place - start) ≡ first +ℤ pos place = omega (arith, ints, h) in
    ap (λ n. passing (is_in words first) (first +ℤ pos start) n) count
    ∙ passing_more (is_in words first) (first +ℤ pos start) (place - start)
    ∙ ap (λ z. passing (is_in words first) (first +ℤ pos start) (place - start) ++ picked (is_in words first z) z []) at
    ∙ ap (λ b. passing (is_in words first) (first +ℤ pos start) (place - start) ++ picked b (first +ℤ pos place) []) (line_bit words first place)

pub counted_more : (words : List ℕ) (first : ℤ) (start place count : ℕ) → start ≤ place → has_bit words place ≡ true → count ≡ length (passing (is_in words first) (first +ℤ pos start) (place - start)) →
    count + 1 ≡ length (passing (is_in words first) (first +ℤ pos start) (place + 1 - start))
counted_more words first start place count h bit e =
    let xs : List ℤ = passing (is_in words first) (first +ℤ pos start) (place - start) in
    let all : passing (is_in words first) (first +ℤ pos start) (place + 1 - start) ≡ xs ++ (first +ℤ pos place) ∷ [] = bit_more words first start place h ∙ ap (λ b. xs ++ picked b (first +ℤ pos place) []) bit in
    let more : length (xs ++ (first +ℤ pos place) ∷ []) ≡ length xs + 1 = length-append xs ((first +ℤ pos place) ∷ []) in
    omega (arith, e, more, ap (λ ls. length ls) all)

none_here : (words : List ℕ) (first : ℤ) (start place : ℕ) → start ≤ place → has_bit words place ≡ false → passing (is_in words first) (first +ℤ pos start) (place + 1 - start) ≡ passing (is_in words first) (first +ℤ pos start) (place - start)
none_here words first start place h bit =
    bit_more words first start place h
    ∙ ap (λ b. passing (is_in words first) (first +ℤ pos start) (place - start) ++ picked b (first +ℤ pos place) []) bit
    ∙ append-nil (passing (is_in words first) (first +ℤ pos start) (place - start))

pub counted_same : (words : List ℕ) (first : ℤ) (start place count : ℕ) → start ≤ place → has_bit words place ≡ false → count ≡ length (passing (is_in words first) (first +ℤ pos start) (place - start)) →
    count ≡ length (passing (is_in words first) (first +ℤ pos start) (place + 1 - start))
counted_same words first start place count h bit e = e ∙ sym (ap (λ ls. length ls) (none_here words first start place h bit))

pub passed_more : (words : List ℕ) (first : ℤ) (start place left less index : ℕ) → start ≤ place → has_bit words place ≡ true → left ≡ less + 1 → length (passing (is_in words first) (first +ℤ pos start) (place - start)) + left ≡ index →
    length (passing (is_in words first) (first +ℤ pos start) (place + 1 - start)) + less ≡ index
passed_more words first start place left less index h bit e is =
    omega (arith, e, is, counted_more words first start place (length (passing (is_in words first) (first +ℤ pos start) (place - start))) h bit refl)

pub passed_same : (words : List ℕ) (first : ℤ) (start place left same index : ℕ) → start ≤ place → has_bit words place ≡ false → same ≡ left → length (passing (is_in words first) (first +ℤ pos start) (place - start)) + left ≡ index →
    length (passing (is_in words first) (first +ℤ pos start) (place + 1 - start)) + same ≡ index
passed_same words first start place left same index h bit e is =
    omega (arith, e, is, counted_same words first start place (length (passing (is_in words first) (first +ℤ pos start) (place - start))) h bit refl)

pub none_more : (words : List ℕ) (first : ℤ) (start place : ℕ) → start ≤ place → has_bit words place ≡ false → passing (is_in words first) (first +ℤ pos start) (place - start) ≡ [] → passing (is_in words first) (first +ℤ pos start) (place + 1 - start) ≡ []
none_more words first start place h bit e = none_here words first start place h bit ∙ e

-- a word of no bits more
more_word : (words : List ℕ) (i : ℕ) → get_or (words ++ 0 ∷ []) i 0 ≡ get_or words i 0
more_word [] zero = refl
more_word [] (suc i) = refl
more_word (w ∷ words) zero = refl
more_word (w ∷ words) (suc i) = more_word words i

pub same_bits : (words : List ℕ) (place : ℕ) → has_bit (words ++ 0 ∷ []) place ≡ has_bit words place
same_bits words place = ap (λ w. bit_at w (place % 64) == 1) (more_word words (place / 64))

pub no_bit : (place : ℕ) → has_bit [] place ≡ false
no_bit place = ap (λ b. b == 1) (bit_at-zero (place % 64))

same_number : (n : ℕ) → (n == n) ≡ true
same_number n = search (rules, tests)

other_number : (n m : ℕ) → n ≢ m → (n == m) ≡ false
other_number n m h = search (rules, tests)

or_same : (b : Bool) → (b || true) ≡ true
or_same true = refl
or_same false = refl

or_none : (b : Bool) → (b || false) ≡ b
or_none true = refl
or_none false = refl

-- a bit is set
pub bit_set : (words : List ℕ) (at place : ℕ) (word : ℕ) → at < length words → at ≡ place / 64 → word ≡ bit_or (get_or words at 0) (1 * 2 ^ (place % 64) % 2 ^ 64) → (other : ℕ) →
    has_bit (slice_set words at word) other ≡ (has_bit words other || (other == place))
bit_set words at place word inside e is other = by (cases_eq (other / 64) at) (cases_eq other place)
  where
    within : place % 64 < 64
    within = omega arith

    one : 1 ≤ get_or words at 0 + 1
    one = omega arith

    here : other / 64 ≡ at → get_or (slice_set words at word) (other / 64) 0 ≡ word
    here same = ap (λ i. get_or (slice_set words at word) i 0) same ∙ get_or-set_same words at word 0 inside

    by : (other / 64 ≡ at) ⊎ (other / 64 ≢ at) → (other ≡ place) ⊎ (other ≢ place) → has_bit (slice_set words at word) other ≡ (has_bit words other || (other == place))
    by (inl same) (inl is_it) =
        let bits : other % 64 ≡ place % 64 = ap (λ n. n % 64) is_it in
        ap (λ w. bit_at w (other % 64) == 1) (here same ∙ is)
        ∙ ap (λ k. bit_at (bit_or (get_or words at 0) (1 * 2 ^ (place % 64) % 2 ^ 64)) k == 1) bits
        ∙ ap (λ b. b == 1) (bit_at_set_same w64 (get_or words at 0) (place % 64) within)
        ∙ sym (or_same (has_bit words other))
        ∙ ap (λ b. has_bit words other || b) (sym (ap (λ n. n == place) is_it ∙ same_number place))
    by (inl same) (inr apart) =
        let bits : other % 64 ≢ place % 64 = λ f. apart (omega (arith, same, e, f)) in
        ap (λ w. bit_at w (other % 64) == 1) (here same ∙ is)
        ∙ ap (λ b. b == 1) (bit_at_set_other w64 (get_or words at 0) (place % 64) within (other % 64) bits)
        ∙ ap (λ i. bit_at (get_or words i 0) (other % 64) == 1) (sym same)
        ∙ sym (or_none (has_bit words other))
        ∙ ap (λ b. has_bit words other || b) (sym (other_number other place apart))
    by (inr away) (inl is_it) = absurd (away (ap (λ n. n / 64) is_it ∙ sym e))
    by (inr away) (inr apart) =
        ap (λ w. bit_at w (other % 64) == 1) (get_or-set_other words at (other / 64) word 0 away)
        ∙ sym (or_none (has_bit words other))
        ∙ ap (λ b. has_bit words other || b) (sym (other_number other place apart))

-- a word that was found
some_from : (a b : ℕ) → Some a ≡ Some b → a ≡ b
some_from a b e = search rules

pub got : (words : List ℕ) (at word : ℕ) → at < length words → slice_get words at ≡ Some word → word ≡ get_or words at 0
got words at word h e = some_from word (get_or words at 0) (sym e ∙ slice_get-get_or words at 0 h)

none_from : (a : ℕ) → None ≡ Some a → ⊥
none_from a e = search rules

pub not_got : (words : List ℕ) (at : ℕ) → at < length words → slice_get words at ≡ None → ⊥
not_got words at h e = none_from (get_or words at 0) (sym e ∙ slice_get-get_or words at 0 h)

-- ---- a part of the lines

-- no lines, and all of them
pub all_lines : (words : List ℕ) (first : ℤ) (count : ℕ) → passing (is_in words first) (first +ℤ pos 0) (count - 0) ≡ bits_in words first count
all_lines words first count =
    let at : first +ℤ pos 0 ≡ first = omega (arith, ints) in
    let all : count - 0 ≡ count = omega arith in
    ap (λ z. passing (is_in words first) z (count - 0)) at ∙ ap (λ n. passing (is_in words first) first n) all

-- the line at a place, which comes after so many others
pub here_at : (words : List ℕ) (first : ℤ) (start place end index : ℕ) (d : ℤ) → start ≤ place → place < end → has_bit words place ≡ true →
    length (passing (is_in words first) (first +ℤ pos start) (place - start)) ≡ index → get_or (passing (is_in words first) (first +ℤ pos start) (end - start)) index d ≡ first +ℤ pos place
here_at words first start place end index d h k bit count =
    let whole : end - start ≡ (place - start) + (suc (end - (place + 1))) = omega (arith, h, k) in
    let at : (first +ℤ pos start) +ℤ pos (place - start) ≡ first +ℤ pos place = omega (arith, ints, h) in
    let f : ℤ → Bool = is_in words first in
    ap (λ n. get_or (passing f (first +ℤ pos start) n) index d) whole
    ∙ ap (λ ls. get_or ls index d) (passing_split f (first +ℤ pos start) (place - start) (suc (end - (place + 1))) ∙ ap (λ z. passing f (first +ℤ pos start) (place - start) ++ passing f z (suc (end - (place + 1)))) at)
    ∙ ap (λ b. get_or (passing f (first +ℤ pos start) (place - start) ++ picked b (first +ℤ pos place) (passing f (first +ℤ pos place +ℤ pos 1) (end - (place + 1)))) index d) (line_bit words first place ∙ bit)
    ∙ ap (λ i. get_or (passing f (first +ℤ pos start) (place - start) ++ (first +ℤ pos place) ∷ passing f (first +ℤ pos place +ℤ pos 1) (end - (place + 1))) i d) (sym count)
    ∙ get_or-append_seam (passing f (first +ℤ pos start) (place - start)) (first +ℤ pos place) (passing f (first +ℤ pos place +ℤ pos 1) (end - (place + 1))) d

-- a place that has a bit makes a list of some
pub some_here : (words : List ℕ) (first : ℤ) (start place end : ℕ) → start ≤ place → place < end → has_bit words place ≡ true → ¬ (passing (is_in words first) (first +ℤ pos start) (end - start) ≡ [])
some_here words first start place end h k bit none =
    let whole : end - start ≡ (place + 1 - start) + (end - (place + 1)) = omega (arith, h, k) in
    let f : ℤ → Bool = is_in words first in
    let split : passing f (first +ℤ pos start) (end - start) ≡ (passing f (first +ℤ pos start) (place - start) ++ (first +ℤ pos place) ∷ []) ++ passing f (first +ℤ pos start +ℤ pos (place + 1 - start)) (end - (place + 1)) =
    ap (λ n. passing f (first +ℤ pos start) n) whole
    ∙ passing_split f (first +ℤ pos start) (place + 1 - start) (end - (place + 1))
    ∙ ap (λ ls. ls ++ passing f (first +ℤ pos start +ℤ pos (place + 1 - start)) (end - (place + 1))) (bit_more words first start place h ∙ ap (λ b. passing f (first +ℤ pos start) (place - start) ++ picked b (first +ℤ pos place) []) bit) in
    let count : length ((passing f (first +ℤ pos start) (place - start) ++ (first +ℤ pos place) ∷ []) ++ passing f (first +ℤ pos start +ℤ pos (place + 1 - start)) (end - (place + 1))) ≡ 0 = ap (λ ls. length ls) (sym split ∙ none) in
    absurd (omega (arith, count, length-append (passing f (first +ℤ pos start) (place - start) ++ (first +ℤ pos place) ∷ []) (passing f (first +ℤ pos start +ℤ pos (place + 1 - start)) (end - (place + 1))), length-append (passing f (first +ℤ pos start) (place - start)) ((first +ℤ pos place) ∷ [])))

-- a line outside of them, and one at a place
pub outside : (words : List ℕ) (first : ℤ) (start end : ℕ) (line : ℤ) → ((line -ℤ first) <ℤ pos start) ⊎ (pos end ≤ℤ (line -ℤ first)) → among (passing (is_in words first) (first +ℤ pos start) (end - start)) line ≡ false
outside words first start end line h = by h (cases_lt end start)
  where
    by : ((line -ℤ first) <ℤ pos start) ⊎ (pos end ≤ℤ (line -ℤ first)) → (end < start) ⊎ (start ≤ end) → among (passing (is_in words first) (first +ℤ pos start) (end - start)) line ≡ false
    by h (inl less) = let none : end - start ≡ 0 = omega (arith, less) in ap (λ n. among (passing (is_in words first) (first +ℤ pos start) n) line) none
    by (inl k) (inr more) = among_outside (is_in words first) (first +ℤ pos start) (end - start) line (inl (omega (arith, ints, k)))
    by (inr k) (inr more) = among_outside (is_in words first) (first +ℤ pos start) (end - start) line (inr (omega (arith, ints, k, more)))

pub inside : (words : List ℕ) (first : ℤ) (start end : ℕ) (line : ℤ) (place : ℕ) → line -ℤ first ≡ pos place → start ≤ place → place < end → among (passing (is_in words first) (first +ℤ pos start) (end - start)) line ≡ has_bit words place
inside words first start end line place e h k =
    among_inside (is_in words first) (first +ℤ pos start) (end - start) line (omega (arith, ints, e, h)) (omega (arith, ints, e, h, k)) ∙ ap (bit_of words) e

-- a range cut short
pub from_place : (words : List ℕ) (first : ℤ) (start end place : ℕ) (low z : ℤ) → z ≡ low → place ≤ end → (0 < place → pos place ≤ℤ (z -ℤ first)) → (place < end → (z -ℤ first) ≤ℤ pos place) → (next : ℕ) → next ≡ max start place →
    passing (is_in words first) (first +ℤ pos next) (end - next) ≡ filter (λ l. int_le low l) (passing (is_in words first) (first +ℤ pos start) (end - start))
from_place words first start end place low z same within not_after not_before next e = by (cases_lt start place)
  where
    Shorter : Type 0
    Shorter = passing (is_in words first) (first +ℤ pos next) (end - next) ≡ filter (λ l. int_le low l) (passing (is_in words first) (first +ℤ pos start) (end - start))

    cut : start ≤ next → (first +ℤ pos start +ℤ pos (next - start)) ≤ℤ low ⊎ (next - start ≡ 0) → (low ≤ℤ (first +ℤ pos start +ℤ pos (next - start))) ⊎ (end - next ≡ 0) → end - start ≡ (next - start) + (end - next) → Shorter
    cut h before after whole =
        let at : first +ℤ pos start +ℤ pos (next - start) ≡ first +ℤ pos next = omega (arith, ints, h) in
        ap (λ z. passing (is_in words first) z (end - next)) (sym at)
        ∙ sym (cut_front (is_in words first) low (first +ℤ pos start) (next - start) (end - next) before after)
        ∙ ap (λ n. filter (λ l. int_le low l) (passing (is_in words first) (first +ℤ pos start) n)) (sym whole)

    after_it : (h : place ≤ next) → start ≤ next → (low ≤ℤ (first +ℤ pos start +ℤ pos (next - start))) ⊎ (end - next ≡ 0)
    after_it h k = either (cases_lt place end)
      where
        either : (place < end) ⊎ (end ≤ place) → (low ≤ℤ (first +ℤ pos start +ℤ pos (next - start))) ⊎ (end - next ≡ 0)
        either (inl less) = inl (omega (arith, ints, same, not_before less, h, k))
        either (inr more) = inr (omega (arith, h, more))

    by : (start < place) ⊎ (place ≤ start) → Shorter
    by (inl less) =
        let is : next ≡ place = omega (arith, e, less) in
        cut (omega (arith, is, less)) (inl (omega (arith, ints, same, is, less, not_after (omega (arith, less))))) (after_it (omega (arith, is)) (omega (arith, is, less))) (omega (arith, is, less, within))
    by (inr more) =
        let is : next ≡ start = omega (arith, e, more) in
        cut (omega (arith, is)) (inr (omega (arith, is))) (after_it (omega (arith, is, more)) (omega (arith, is))) (omega (arith, is))

pub to_place : (words : List ℕ) (first : ℤ) (start end place : ℕ) (high z : ℤ) → z ≡ high +ℤ pos 1 → place ≤ end → (0 < place → pos place ≤ℤ (z -ℤ first)) → (place < end → (z -ℤ first) ≤ℤ pos place) →
    passing (is_in words first) (first +ℤ pos start) (place - start) ≡ filter (λ l. int_le l high) (passing (is_in words first) (first +ℤ pos start) (end - start))
to_place words first start end place high z same within not_after not_before =
    let whole : end - start ≡ (place - start) + (end - start - (place - start)) = omega (arith, within) in
    sym (cut_end (is_in words first) high (first +ℤ pos start) (place - start) (end - start - (place - start)) (before (cases_lt start place)) (after (cases_lt place end)))
    ∙ ap (λ n. filter (λ l. int_le l high) (passing (is_in words first) (first +ℤ pos start) n)) (sym whole)
  where
    before : (start < place) ⊎ (place ≤ start) → ((first +ℤ pos start +ℤ pos (place - start)) ≤ℤ (high +ℤ pos 1)) ⊎ (place - start ≡ 0)
    before (inl less) = inl (omega (arith, ints, same, less, not_after (omega (arith, less))))
    before (inr more) = inr (omega (arith, more))

    after : (place < end) ⊎ (end ≤ place) → ((high +ℤ pos 1) ≤ℤ (first +ℤ pos start +ℤ pos (place - start))) ⊎ (end - start - (place - start) ≡ 0)
    after (inl less) = inl (omega (arith, ints, same, not_before less))
    after (inr more) = inr (omega (arith, within, more))

-- ---- lists of lines

pub empty_list : IsLineList [] 0
empty_list = record { last = λ h. absurd (omega (arith, h)); clear = λ place h. no_bit place }

-- the last line
pub last_line : (words : List ℕ) (first : ℤ) (count : ℕ) → IsLineList words count → 0 < count → slice_get (bits_in words first count) (length (bits_in words first count) - 1) ≡ Some ((first +ℤ pos count) -ℤ pos 1)
last_line words first count h some =
    let n : count ≡ (count - 1) + 1 = omega (arith, some) in
    let f : ℤ → Bool = is_in words first in
    let xs : List ℤ = passing f first (count - 1) in
    let at : first +ℤ pos (count - 1) ≡ (first +ℤ pos count) -ℤ pos 1 = omega (arith, ints, some) in
    let all : bits_in words first count ≡ xs ++ (first +ℤ pos (count - 1)) ∷ [] =
    ap (λ m. passing f first m) n ∙ passing_more f first (count - 1) ∙ ap (λ b. xs ++ picked b (first +ℤ pos (count - 1)) []) (line_bit words first (count - 1) ∙ h.last some) in
    let last : length (xs ++ (first +ℤ pos (count - 1)) ∷ []) - 1 ≡ length xs = omega (arith, length-append xs ((first +ℤ pos (count - 1)) ∷ [])) in
    ap (λ ls. slice_get ls (length ls - 1)) all
    ∙ ap (λ i. slice_get (xs ++ (first +ℤ pos (count - 1)) ∷ []) i) last
    ∙ slice_get-get_or (xs ++ (first +ℤ pos (count - 1)) ∷ []) (length xs) (pos 0) (omega (arith, length-append xs ((first +ℤ pos (count - 1)) ∷ [])))
    ∙ ap (λ z. Some z) (get_or-append_seam xs (first +ℤ pos (count - 1)) [] (pos 0) ∙ at)

int_lt-tells : (a b : ℤ) → int_lt a b ≡ true → a <ℤ b
int_lt-tells a b h = search rules

-- a line after all others lies past them
pub past_all : (words : List ℕ) (first : ℤ) (count : ℕ) (line : ℤ) → IsLineList words count → ends_before (bits_in words first count) line ≡ true → 0 < count → (first +ℤ pos count) ≤ℤ line
past_all words first count line h before some =
    let e : int_lt ((first +ℤ pos count) -ℤ pos 1) line ≡ true = ap (λ o. precedes o line) (sym (last_line words first count h some)) ∙ before in
    omega (arith, ints, int_lt-tells ((first +ℤ pos count) -ℤ pos 1) line e)

-- the first line, where a line is to be added
pub started : (words : List ℕ) (first new : ℤ) (count : ℕ) (line z : ℤ) → z ≡ line → IsLineList words count → ends_before (bits_in words first count) line ≡ true → (count ≡ 0 → new ≡ z) → (0 < count → new ≡ first) → (new +ℤ pos count) ≤ℤ line
started words first new zero line z same h before none some = omega (arith, ints, same, none refl)
started words first new (suc n) line z same h before none some = omega (arith, ints, some (omega arith), past_all words first (suc n) line h before (omega arith))

pub started_lines : (words : List ℕ) (first new : ℤ) (count : ℕ) → (0 < count → new ≡ first) → bits_in words new count ≡ bits_in words first count
started_lines words first new zero some = refl
started_lines words first new (suc n) some = ap (λ z. bits_in words z (suc n)) (some (omega arith))

-- where a line that is to be added lies
pub push_from : (words : List ℕ) (now : List ℤ) (first again new : ℤ) (count : ℕ) (line z : ℤ) → z ≡ line → again ≡ first → bits_in words first count ≡ now → IsLineList words count → ends_before now line ≡ true → (count ≡ 0 → new ≡ z) → (0 < count → new ≡ again) →
    (new +ℤ pos count) ≤ℤ line
push_from words now first again new count line z same old view h last none some =
    started words first new count line z same h (ap (λ ls. ends_before ls line) view ∙ last) none (λ k. some k ∙ old)

-- a line is added
pub pushed : (words now : List ℕ) (first : ℤ) (count place : ℕ) (line : ℤ) → IsLineList words count → count ≤ place → line ≡ first +ℤ pos place → ((other : ℕ) → has_bit now other ≡ (has_bit words other || (other == place))) →
    bits_in now first (place + 1) ≡ bits_in words first count ++ line ∷ []
pushed words now first count place line h k e bits =
    let whole : place + 1 ≡ count + ((place - count) + 1) = omega (arith, k) in
    let f : ℤ → Bool = is_in now first in
    let at : first +ℤ pos count +ℤ pos (place - count) ≡ first +ℤ pos place = omega (arith, ints, k) in
    ap (λ n. passing f first n) whole
    ∙ passing_split f first count ((place - count) + 1)
    ∙ ap (λ ls. ls ++ passing f (first +ℤ pos count) ((place - count) + 1))
    (ap (λ z. passing f z count) start ∙ passing_places f (is_in words first) first 0 count (λ i a b. moved_bit i (kept i (λ g. absurd (omega (arith, a, b, k, g))))) ∙ ap (λ z. passing (is_in words first) z count) (sym start))
    ∙ ap (λ ls. bits_in words first count ++ ls) (passing_more f (first +ℤ pos count) (place - count))
    ∙ ap (λ ls. bits_in words first count ++ (ls ++ picked (f (first +ℤ pos count +ℤ pos (place - count))) (first +ℤ pos count +ℤ pos (place - count)) []))
    (passing_places f (λ l. false) first count (place - count) (λ i a b. line_bit now first i ∙ kept i (λ g. absurd (omega (arith, a, b, k, g))) ∙ h.clear i a) ∙ passing_none (λ l. false) (first +ℤ pos count) (place - count) (λ l a. refl))
    ∙ ap (λ z. bits_in words first count ++ picked (f z) z []) at
    ∙ ap (λ b. bits_in words first count ++ picked b (first +ℤ pos place) []) (line_bit now first place ∙ bits place ∙ ap (λ b. has_bit words place || b) (same_number place) ∙ or_same (has_bit words place))
    ∙ ap (λ z. bits_in words first count ++ z ∷ []) (sym e)
  where
    start : first ≡ first +ℤ pos 0
    start = omega (arith, ints)

    kept : (i : ℕ) → i ≢ place → has_bit now i ≡ has_bit words i
    kept i apart = bits i ∙ ap (λ b. has_bit words i || b) (other_number i place apart) ∙ or_none (has_bit words i)

    moved_bit : (i : ℕ) → has_bit now i ≡ has_bit words i → is_in now first (first +ℤ pos i) ≡ is_in words first (first +ℤ pos i)
    moved_bit i same = line_bit now first i ∙ same ∙ sym (line_bit words first i)

pub pushed_list : (words now : List ℕ) (count place : ℕ) → IsLineList words count → count ≤ place → ((other : ℕ) → has_bit now other ≡ (has_bit words other || (other == place))) → IsLineList now (place + 1)
pushed_list words now count place h k bits =
    record {
      last = λ some. let n : (place + 1) - 1 ≡ place = omega arith in ap (λ i. has_bit now i) n ∙ bits place ∙ ap (λ b. has_bit words place || b) (same_number place) ∙ or_same (has_bit words place);
      clear = λ i past. bits i ∙ ap (λ b. has_bit words i || b) (other_number i place (λ e. absurd (omega (arith, e, past)))) ∙ or_none (has_bit words i) ∙ h.clear i (omega (arith, k, past));
    }

-- a line one past so many
pub outside_place : (words : List ℕ) (first : ℤ) (start end place : ℕ) (line z : ℤ) → z ≡ line → place ≤ end → (0 < place → pos place ≤ℤ (z -ℤ first)) → (place < end → (z -ℤ first) ≤ℤ pos place) → (place < start) ⊎ ((end ≤ place) ⊎ (first +ℤ pos place ≢ line)) →
    among (passing (is_in words first) (first +ℤ pos start) (end - start)) line ≡ false
outside_place words first start end place line z same within not_after not_before h = by h (cases_lt place end) (cases_lt 0 place)
  where
    by : (place < start) ⊎ ((end ≤ place) ⊎ (first +ℤ pos place ≢ line)) → (place < end) ⊎ (end ≤ place) → (0 < place) ⊎ (place ≤ 0) → among (passing (is_in words first) (first +ℤ pos start) (end - start)) line ≡ false
    by (inl less) (inl under) some = outside words first start end line (inl (omega (arith, ints, same, less, not_before under)))
    by (inl less) (inr over) (inl some) = outside words first start end line (inr (omega (arith, ints, same, over, not_after some)))
    by (inl less) (inr over) (inr none) = ap (λ n. among (passing (is_in words first) (first +ℤ pos start) n) line) (let e : end - start ≡ 0 = omega (arith, over, none) in e)
    by (inr (inl over)) _ (inl some) = outside words first start end line (inr (omega (arith, ints, same, over, within, not_after some)))
    by (inr (inl over)) _ (inr none) = ap (λ n. among (passing (is_in words first) (first +ℤ pos start) n) line) (let e : end - start ≡ 0 = omega (arith, over, none) in e)
    by (inr (inr apart)) (inl under) (inl some) = absurd (apart (omega (arith, ints, same, not_before under, not_after some)))
    by (inr (inr apart)) (inl under) (inr none) = outside words first start end line (inl (below apart))
      where
        below : first +ℤ pos place ≢ line → (line -ℤ first) <ℤ pos start
        below n = omega (arith, ints, same, none, not_before under, n)
    by (inr (inr apart)) (inr over) (inl some) = outside words first start end line (inr (omega (arith, ints, same, over, within, not_after some)))
    by (inr (inr apart)) (inr over) (inr none) = ap (λ n. among (passing (is_in words first) (first +ℤ pos start) n) line) (let e : end - start ≡ 0 = omega (arith, over, none) in e)

-- lists with the same bits
pub same_list : (words now : List ℕ) (count : ℕ) → IsLineList words count → ((other : ℕ) → has_bit now other ≡ has_bit words other) → IsLineList now count
same_list words now count h bits = record { last = λ some. bits (count - 1) ∙ h.last some; clear = λ place k. bits place ∙ h.clear place k }

-- ---- lines that pass a test, as they are put in a list

pub passed_before : (f : ℤ → Bool) (first : ℤ) (n : ℕ) (xs : List ℤ) (line : ℤ) → xs ≡ passing f first n → line ≡ first +ℤ pos n → ends_before xs line ≡ true
passed_before f first n xs line e is =
    ap (λ ls. ends_before ls line) e
    ∙ ends_before-from (passing f first n) line (λ i h. omega (arith, ints, is, passing_high f first n line i h))

pub passed_next : (f : ℤ → Bool) (first : ℤ) (n : ℕ) (xs all : List ℤ) (held : Bool) (line : ℤ) → xs ≡ passing f first n → line ≡ first +ℤ pos n → held ≡ f line → all ≡ xs ++ picked held line [] → all ≡ passing f first (n + 1)
passed_next f first n xs all held line e is h k =
    k
    ∙ ap (λ ls. ls ++ picked held line []) e
    ∙ ap (λ b. passing f first n ++ picked b line []) h
    ∙ ap (λ z. passing f first n ++ picked (f z) z []) is
    ∙ sym (passing_more f first n)
