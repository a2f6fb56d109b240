-- The order of two texts by their first bytes as numbers, each in a room with zeros behind it.
use Rattle.std.proofs.Common.{arith, ap, sym, refl, ◌∙◌, ◌≡◌, ◌≢◌, ℕ, zero, suc, ◌+◌, ◌-◌, ◌*◌, ◌<◌, ◌≤◌, List, [], ◌∷◌, ◌++◌, length, take, get_or, replicate, nat_cmp, Ordering, Less, Equal, Greater, zero-lt-suc}
use Rattle.std.proofs.lemmas.Cmp.{ranked}
use Rattle.std.proofs.lemmas.List.{length-append, length-replicate}
use Rattle.std.specs.Cmp.{nat_cmp_is}
use Rattle.std.specs.Cmp.Lexicographic.{slice_cmp}
use Rattle.std.specs.Ordering.{ordering_then}
use Rattle.lunit.specs.Fronts.{spelled_after}
use Rattle.lunit.specs.Padded.{padded}

-- ---- bytes as one number

abbrev pub AreBytes : List ℕ → Type 0
AreBytes xs = (k : ℕ) → get_or xs k 0 < 256

rises : (n less more : ℕ) (xs ys : List ℕ) → n ≤ length xs → n ≤ length ys → AreBytes xs → less < more → spelled_after less (take n xs) < spelled_after more (take n ys)
rises zero less more xs ys l m small h = h
rises (suc n) less more [] ys l m small h = absurd (omega arith)
rises (suc n) less more (x ∷ xs) [] l m small h = absurd (omega arith)
rises (suc n) less more (x ∷ xs) (y ∷ ys) l m small h =
    let first : x < 256 = small 0 in
    rises n (less * 256 + x) (more * 256 + y) xs ys (omega arith) (omega arith) (λ k. small (suc k)) (omega (arith, h, first))

-- numbers that differ are ordered as the bytes are
pub by_numbers : (n before : ℕ) (xs ys : List ℕ) → n ≤ length xs → n ≤ length ys → AreBytes xs → AreBytes ys → spelled_after before (take n xs) ≢ spelled_after before (take n ys) →
    nat_cmp (spelled_after before (take n xs)) (spelled_after before (take n ys)) ≡ slice_cmp nat_cmp xs ys
by_numbers zero before xs ys l m small tiny f = absurd (f refl)
by_numbers (suc n) before [] ys l m small tiny f = absurd (omega arith)
by_numbers (suc n) before (x ∷ xs) [] l m small tiny f = absurd (omega arith)
by_numbers (suc n) before (x ∷ xs) (y ∷ ys) l m small tiny f =
    by (nat_cmp x y) refl
    (λ h. rises n (before * 256 + x) (before * 256 + y) xs ys (omega arith) (omega arith) (λ k. small (suc k)) (omega (arith, h)))
    (λ h. rises n (before * 256 + y) (before * 256 + x) ys xs (omega arith) (omega arith) (λ k. tiny (suc k)) (omega (arith, h)))
    (λ g. by_numbers n (before * 256 + x) xs ys (omega arith) (omega arith) (λ k. small (suc k)) (λ k. tiny (suc k)) g)
  where
    one : ℕ
    one = spelled_after (before * 256 + x) (take n xs)

    other : ℕ
    other = spelled_after (before * 256 + y) (take n ys)

    by : (r : Ordering) → nat_cmp x y ≡ r → (x < y → one < other) → (y < x → other < one) → (one ≢ spelled_after (before * 256 + x) (take n ys) → nat_cmp one (spelled_after (before * 256 + x) (take n ys)) ≡ slice_cmp nat_cmp xs ys) →
        nat_cmp one other ≡ ordering_then (nat_cmp x y) (slice_cmp nat_cmp xs ys)
    by Less h up down level = sym (nat_cmp_is one other Less (up (ranked x y Less (sym h)))) ∙ sym (ap (λ r. ordering_then r (slice_cmp nat_cmp xs ys)) h)
    by Greater h up down level = sym (nat_cmp_is one other Greater (down (ranked x y Greater (sym h)))) ∙ sym (ap (λ r. ordering_then r (slice_cmp nat_cmp xs ys)) h)
    by Equal h up down level =
        let same : x ≡ y = ranked x y Equal (sym h) in
        let at : spelled_after (before * 256 + x) (take n ys) ≡ other = ap (λ z. spelled_after (before * 256 + z) (take n ys)) same in
        ap (nat_cmp one) (sym at) ∙ level (λ e. f (e ∙ at)) ∙ sym (ap (λ r. ordering_then r (slice_cmp nat_cmp xs ys)) h)

-- eight bytes, each with what it counts
pub eight : (xs : List ℕ) → 8 ≤ length xs →
    get_or xs 0 0 * 72057594037927936 + get_or xs 1 0 * 281474976710656 + get_or xs 2 0 * 1099511627776 + get_or xs 3 0 * 4294967296 + get_or xs 4 0 * 16777216 + get_or xs 5 0 * 65536 + get_or xs 6 0 * 256 + get_or xs 7 0 ≡ spelled_after 0 (take 8 xs)
eight [] l = absurd (omega arith)
eight (a ∷ []) l = absurd (omega arith)
eight (a ∷ b ∷ []) l = absurd (omega arith)
eight (a ∷ b ∷ c ∷ []) l = absurd (omega arith)
eight (a ∷ b ∷ c ∷ d ∷ []) l = absurd (omega arith)
eight (a ∷ b ∷ c ∷ d ∷ e ∷ []) l = absurd (omega arith)
eight (a ∷ b ∷ c ∷ d ∷ e ∷ f ∷ []) l = absurd (omega arith)
eight (a ∷ b ∷ c ∷ d ∷ e ∷ f ∷ g ∷ []) l = absurd (omega arith)
eight (a ∷ b ∷ c ∷ d ∷ e ∷ f ∷ g ∷ h ∷ rest) l = omega arith

-- ---- zeros beside as many bytes

zeros_first : (n : ℕ) (zs : List ℕ) (o : Ordering) → length zs ≡ n → slice_cmp nat_cmp (replicate n 0) zs ≡ o → o ≢ Equal → o ≡ Less
zeros_first zero [] o l e f = absurd (f (sym e))
zeros_first zero (z ∷ zs) o l e f = absurd (omega arith)
zeros_first (suc n) [] o l e f = absurd (omega arith)
zeros_first (suc n) (zero ∷ zs) o l e f = zeros_first n zs o (omega arith) (ap (λ r. ordering_then r (slice_cmp nat_cmp (replicate n 0) zs)) (nat_cmp_is 0 0 Equal refl) ∙ e) f
zeros_first (suc n) (suc z ∷ zs) o l e f = sym e ∙ sym (ap (λ r. ordering_then r (slice_cmp nat_cmp (replicate n 0) zs)) (nat_cmp_is 0 (suc z) Less (zero-lt-suc z)))

zeros_last : (n : ℕ) (zs : List ℕ) (o : Ordering) → length zs ≡ n → slice_cmp nat_cmp zs (replicate n 0) ≡ o → o ≢ Equal → o ≡ Greater
zeros_last zero [] o l e f = absurd (f (sym e))
zeros_last zero (z ∷ zs) o l e f = absurd (omega arith)
zeros_last (suc n) [] o l e f = absurd (omega arith)
zeros_last (suc n) (zero ∷ zs) o l e f = zeros_last n zs o (omega arith) (ap (λ r. ordering_then r (slice_cmp nat_cmp zs (replicate n 0))) (nat_cmp_is 0 0 Equal refl) ∙ e) f
zeros_last (suc n) (suc z ∷ zs) o l e f = sym e ∙ sym (ap (λ r. ordering_then r (slice_cmp nat_cmp zs (replicate n 0))) (nat_cmp_is (suc z) 0 Greater (zero-lt-suc z)))

zeros_alike : (n : ℕ) → slice_cmp nat_cmp (replicate n 0) (replicate n 0) ≡ Equal
zeros_alike zero = refl
zeros_alike (suc n) = sym (ap (λ r. ordering_then r (slice_cmp nat_cmp (replicate n 0) (replicate n 0))) (nat_cmp_is 0 0 Equal refl)) ∙ zeros_alike n

-- ---- texts with zeros behind them

behind : (xs ys : List ℕ) (m n : ℕ) (o : Ordering) → length xs + m ≡ length ys + n → slice_cmp nat_cmp (xs ++ replicate m 0) (ys ++ replicate n 0) ≡ o → o ≢ Equal → slice_cmp nat_cmp xs ys ≡ o
behind [] [] m n o l e f =
    let same : m ≡ n = omega arith in
    absurd (f (sym e ∙ ap (λ k. slice_cmp nat_cmp (replicate m 0) (replicate k 0)) (sym same) ∙ zeros_alike m))
behind [] (y ∷ ys) m n o l e f = sym (zeros_first m ((y ∷ ys) ++ replicate n 0) o (omega (arith, length-append (y ∷ ys) (replicate n 0), length-replicate {A = ℕ} n 0)) e f)
behind (x ∷ xs) [] m n o l e f = sym (zeros_last n ((x ∷ xs) ++ replicate m 0) o (omega (arith, length-append (x ∷ xs) (replicate m 0), length-replicate {A = ℕ} m 0)) e f)
behind (x ∷ xs) (y ∷ ys) m n o l e f = by (nat_cmp x y) refl (λ k. behind xs ys m n o (omega arith) k f)
  where
    rest : Ordering
    rest = slice_cmp nat_cmp (xs ++ replicate m 0) (ys ++ replicate n 0)

    by : (r : Ordering) → nat_cmp x y ≡ r → (rest ≡ o → slice_cmp nat_cmp xs ys ≡ o) → ordering_then (nat_cmp x y) (slice_cmp nat_cmp xs ys) ≡ o
    by Less h k = ap (λ r. ordering_then r (slice_cmp nat_cmp xs ys)) h ∙ sym (ap (λ r. ordering_then r rest) h) ∙ e
    by Greater h k = ap (λ r. ordering_then r (slice_cmp nat_cmp xs ys)) h ∙ sym (ap (λ r. ordering_then r rest) h) ∙ e
    by Equal h k = ap (λ r. ordering_then r (slice_cmp nat_cmp xs ys)) h ∙ k (sym (ap (λ r. ordering_then r rest) h) ∙ e)

fits : (xs a : List ℕ) → padded xs ≡ a → length a ≡ 64 → length xs ≤ 64
fits xs a p l =
    let all : length (padded xs) ≡ length xs + (64 - length xs) = length-append xs (replicate (64 - length xs) 0) ∙ ap (λ k. length xs + k) (length-replicate (64 - length xs) 0) in
    let room : length (padded xs) ≡ 64 = ap length p ∙ l in
    omega (arith, all, room)

-- rooms of 64 bytes that differ are ordered as the texts in them are
pub by_rooms : (xs ys a b : List ℕ) (o : Ordering) → padded xs ≡ a → padded ys ≡ b → length a ≡ 64 → length b ≡ 64 → o ≡ slice_cmp nat_cmp a b → o ≢ Equal → o ≡ slice_cmp nat_cmp xs ys
by_rooms xs ys a b o p q l m e f =
    let short : length xs ≤ 64 = fits xs a p l in
    let brief : length ys ≤ 64 = fits ys b q m in
    sym (behind xs ys (64 - length xs) (64 - length ys) o (omega (arith, short, brief)) (ap (λ z. slice_cmp nat_cmp z (padded ys)) p ∙ ap (λ z. slice_cmp nat_cmp a z) q ∙ sym e) f)
