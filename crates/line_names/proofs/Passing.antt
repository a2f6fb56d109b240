-- Lines that pass a test, in order.
use Rattle.std.proofs.Common.{arith, rules, refl, sym, ap, ◌∙◌, ◌≡◌, ◌≢◌, ◌⊎◌, inl, inr, ℕ, zero, suc, ◌+◌, ◌<◌, ◌≤◌, ℤ, pos, negsuc, ◌+ℤ◌, ◌-ℤ◌, ◌<ℤ◌, ◌≤ℤ◌, Bool, true, false, ◌||◌, ◌&&◌, true≢false, List, [], ◌∷◌, ◌++◌, length, get_or}
use Rattle.std.specs.Prelude.{filter, int_le}
use Rattle.std.specs.Ordering.{int_eq}
use Rattle.std.proofs.lemmas.Int.{ints}
use Rattle.std.proofs.lemmas.List.{append-nil, get_or_past}
use Rattle.part_rules.specs.LineNames.{holds_name, lines_by, named_from}
use Rattle.line_names.specs.Levels.{told_from, within, names_in}
use Rattle.line_names.specs.Passing.{among, passing, picked}
use Rattle.line_names.proofs.Names.{picked-high, picked-low}

le_from : (a b : ℤ) → int_le a b ≡ true → a ≤ℤ b
le_from a b h = search rules

le_to : (a b : ℤ) → a ≤ℤ b → int_le a b ≡ true
le_to a b h = search rules

le_not : (a b : ℤ) → b <ℤ a → int_le a b ≡ false
le_not a b h = search rules

not_le : (a b : ℤ) → int_le a b ≡ false → b <ℤ a
not_le a b h = search rules

pub eq_same : (a : ℤ) → int_eq a a ≡ true
eq_same a = search rules

pub eq_from : (a b : ℤ) → int_eq a b ≡ true → a ≡ b
eq_from a b h = search rules

pub eq_not : (a b : ℤ) → a ≢ b → int_eq a b ≡ false
eq_not a b h = search rules

-- ---- tests

pub passing_same : (f g : ℤ → Bool) (line : ℤ) (n : ℕ) → ((l : ℤ) → line ≤ℤ l → l <ℤ (line +ℤ pos n) → f l ≡ g l) → passing f line n ≡ passing g line n
passing_same f g line zero h = refl
passing_same f g line (suc n) h =
    ap (λ b. picked b line (passing f (line +ℤ pos 1) n)) (h line (omega (arith, ints)) (omega (arith, ints)))
    ∙ ap (λ more. picked (g line) line more) (passing_same f g (line +ℤ pos 1) n (λ l a b. h l (omega (arith, ints, a)) (omega (arith, ints, b))))

picked_filter : (held : Bool) (p : ℤ → Bool) (line : ℤ) (more : List ℤ) → filter p (picked held line more) ≡ picked (held && p line) line (filter p more)
picked_filter true p line more = refl
picked_filter false p line more = refl

passing_filter : (f p : ℤ → Bool) (line : ℤ) (n : ℕ) → filter p (passing f line n) ≡ passing (λ l. f l && p l) line n
passing_filter f p line zero = refl
passing_filter f p line (suc n) =
    picked_filter (f line) p line (passing f (line +ℤ pos 1) n)
    ∙ ap (λ more. picked (f line && p line) line more) (passing_filter f p (line +ℤ pos 1) n)

picked_told : (held : Bool) (base line : ℤ) (more : List ℤ) → told_from base (picked held line more) ≡ picked held (line -ℤ base) (told_from base more)
picked_told true base line more = refl
picked_told false base line more = refl

pub passing_told : (f g : ℤ → Bool) (base line : ℤ) (n : ℕ) → ((l : ℤ) → f l ≡ g (l -ℤ base)) → told_from base (passing f line n) ≡ passing g (line -ℤ base) n
passing_told f g base line zero h = refl
passing_told f g base line (suc n) h =
    let next : (line +ℤ pos 1) -ℤ base ≡ (line -ℤ base) +ℤ pos 1 = omega (arith, ints) in
    picked_told (f line) base line (passing f (line +ℤ pos 1) n)
    ∙ ap (λ b. picked b (line -ℤ base) (told_from base (passing f (line +ℤ pos 1) n))) (h line)
    ∙ ap (λ more. picked (g (line -ℤ base)) (line -ℤ base) more) (passing_told f g base (line +ℤ pos 1) n h ∙ ap (λ z. passing g z n) next)

-- ---- lines that do not pass

pub passing_none : (f : ℤ → Bool) (line : ℤ) (n : ℕ) → ((l : ℤ) → line ≤ℤ l → f l ≡ false) → passing f line n ≡ []
passing_none f line zero h = refl
passing_none f line (suc n) h =
    ap (λ b. picked b line (passing f (line +ℤ pos 1) n)) (h line (omega (arith, ints))) ∙ passing_none f (line +ℤ pos 1) n (λ l a. h l (omega (arith, ints, a)))

passing_to : (f : ℤ → Bool) (line : ℤ) (n d : ℕ) → ((l : ℤ) → (line +ℤ pos n) ≤ℤ l → f l ≡ false) → passing f line (n + d) ≡ passing f line n
passing_to f line zero d h = passing_none f line (0 + d) (λ l a. h l (omega (arith, ints, a)))
passing_to f line (suc n) d h =
    let count : suc n + d ≡ suc (n + d) = omega arith in
    ap (λ k. passing f line k) count ∙ ap (λ more. picked (f line) line more) (passing_to f (line +ℤ pos 1) n d (λ l a. h l (omega (arith, ints, a))))

passing_from : (f : ℤ → Bool) (line next : ℤ) (d n : ℕ) → next ≡ line +ℤ pos d → ((l : ℤ) → l <ℤ next → f l ≡ false) → passing f line (d + n) ≡ passing f next n
passing_from f line next zero n e h =
    let count : 0 + n ≡ n = omega arith in
    let same : line ≡ next = omega (arith, ints, e) in
    ap (λ k. passing f line k) count ∙ ap (λ z. passing f z n) same
passing_from f line next (suc d) n e h =
    let count : suc d + n ≡ suc (d + n) = omega arith in
    ap (λ k. passing f line k) count ∙ ap (λ b. picked b line (passing f (line +ℤ pos 1) (d + n))) (h line (omega (arith, ints, e)))
    ∙ passing_from f (line +ℤ pos 1) next d n (omega (arith, ints, e)) h

range_on : (f : ℤ → Bool) (b c : ℤ) (d n m : ℕ) → c ≡ b +ℤ pos d → ((l : ℤ) → l <ℤ c → f l ≡ false) → ((l : ℤ) → (b +ℤ pos n) ≤ℤ l → f l ≡ false) → ((l : ℤ) → (c +ℤ pos m) ≤ℤ l → f l ≡ false) → passing f b n ≡ passing f c m
range_on f b c d n m e low high last =
    let count : n + (d + m) ≡ d + (m + n) = omega arith in
    sym (passing_to f b n (d + m) high) ∙ ap (λ k. passing f b k) count ∙ passing_from f b c d (m + n) e low ∙ passing_to f c m n last

-- two ranges that both have all lines that pass
same_range : (f : ℤ → Bool) (b c : ℤ) (n m : ℕ) → ((l : ℤ) → l <ℤ b → f l ≡ false) → ((l : ℤ) → l <ℤ c → f l ≡ false) → ((l : ℤ) → (b +ℤ pos n) ≤ℤ l → f l ≡ false) → ((l : ℤ) → (c +ℤ pos m) ≤ℤ l → f l ≡ false) → passing f b n ≡ passing f c m
same_range f b c n m first low high last = by (c -ℤ b) refl
  where
    by : (d : ℤ) → c -ℤ b ≡ d → passing f b n ≡ passing f c m
    by (pos d) e = range_on f b c d n m (omega (arith, ints, e)) low high last
    by (negsuc d) e = sym (range_on f c b (d + 1) m n (omega (arith, ints, e)) first last high)

-- ---- names

pub named_passes : (name : List ℕ) (line : ℤ) (xs : List (List (List ℕ))) (f : ℤ → Bool) → ((i : ℕ) → i < length xs → f (line +ℤ pos i) ≡ holds_name name (get_or xs i [])) → named_from name line xs ≡ passing f line (length xs)
named_passes name line [] f h = refl
named_passes name line (x ∷ xs) f h =
    let first : line +ℤ pos 0 ≡ line = omega (arith, ints) in
    ap (λ b. picked b line (named_from name (line +ℤ pos 1) xs)) (sym (h 0 (omega arith)) ∙ ap f first)
    ∙ ap (λ more. picked (f line) line more) (named_passes name (line +ℤ pos 1) xs f (λ i k. let at : line +ℤ pos 1 +ℤ pos i ≡ line +ℤ pos (suc i) = omega (arith, ints) in ap f at ∙ h (suc i) (omega arith)))

-- the lines of a name, of lines that are given one by one
pub named_by : (name : List ℕ) (names : ℕ → List (List ℕ)) (n start : ℕ) (f : ℤ → Bool) → ((i : ℕ) → start ≤ i → i < start + n → f (pos i) ≡ holds_name name (names i)) → named_from name (pos start) (lines_by names n start) ≡ passing f (pos start) n
named_by name names zero start f h = refl
named_by name names (suc n) start f h =
    let next : pos start +ℤ pos 1 ≡ pos (start + 1) = omega (arith, ints) in
    ap (λ b. picked b (pos start) (named_from name (pos start +ℤ pos 1) (lines_by names n (start + 1)))) (sym (h start (omega arith) (omega arith)))
    ∙ ap (λ z. picked (f (pos start)) (pos start) (named_from name z (lines_by names n (start + 1)))) next
    ∙ ap (λ more. picked (f (pos start)) (pos start) more) (named_by name names n (start + 1) f (λ i a b. h i (omega arith) (omega arith)) ∙ ap (λ z. passing f z n) (sym next))

names_below : (xs : List (List (List ℕ))) (z : ℤ) → z <ℤ pos 0 → names_in xs z ≡ []
names_below xs (pos n) h = absurd (omega (arith, ints))
names_below xs (negsuc n) h = refl

names_past : (xs : List (List (List ℕ))) (z : ℤ) → pos (length xs) ≤ℤ z → names_in xs z ≡ []
names_past xs (pos n) h = get_or_past xs n [] (omega (arith, ints))
names_past xs (negsuc n) h = absurd (omega (arith, ints))

second_fails : (a b c : Bool) → b ≡ false → ((a && b) && c) ≡ false
second_fails true b c e = ap (λ z. z && c) e
second_fails false b c e = refl

pub third_fails : (a c : Bool) → c ≡ false → (a && c) ≡ false
third_fails true c e = e
third_fails false c e = refl

both_pass : (a b c : Bool) → b ≡ true → c ≡ true → ((a && b) && c) ≡ a
both_pass true b c e f = ap (λ z. z && c) e ∙ f
both_pass false b c e f = refl

-- the lines of a name among these that a span has, told from its start
pub names_cut : (name : List ℕ) (xs : List (List (List ℕ))) (start : ℤ) (tracks : ℕ) → within (pos 0) (pos tracks) (told_from start (named_from name (pos 0) xs)) ≡ passing (λ l. holds_name name (names_in xs (start +ℤ l))) (pos 0) (tracks + 1)
names_cut name xs start tracks =
    let T : ℤ → Bool = λ l. holds_name name (names_in xs (start +ℤ l)) in
    let P : ℤ → Bool = λ l. holds_name name (names_in xs l) in
    let Q : ℤ → Bool = λ l. (T l && int_le (pos 0) l) && int_le l (pos tracks) in
    let all : named_from name (pos 0) xs ≡ passing P (pos 0) (length xs) = named_passes name (pos 0) xs P (λ i h. let at : pos 0 +ℤ pos i ≡ pos i = omega (arith, ints) in ap P at) in
    let moved : told_from start (passing P (pos 0) (length xs)) ≡ passing T (pos 0 -ℤ start) (length xs) = passing_told P T start (pos 0) (length xs) (λ l. let at : l ≡ start +ℤ (l -ℤ start) = omega (arith, ints) in ap P at) in
    let cut : within (pos 0) (pos tracks) (passing T (pos 0 -ℤ start) (length xs)) ≡ passing Q (pos 0 -ℤ start) (length xs) =
    ap (λ ls. filter (λ l. int_le l (pos tracks)) ls) (passing_filter T (λ l. int_le (pos 0) l) (pos 0 -ℤ start) (length xs))
    ∙ passing_filter (λ l. T l && int_le (pos 0) l) (λ l. int_le l (pos tracks)) (pos 0 -ℤ start) (length xs) in
    let none : (l : ℤ) → names_in xs (start +ℤ l) ≡ [] → Q l ≡ false = λ l e. ap (λ ns. (holds_name name ns && int_le (pos 0) l) && int_le l (pos tracks)) e in
    ap (λ ls. within (pos 0) (pos tracks) (told_from start ls)) all
    ∙ ap (λ ls. within (pos 0) (pos tracks) ls) moved
    ∙ cut
    ∙ same_range Q (pos 0 -ℤ start) (pos 0) (length xs) (tracks + 1)
    (λ l h. none l (names_below xs (start +ℤ l) (omega (arith, ints, h))))
    (λ l h. second_fails (T l) (int_le (pos 0) l) (int_le l (pos tracks)) (le_not (pos 0) l h))
    (λ l h. none l (names_past xs (start +ℤ l) (omega (arith, ints, h))))
    (λ l h. third_fails (T l && int_le (pos 0) l) (int_le l (pos tracks)) (le_not l (pos tracks) (omega (arith, ints, h))))
    ∙ passing_same Q T (pos 0) (tracks + 1) (λ l a b. both_pass (T l) (int_le (pos 0) l) (int_le l (pos tracks)) (le_to (pos 0) l a) (le_to l (pos tracks) (omega (arith, ints, b))))

-- ---- a range in a range

within_pick : (low high x : ℤ) (held : Bool) (more : List ℤ) → within low high (picked held x more) ≡ picked ((held && int_le low x) && int_le x high) x (within low high more)
within_pick low high x held more =
    ap (λ ls. filter (λ l. int_le l high) ls) (picked_filter held (λ l. int_le low l) x more) ∙ picked_filter (held && int_le low x) (λ l. int_le l high) x (filter (λ l. int_le low l) more)

absorbed : (b c d : Bool) → (c ≡ true → d ≡ true → b ≡ true) → ((b && c) && d) ≡ ((true && c) && d)
absorbed true c d h = refl
absorbed false true true h = h refl refl
absorbed false true false h = refl
absorbed false false d h = refl

-- a range that lies in another one takes its part of it
pub within_again : (low high start : ℤ) (tracks : ℕ) (xs : List ℤ) → low ≤ℤ start → (start +ℤ pos tracks) ≤ℤ high → within (pos 0) (pos tracks) (told_from start (within low high xs)) ≡ within (pos 0) (pos tracks) (told_from start xs)
within_again low high start tracks [] h k = refl
within_again low high start tracks (x ∷ xs) h k =
    let B : Bool = (true && int_le low x) && int_le x high in
    let C : Bool = int_le (pos 0) (x -ℤ start) in
    let D : Bool = int_le (x -ℤ start) (pos tracks) in
    let inside : C ≡ true → D ≡ true → B ≡ true = λ c d.
    both_pass true (int_le low x) (int_le x high) (le_to low x (omega (arith, ints, h, le_from (pos 0) (x -ℤ start) c))) (le_to x high (omega (arith, ints, k, le_from (x -ℤ start) (pos tracks) d))) in
    let rest : within (pos 0) (pos tracks) (told_from start (within low high xs)) ≡ within (pos 0) (pos tracks) (told_from start xs) = within_again low high start tracks xs h k in
    ap (λ ls. within (pos 0) (pos tracks) (told_from start ls)) (within_pick low high x true xs)
    ∙ ap (λ ls. within (pos 0) (pos tracks) ls) (picked_told B start x (within low high xs))
    ∙ within_pick (pos 0) (pos tracks) (x -ℤ start) B (told_from start (within low high xs))
    ∙ ap (λ b. picked b (x -ℤ start) (within (pos 0) (pos tracks) (told_from start (within low high xs)))) (absorbed B C D inside)
    ∙ ap (λ ls. picked ((true && C) && D) (x -ℤ start) ls) rest
    ∙ sym (within_pick (pos 0) (pos tracks) (x -ℤ start) true (told_from start xs))

-- ---- one line more

picked-append : (held : Bool) (line : ℤ) (xs ys : List ℤ) → picked held line (xs ++ ys) ≡ picked held line xs ++ ys
picked-append true line xs ys = refl
picked-append false line xs ys = refl

pub passing_split : (f : ℤ → Bool) (line : ℤ) (n m : ℕ) → passing f line (n + m) ≡ passing f line n ++ passing f (line +ℤ pos n) m
passing_split f line zero m =
    let at : line ≡ line +ℤ pos 0 = omega (arith, ints) in
    let count : 0 + m ≡ m = omega arith in
    ap (λ k. passing f line k) count ∙ ap (λ z. passing f z m) at
passing_split f line (suc n) m =
    let count : suc n + m ≡ suc (n + m) = omega arith in
    let at : line +ℤ pos 1 +ℤ pos n ≡ line +ℤ pos (suc n) = omega (arith, ints) in
    ap (λ k. passing f line k) count
    ∙ ap (λ more. picked (f line) line more) (passing_split f (line +ℤ pos 1) n m ∙ ap (λ z. passing f (line +ℤ pos 1) n ++ passing f z m) at)
    ∙ picked-append (f line) line (passing f (line +ℤ pos 1) n) (passing f (line +ℤ pos (suc n)) m)

pub passing_more : (f : ℤ → Bool) (line : ℤ) (n : ℕ) → passing f line (n + 1) ≡ passing f line n ++ picked (f (line +ℤ pos n)) (line +ℤ pos n) []
passing_more f line n = passing_split f line n 1

passing_low : (f : ℤ → Bool) (line : ℤ) (n : ℕ) (d : ℤ) (i : ℕ) → i < length (passing f line n) → line ≤ℤ get_or (passing f line n) i d
passing_low f line zero d i h = absurd (omega arith)
passing_low f line (suc n) d i h = picked-low (f line) line (passing f (line +ℤ pos 1) n) d (λ k g. passing_low f (line +ℤ pos 1) n d k g) i h

pub passing_high : (f : ℤ → Bool) (line : ℤ) (n : ℕ) (d : ℤ) (i : ℕ) → i < length (passing f line n) → get_or (passing f line n) i d <ℤ (line +ℤ pos n)
passing_high f line zero d i h = absurd (omega arith)
passing_high f line (suc n) d i h =
    picked-high (f line) line (line +ℤ pos (suc n)) (passing f (line +ℤ pos 1) n) d (omega (arith, ints))
    (λ k g. omega (arith, ints, passing_high f (line +ℤ pos 1) n d k g)) i h

-- ---- whether a line passes

pub or_false : (a b : Bool) → b ≡ false → (a || b) ≡ a
or_false true b e = refl
or_false false b e = e

among_picked : (held : Bool) (line x : ℤ) (more : List ℤ) → among (picked held line more) x ≡ ((held && int_eq line x) || among more x)
among_picked true line x more = refl
among_picked false line x more = refl

-- a line outside of these is none of them
pub among_outside : (f : ℤ → Bool) (line : ℤ) (n : ℕ) (x : ℤ) → (x <ℤ line) ⊎ ((line +ℤ pos n) ≤ℤ x) → among (passing f line n) x ≡ false
among_outside f line zero x h = refl
among_outside f line (suc n) x h =
    among_picked (f line) line x (passing f (line +ℤ pos 1) n)
    ∙ ap (λ b. b || among (passing f (line +ℤ pos 1) n) x) (third_fails (f line) (int_eq line x) (eq_not line x (λ e. other e h)))
    ∙ among_outside f (line +ℤ pos 1) n x (next h)
  where
    other : line ≡ x → (x <ℤ line) ⊎ ((line +ℤ pos (suc n)) ≤ℤ x) → ⊥
    other e (inl k) = absurd (omega (arith, ints, e, k))
    other e (inr k) = absurd (omega (arith, ints, e, k))

    next : (x <ℤ line) ⊎ ((line +ℤ pos (suc n)) ≤ℤ x) → (x <ℤ (line +ℤ pos 1)) ⊎ ((line +ℤ pos 1 +ℤ pos n) ≤ℤ x)
    next (inl k) = inl (omega (arith, ints, k))
    next (inr k) = inr (omega (arith, ints, k))

held_too : (a b : Bool) → b ≡ true → (a && b) ≡ a
held_too true b e = e
held_too false b e = refl

differ : (a b : ℤ) → int_eq a b ≡ false → a ≢ b
differ a b e same = true≢false (sym (eq_same b) ∙ ap (λ z. int_eq z b) (sym same) ∙ e)

after_it : (a b : ℤ) → a ≤ℤ b → a ≢ b → (a +ℤ pos 1) ≤ℤ b
after_it a b h n = omega (arith, ints, h, n)

-- a line among these is one of them if it passes
pub among_inside : (f : ℤ → Bool) (line : ℤ) (n : ℕ) (x : ℤ) → line ≤ℤ x → x <ℤ (line +ℤ pos n) → among (passing f line n) x ≡ f x
among_inside f line zero x h k = absurd (omega (arith, ints, h, k))
among_inside f line (suc n) x h k =
    among_picked (f line) line x (passing f (line +ℤ pos 1) n)
    ∙ by (int_eq line x) refl (λ e. among_inside f (line +ℤ pos 1) n x (after_it line x h (differ line x e)) (omega (arith, ints, k)))
  where
    by : (b : Bool) → int_eq line x ≡ b → (int_eq line x ≡ false → among (passing f (line +ℤ pos 1) n) x ≡ f x) → ((f line && int_eq line x) || among (passing f (line +ℤ pos 1) n) x) ≡ f x
    by true e later =
        let same : line ≡ x = eq_from line x e in
        ap (λ b. b || among (passing f (line +ℤ pos 1) n) x) (held_too (f line) (int_eq line x) e)
        ∙ or_false (f line) (among (passing f (line +ℤ pos 1) n) x) (among_outside f (line +ℤ pos 1) n x (inl (omega (arith, ints, same))))
        ∙ ap f same
    by false e later = ap (λ b. b || among (passing f (line +ℤ pos 1) n) x) (third_fails (f line) (int_eq line x) e) ∙ later e

-- among lines told from another one
pub among_told : (base : ℤ) (xs : List ℤ) (x : ℤ) → among (told_from base xs) x ≡ among xs (base +ℤ x)
among_told base [] x = refl
among_told base (y ∷ ys) x =
    ap (λ b. b || among (told_from base ys) x) (moved (int_eq (y -ℤ base) x) refl) ∙ ap (λ b. int_eq y (base +ℤ x) || b) (among_told base ys x)
  where
    moved : (b : Bool) → int_eq (y -ℤ base) x ≡ b → int_eq (y -ℤ base) x ≡ int_eq y (base +ℤ x)
    moved true e =
        let same : y ≡ base +ℤ x = omega (arith, ints, eq_from (y -ℤ base) x e) in
        e ∙ sym (ap (λ z. int_eq z (base +ℤ x)) same ∙ eq_same (base +ℤ x))
    moved false e = e ∙ sym (eq_not y (base +ℤ x) (λ same. true≢false (sym (ap (λ z. int_eq (z -ℤ base) x) same ∙ ap (λ z. int_eq z x) back ∙ eq_same x) ∙ e)))
      where
        back : (base +ℤ x) -ℤ base ≡ x
        back = omega (arith, ints)

-- among the lines of a range
among_filter : (p : ℤ → Bool) (xs : List ℤ) (x : ℤ) → p x ≡ true → among (filter p xs) x ≡ among xs x
among_filter p [] x h = refl
among_filter p (y ∷ ys) x h = among_picked (p y) y x (filter p ys) ∙ by (int_eq y x) refl (among_filter p ys x h)
  where
    by : (b : Bool) → int_eq y x ≡ b → among (filter p ys) x ≡ among ys x → ((p y && int_eq y x) || among (filter p ys) x) ≡ (int_eq y x || among ys x)
    by true e later =
        let held : p y ≡ true = ap p (eq_from y x e) ∙ h in
        ap (λ b. (b && int_eq y x) || among (filter p ys) x) held ∙ ap (λ b. int_eq y x || b) later
    by false e later = ap (λ b. b || among (filter p ys) x) (third_fails (p y) (int_eq y x) e) ∙ later ∙ ap (λ b. b || among ys x) (sym e)

pub among_within : (low high : ℤ) (xs : List ℤ) (x : ℤ) → low ≤ℤ x → x ≤ℤ high → among (within low high xs) x ≡ among xs x
among_within low high xs x h k =
    among_filter (λ l. int_le l high) (filter (λ l. int_le low l) xs) x (le_to x high k) ∙ among_filter (λ l. int_le low l) xs x (le_to low x h)

-- what passes a test passes a wider one
pub passing_fewer : (f g : ℤ → Bool) (line : ℤ) (n : ℕ) → ((l : ℤ) → g l ≡ false → f l ≡ false) → passing g line n ≡ [] → passing f line n ≡ []
passing_fewer f g line zero h e = refl
passing_fewer f g line (suc n) h e = by (g line) refl (λ k. passing_fewer f g (line +ℤ pos 1) n h k)
  where
    by : (b : Bool) → g line ≡ b → (passing g (line +ℤ pos 1) n ≡ [] → passing f (line +ℤ pos 1) n ≡ []) → passing f line (suc n) ≡ []
    by true p later =
        let count : length (line ∷ passing g (line +ℤ pos 1) n) ≡ 0 = ap (λ ls. length ls) (sym (ap (λ b. picked b line (passing g (line +ℤ pos 1) n)) p) ∙ e) in
        absurd (omega (arith, count))
    by false p later =
        ap (λ b. picked b line (passing f (line +ℤ pos 1) n)) (h line p)
        ∙ later (sym (ap (λ b. picked b line (passing g (line +ℤ pos 1) n)) p) ∙ e)

-- ---- a range cut short

pub cut_front : (f : ℤ → Bool) (low : ℤ) (line : ℤ) (d m : ℕ) → (line +ℤ pos d) ≤ℤ low ⊎ (d ≡ 0) → (low ≤ℤ (line +ℤ pos d)) ⊎ (m ≡ 0) → filter (λ l. int_le low l) (passing f line (d + m)) ≡ passing f (line +ℤ pos d) m
cut_front f low line d m before after =
    passing_filter f (λ l. int_le low l) line (d + m)
    ∙ passing_split (λ l. f l && int_le low l) line d m
    ∙ ap (λ ls. ls ++ passing (λ l. f l && int_le low l) (line +ℤ pos d) m) (front before)
    ∙ rest after
  where
    front : (line +ℤ pos d) ≤ℤ low ⊎ (d ≡ 0) → passing (λ l. f l && int_le low l) line d ≡ []
    front (inl h) = passing_same (λ l. f l && int_le low l) (λ l. false) line d (λ l a b. third_fails (f l) (int_le low l) (le_not low l (omega (arith, ints, h, b)))) ∙ passing_none (λ l. false) line d (λ l a. refl)
    front (inr e) = ap (λ k. passing (λ l. f l && int_le low l) line k) e

    rest : (low ≤ℤ (line +ℤ pos d)) ⊎ (m ≡ 0) → passing (λ l. f l && int_le low l) (line +ℤ pos d) m ≡ passing f (line +ℤ pos d) m
    rest (inl h) = passing_same (λ l. f l && int_le low l) f (line +ℤ pos d) m (λ l a b. held_too (f l) (int_le low l) (le_to low l (omega (arith, ints, h, a))))
    rest (inr e) = ap (λ k. passing (λ l. f l && int_le low l) (line +ℤ pos d) k) e ∙ sym (ap (λ k. passing f (line +ℤ pos d) k) e)

pub cut_end : (f : ℤ → Bool) (high : ℤ) (line : ℤ) (m d : ℕ) → ((line +ℤ pos m) ≤ℤ (high +ℤ pos 1)) ⊎ (m ≡ 0) → ((high +ℤ pos 1) ≤ℤ (line +ℤ pos m)) ⊎ (d ≡ 0) → filter (λ l. int_le l high) (passing f line (m + d)) ≡ passing f line m
cut_end f high line m d before after =
    passing_filter f (λ l. int_le l high) line (m + d)
    ∙ passing_split (λ l. f l && int_le l high) line m d
    ∙ ap (λ ls. ls ++ passing (λ l. f l && int_le l high) (line +ℤ pos m) d) (front before)
    ∙ ap (λ ls. passing f line m ++ ls) (rest after)
    ∙ append-nil (passing f line m)
  where
    front : ((line +ℤ pos m) ≤ℤ (high +ℤ pos 1)) ⊎ (m ≡ 0) → passing (λ l. f l && int_le l high) line m ≡ passing f line m
    front (inl h) = passing_same (λ l. f l && int_le l high) f line m (λ l a b. held_too (f l) (int_le l high) (le_to l high (omega (arith, ints, h, b))))
    front (inr e) = ap (λ k. passing (λ l. f l && int_le l high) line k) e ∙ sym (ap (λ k. passing f line k) e)

    rest : ((high +ℤ pos 1) ≤ℤ (line +ℤ pos m)) ⊎ (d ≡ 0) → passing (λ l. f l && int_le l high) (line +ℤ pos m) d ≡ []
    rest (inl h) = passing_same (λ l. f l && int_le l high) (λ l. false) (line +ℤ pos m) d (λ l a b. third_fails (f l) (int_le l high) (le_not l high (omega (arith, ints, h, a)))) ∙ passing_none (λ l. false) (line +ℤ pos m) d (λ l a. refl)
    rest (inr e) = ap (λ k. passing (λ l. f l && int_le l high) (line +ℤ pos m) k) e

-- tests that agree at so many places from one on
pub passing_places : (f g : ℤ → Bool) (first : ℤ) (start n : ℕ) → ((i : ℕ) → start ≤ i → i < start + n → f (first +ℤ pos i) ≡ g (first +ℤ pos i)) → passing f (first +ℤ pos start) n ≡ passing g (first +ℤ pos start) n
passing_places f g first start zero h = refl
passing_places f g first start (suc n) h =
    let next : first +ℤ pos start +ℤ pos 1 ≡ first +ℤ pos (start + 1) = omega (arith, ints) in
    ap (λ b. picked b (first +ℤ pos start) (passing f (first +ℤ pos start +ℤ pos 1) n)) (h start (omega arith) (omega arith))
    ∙ ap (λ z. picked (g (first +ℤ pos start)) (first +ℤ pos start) (passing f z n)) next
    ∙ ap (λ ls. picked (g (first +ℤ pos start)) (first +ℤ pos start) ls) (passing_places f g first (start + 1) n (λ i a b. h i (omega (arith, a)) (omega (arith, b))))
    ∙ ap (λ z. picked (g (first +ℤ pos start)) (first +ℤ pos start) (passing g z n)) (sym next)
