-- Greedy filling makes the fewest lines.
use Rattle.std.proofs.Common.{arith, ap, subst, ◌≡◌, ◌∙◌, sym, refl, true≢false, ℕ, suc, ℤ, pos, negsuc, ◌+◌, ◌-◌, ◌*◌, ◌≤◌, ◌+ℤ◌, ◌*ℤ◌, ◌≤ℤ◌, Bool, true, false, ◌&&◌, List, [], ◌∷◌, ◌++◌, length, if◌then◌else◌, int_le}
use Rattle.std.specs.List.{list_all}
use Rattle.std.proofs.lemmas.Int.{ints}
use Rattle.std.proofs.lemmas.List.{length-append}
use Rattle.std.proofs.Math.Nat.{mul-le-mul_left}
use Rattle.part_rules.specs.Lists.{sum_of, filled, filled_from, joined}
use Rattle.part_rules.specs.WordLines.{AreFewest, are_widths, line_width, word_lines}

append-assoc : {A : Type 0} (a b c : List A) → (a ++ b) ++ c ≡ a ++ (b ++ c)
append-assoc [] b c = refl
append-assoc (x ∷ a) b c = ap (λ t. x ∷ t) (append-assoc a b c)

all-append : {A : Type 0} (p : A → Bool) (a b : List A) → list_all p a ≡ true → list_all p b ≡ true → list_all p (a ++ b) ≡ true
all-append p [] b s t = t
all-append p (x ∷ a) b s t = go (p x) (list_all p a) s (all-append p a b)
  where
    go : (u v : Bool) → (u && v) ≡ true → (v ≡ true → list_all p b ≡ true → list_all p (a ++ b) ≡ true) → (u && list_all p (a ++ b)) ≡ true
    go true v e f = f e t
    go false v e f = e

all-one : {A : Type 0} (p : A → Bool) (x : A) → p x ≡ true → list_all p (x ∷ []) ≡ true
all-one p x e = ap (λ (b : Bool). b && true) e

-- of a list of which all passes, its first passes and the rest passes
both-pass : (u v : Bool) → (u && v) ≡ true → (u ≡ true) × (v ≡ true)
both-pass true v e = (refl, e)
both-pass false v e = (e, absurd (true≢false (sym e)))

-- What is asked of a test whether a line fits, over items that are good: a line that fits does so without its first items and
-- without its last ones.
pub record IsClosed {A : Type 0} (good : A → Bool) (fits : List A → Bool) : Type 0 where
  pub without_first : (p l : List A) → list_all good p ≡ true → list_all good l ≡ true → fits (p ++ l) ≡ true → fits l ≡ true
  pub without_last : (l q : List A) → list_all good l ≡ true → list_all good q ≡ true → fits (l ++ q) ≡ true → fits l ≡ true

-- the one line is what the other is without its first items
pub record IsEnd {A : Type 0} (good : A → Bool) (l big : List A) : Type 0 where
  pub start : List A
  pub whole : big ≡ start ++ l
  pub good_start : list_all good start ≡ true
  pub good_end : list_all good l ≡ true

module _ {A : Type 0} (good : A → Bool) (fits : List A → Bool) (c : IsClosed good fits) where
  abbrev from : List A → List A → ℕ
  from line rest = length (filled_from fits line rest)

  longer : (l big : List A) (z : A) → IsEnd good l big → good z ≡ true → IsEnd good (l ++ z ∷ []) (big ++ z ∷ [])
  longer l big z h g = record {
    start = h.start;
    whole = ap (λ t. t ++ z ∷ []) h.whole ∙ append-assoc h.start l (z ∷ []);
    good_start = h.good_start;
    good_end = all-append good l (z ∷ []) h.good_end (all-one good z g);
  }

  last_one : (l : List A) (z : A) → list_all good l ≡ true → good z ≡ true → IsEnd good (z ∷ []) (l ++ z ∷ [])
  last_one l z h g = record { start = l; whole = refl; good_start = h; good_end = all-one good z g }

  end_fits : (l big : List A) → IsEnd good l big → fits big ≡ true → fits l ≡ true
  end_fits l big h e = c.without_first h.start l h.good_start h.good_end (sym (ap fits h.whole) ∙ e)

  abbrev Near : List A → List A → List A → Type 0
  Near l big rest = (from l rest ≤ from big rest) × (from big rest ≤ suc (from l rest))

  -- the lines that begin with a longer first line are at least as many, and at most one more
  near : (l big rest : List A) → IsEnd good l big → list_all good rest ≡ true → Near l big rest
  near l big [] h g = (omega arith, omega arith)
  near l big (z ∷ r) h g =
      let gs = both-pass (good z) (list_all good r) g in
      go (fits (l ++ z ∷ [])) (fits (big ++ z ∷ [])) (end_fits (l ++ z ∷ []) (big ++ z ∷ []) (longer l big z h gs.0))
      (near (l ++ z ∷ []) (big ++ z ∷ []) r (longer l big z h gs.0) gs.1)
      (near (z ∷ []) (l ++ z ∷ []) r (last_one l z h.good_end gs.0) gs.1)
    where
      go : (bl bb : Bool) → (bb ≡ true → bl ≡ true) → Near (l ++ z ∷ []) (big ++ z ∷ []) r → Near (z ∷ []) (l ++ z ∷ []) r
          → (length (if bl then filled_from fits (l ++ z ∷ []) r else l ∷ filled_from fits (z ∷ []) r) ≤ length (if bb then filled_from fits (big ++ z ∷ []) r else big ∷ filled_from fits (z ∷ []) r))
          × (length (if bb then filled_from fits (big ++ z ∷ []) r else big ∷ filled_from fits (z ∷ []) r) ≤ suc (length (if bl then filled_from fits (l ++ z ∷ []) r else l ∷ filled_from fits (z ∷ []) r)))
      go true true i same other = same
      go true false i same other = (omega (arith, other.1), omega (arith, other.0))
      go false true i same other = absurd (true≢false (sym (i refl)))
      go false false i same other = (omega arith, omega arith)

  -- a line that stands adds at most one line
  begun : (line b : List A) → list_all good line ≡ true → list_all good b ≡ true → from line b ≤ suc (length (filled fits b))
  begun line [] h g = omega arith
  begun line (y ∷ b) h g =
      let gs = both-pass (good y) (list_all good b) g in
      go (fits (line ++ y ∷ [])) (near (y ∷ []) (line ++ y ∷ []) b (last_one line y h gs.0) gs.1)
    where
      go : (t : Bool) → Near (y ∷ []) (line ++ y ∷ []) b → length (if t then filled_from fits (line ++ y ∷ []) b else line ∷ filled_from fits (y ∷ []) b) ≤ suc (from (y ∷ []) b)
      go true n = n.1
      go false n = omega arith

  -- what fits on the line is taken, and the rest is filled at best as if it began anew
  taken : (line a b : List A) → list_all good line ≡ true → list_all good a ≡ true → list_all good b ≡ true → fits (line ++ a) ≡ true → from line (a ++ b) ≤ suc (length (filled fits b))
  taken line [] b h g k e = begun line b h k
  taken line (x ∷ a) b h g k e =
      let gs = both-pass (good x) (list_all good a) g in
      let more = all-append good line (x ∷ []) h (all-one good x gs.0) in
      let e2 : fits ((line ++ x ∷ []) ++ a) ≡ true = ap fits (append-assoc line (x ∷ []) a) ∙ e in
      go (fits (line ++ x ∷ [])) (c.without_last (line ++ x ∷ []) a more gs.1 e2) (taken (line ++ x ∷ []) a b more gs.1 k e2)
    where
      go : (t : Bool) → t ≡ true → from (line ++ x ∷ []) (a ++ b) ≤ suc (length (filled fits b)) → length (if t then filled_from fits (line ++ x ∷ []) (a ++ b) else line ∷ filled_from fits (x ∷ []) (a ++ b)) ≤ suc (length (filled fits b))
      go true e n = n
      go false e n = absurd (true≢false (sym e))

  -- No way of cutting the items into lines that fit has fewer lines.
  pub fewest : (lines : List (List A)) → list_all good (joined lines) ≡ true → list_all fits lines ≡ true → length (filled fits (joined lines)) ≤ length lines
  fewest [] g f = omega arith
  fewest ([] ∷ ls) g f = omega (arith, fewest ls g (both-pass (fits []) (list_all fits ls) f).1)
  fewest ((x ∷ a) ∷ ls) g f =
      let fs = both-pass (fits (x ∷ a)) (list_all fits ls) f in
      let gs = both-pass (good x) (list_all good (a ++ joined ls)) g in
      let parts = all-parts a (joined ls) gs.1 in
      omega (arith, taken (x ∷ []) a (joined ls) (all-one good x gs.0) parts.0 parts.1 fs.0, fewest ls parts.1 fs.1)
    where
      all-parts : (p q : List A) → list_all good (p ++ q) ≡ true → (list_all good p ≡ true) × (list_all good q ≡ true)
      all-parts [] q e = (refl, e)
      all-parts (x ∷ p) q e = let h = both-pass (good x) (list_all good (p ++ q)) e in let r = all-parts p q h.1 in (ap (λ (b : Bool). b && list_all good p) h.0 ∙ r.0, r.1)

-- ---- words

sum_good : (ws : List ℤ) → are_widths ws ≡ true → pos 0 ≤ℤ sum_of ws
sum_good [] e = omega (arith, ints)
sum_good (w ∷ ws) e = let h = both-pass (int_le (pos 0) w) (are_widths ws) e in let h0 : int_le (pos 0) w ≡ true = h.0 in omega (arith, ints, h0, sum_good ws h.1)

sum-append : (a b : List ℤ) → sum_of (a ++ b) ≡ sum_of a +ℤ sum_of b
sum-append [] b = omega (arith, ints)
sum-append (x ∷ a) b = omega (arith, ints, sum-append a b)

spaces : (space : ℤ) (m n : ℕ) → pos 0 ≤ℤ space → m ≤ n → (space *ℤ pos m) ≤ℤ (space *ℤ pos n)
spaces (pos s) m n h k = let p : s * m ≤ s * n = mul-le-mul_left s k in omega (arith, ints, p)
spaces (negsuc s) m n h k = absurd (omega (arith, ints))

-- a line is no wider than one with items before it or after it
wider : (space : ℤ) (a b : List ℤ) → pos 0 ≤ℤ space → are_widths a ≡ true → are_widths b ≡ true → (line_width space b ≤ℤ line_width space (a ++ b)) × (line_width space a ≤ℤ line_width space (a ++ b))
wider space a b h ga gb =
    let n : length (a ++ b) ≡ length a + length b = length-append a b in
    let first = spaces space (length b - 1) (length (a ++ b) - 1) h (omega arith) in
    let last = spaces space (length a - 1) (length (a ++ b) - 1) h (omega arith) in
    (omega (arith, ints, sum-append a b, sum_good a ga, first), omega (arith, ints, sum-append a b, sum_good b gb, last))

below_too : (x y w : ℤ) → x ≤ℤ y → int_le y w ≡ true → int_le x w ≡ true
below_too x y w h e = by (int_le x w) refl
  where
    by : (t : Bool) → int_le x w ≡ t → t ≡ true
    by true k = refl
    by false k = absurd (omega (arith, ints))

words_closed : (space width : ℤ) → pos 0 ≤ℤ space → IsClosed (int_le (pos 0)) (λ line. int_le (line_width space line) width)
words_closed space width h = record {
  without_first = λ p l gp gl e. below_too (line_width space l) (line_width space (p ++ l)) width (wider space p l h gp gl).0 e;
  without_last = λ l q gl gq e. below_too (line_width space l) (line_width space (l ++ q)) width (wider space l q h gl gq).1 e;
}

-- No way of cutting words into lines that fit has fewer lines than there are at this width.
pub words_fewest : (space width : ℤ) (words : List ℤ) → pos 0 ≤ℤ space → are_widths words ≡ true → AreFewest space width words (length (word_lines space width words))
words_fewest space width words h g lines cut =
    subst (λ (ws : List ℤ). length (word_lines space width ws) ≤ length lines) cut.whole
    (fewest (int_le (pos 0)) (λ line. int_le (line_width space line) width) (words_closed space width h) lines (ap are_widths cut.whole ∙ g) cut.fit)
