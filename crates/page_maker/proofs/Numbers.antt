-- The numbers below others, where the numbers below n are 8n + 1 to 8n + 8.
use Rattle.std.proofs.Common.{◌≡◌, subst, ℕ, zero, suc, ◌+◌, ◌-◌, ◌*◌, ◌<◌, ◌≤◌, ◌⊎◌, inl, inr, min, refl, arith}
use Rattle.std.proofs.lemmas.Bool.{cases_lt}

-- n is one of the numbers from a up to b, without b, or stands below one of them: in so many levels
abbrev pub Under : ℕ → ℕ → ℕ → ℕ → Type 0
Under zero a b n = ⊥
Under (suc levels) a b n = ((a ≤ n) × (n < b)) ⊎ Under levels (8 * a + 1) (8 * b + 1) n

pub not_before : (levels a b n : ℕ) → Under levels a b n → a ≤ n
not_before zero a b n u = absurd u
not_before (suc levels) a b n (inl h) = h.0
not_before (suc levels) a b n (inr u) = omega (arith, not_before levels (8 * a + 1) (8 * b + 1) n u)

pub wider : (levels a b c d n : ℕ) → a ≤ b → c ≤ d → Under levels b c n → Under levels a d n
wider zero a b c d n p q u = u
wider (suc levels) a b c d n p q (inl h) = inl (omega (arith, h.0), omega (arith, h.1))
wider (suc levels) a b c d n p q (inr u) = inr (wider levels (8 * a + 1) (8 * b + 1) (8 * c + 1) (8 * d + 1) n (omega arith) (omega arith) u)

pub none_under : (levels a n : ℕ) → Under levels a a n → ⊥
none_under zero a n u = u
none_under (suc levels) a n (inl h) = omega (arith, h.0, h.1)
none_under (suc levels) a n (inr u) = none_under levels (8 * a + 1) n u

-- what stands below siblings is apart
pub apart : (levels a b c n : ℕ) → a ≤ b → b ≤ c → c ≤ 8 * a + 1 → Under levels a b n → Under levels b c n → ⊥
apart zero a b c n p q r u v = u
apart (suc levels) a b c n p q r (inl h) (inl k) = omega (arith, h.1, k.0)
apart (suc levels) a b c n p q r (inl h) (inr v) = omega (arith, h.1, not_before levels (8 * b + 1) (8 * c + 1) n v)
apart (suc levels) a b c n p q r (inr u) (inl k) = omega (arith, k.1, r, not_before levels (8 * a + 1) (8 * b + 1) n u)
apart (suc levels) a b c n p q r (inr u) (inr v) = apart levels (8 * a + 1) (8 * b + 1) (8 * c + 1) n (omega arith) (omega arith) (omega arith) u v

pub split : (levels a b c n : ℕ) → a ≤ b → Under levels a c n → Under levels a b n ⊎ Under levels b c n
split zero a b c n p u = absurd u
split (suc levels) a b c n p (inl h) = by_order (cases_lt n b)
  where
    by_order : (n < b) ⊎ (b ≤ n) → Under (suc levels) a b n ⊎ Under (suc levels) b c n
    by_order (inl l) = inl (inl (h.0, l))
    by_order (inr l) = inr (inl (l, h.1))
split (suc levels) a b c n p (inr u) = by_side (split levels (8 * a + 1) (8 * b + 1) (8 * c + 1) n (omega arith) u)
  where
    by_side : Under levels (8 * a + 1) (8 * b + 1) n ⊎ Under levels (8 * b + 1) (8 * c + 1) n → Under (suc levels) a b n ⊎ Under (suc levels) b c n
    by_side (inl v) = inl (inr v)
    by_side (inr v) = inr (inr v)

-- a number below m stands below those before m
pub clipped : (levels a c m n : ℕ) → n < m → Under levels a c n → Under levels a (min c m) n
clipped zero a c m n p u = u
clipped (suc levels) a c m n p (inl h) = inl (h.0, omega (arith, h.1, p))
clipped (suc levels) a c m n p (inr u) =
    let same : min (8 * c + 1) (8 * m + 1) ≡ 8 * min c m + 1 = omega arith in
    inr (subst (λ (z : ℕ). Under levels (8 * a + 1) z n) same (clipped levels (8 * a + 1) (8 * c + 1) (8 * m + 1) n (omega arith) u))

-- each number stands in a level
pub next_level : (levels a b n : ℕ) → a ≤ n → (b ≤ n → Under levels (8 * a + 1) (8 * b + 1) n) → Under (suc levels) a b n
next_level levels a b n p f = by_order (cases_lt n b)
  where
    by_order : (n < b) ⊎ (b ≤ n) → Under (suc levels) a b n
    by_order (inl l) = inl (p, l)
    by_order (inr l) = inr (f l)

pub under_root : (n : ℕ) → n < 37449 → Under 6 0 1 n
under_root n h = next_level 5 0 1 n (omega arith) (λ a. next_level 4 1 9 n a (λ b. next_level 3 9 73 n b (λ c. next_level 2 73 585 n c (λ d. next_level 1 585 4681 n d (λ e. next_level 0 4681 37449 n e (λ f. omega (arith, f, h)))))))

-- ---- how many there are, where there are so many numbers in all

module _ (nodes : ℕ) where
  abbrev pub held : ℕ → ℕ → ℕ → ℕ
  held zero a b = 0
  held (suc levels) a b = (b - a) + held levels (min nodes (8 * a + 1)) (min nodes (8 * b + 1))

  pub held_none : (levels a : ℕ) → held levels a a ≡ 0
  held_none zero a = refl
  held_none (suc levels) a = omega (arith, held_none levels (min nodes (8 * a + 1)))

  pub held_both : (levels a b c : ℕ) → a ≤ b → b ≤ c → held levels a b + held levels b c ≡ held levels a c
  held_both zero a b c p q = refl
  held_both (suc levels) a b c p q = omega (arith, p, q, held_both levels (min nodes (8 * a + 1)) (min nodes (8 * b + 1)) (min nodes (8 * c + 1)) (omega arith) (omega arith))

  -- where the levels end
  abbrev pub end_of : ℕ → ℕ → ℕ
  end_of zero a = a
  end_of (suc levels) a = end_of levels (min nodes (8 * a + 1))

  pub held_to : (levels a : ℕ) → a ≤ nodes → held levels a (min nodes (8 * a + 1)) + a ≡ end_of levels a
  held_to zero a h = omega arith
  held_to (suc levels) a h = omega (arith, h, held_to levels (min nodes (8 * a + 1)) (omega arith))

  further : (k a : ℕ) → min nodes k ≤ a → min nodes (8 * k + 1) ≤ min nodes (8 * a + 1)
  further k a h = omega arith

  pub held_all : 0 < nodes → nodes ≤ 37449 → held 6 0 1 ≡ nodes
  held_all some few =
      let first : min nodes 1 ≡ 1 = omega arith in
      let a = min nodes 1 in
      let b = min nodes (8 * a + 1) in
      let c = min nodes (8 * b + 1) in
      let d = min nodes (8 * c + 1) in
      let e = min nodes (8 * d + 1) in
      let low : min nodes 37449 ≤ min nodes (8 * e + 1) = further 4681 e (further 585 d (further 73 c (further 9 b (further 1 a (omega arith))))) in
      let all : held 6 0 (min nodes 1) + 0 ≡ min nodes (8 * e + 1) = held_to 6 0 (omega arith) in
      subst (λ (z : ℕ). held 6 0 z ≡ nodes) first (omega (arith, low, all, few))
