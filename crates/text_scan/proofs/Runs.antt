-- The token that bytes begin with, and the tokens after it.
use Rattle.std.proofs.Common.{◌≡◌, refl, ap, sym, ◌∙◌, ℕ, suc, ◌+◌, ◌<◌, ◌≤◌, Bool, true, false, not, ◌||◌, cond, List, [], ◌∷◌, length, drop, inl, inr, ◌⊎◌, arith, length-drop, get_or, drop-cons}
use Rattle.std.specs.List.{position_or_len}
use Rattle.std.proofs.lemmas.Bool.{cases_Bool, cond-true, cond-false}
use Rattle.std.proofs.lemmas.List.{drop-drop}
use Rattle.text_scan.specs.declared.token.Token.{Token}
use Rattle.text_scan.specs.Tokens.{is_space, is_mark, is_separator, token_at, word_from, tokens_from, front_length}
use Rattle.text_scan.proofs.Front.{position_or_len-le}

alone : (at : ℕ) (tokens : List Token) → word_from at false tokens ≡ token_at at (at + 1) ∷ tokens
alone at [] = refl
alone at (token ∷ tokens) = refl

-- a token that ends at `end`, and the tokens from there on
abbrev pub token_then : ℕ → ℕ → List ℕ → List Token
token_then at end rest = token_at at end ∷ tokens_from end rest

run_step : (t : Bool) (at c n : ℕ) (cs : List ℕ) → is_separator c ≡ t
    → (t ≡ false → tokens_from (at + 1) (c ∷ cs) ≡ token_then (at + 1) (at + 1 + 1 + n) (drop n cs))
    → word_from at (not t) (tokens_from (at + 1) (c ∷ cs)) ≡ token_then at (at + 1 + cond (not t) (1 + n) 0) (drop (cond (not t) (1 + n) 0) (c ∷ cs))
run_step true at c n cs e ih = alone at (tokens_from (at + 1) (c ∷ cs)) ∙ ap (λ (k : ℕ). token_then at k (c ∷ cs)) (omega arith)
run_step false at c n cs e ih =
    let end : at + 1 + 1 + n ≡ at + 1 + (1 + n) = omega arith in
    let cut : suc n ≡ 1 + n = omega arith in
    ap (word_from at true) (ih refl)
    ∙ ap (λ (k : ℕ). token_then at k (drop n cs)) end
    ∙ ap (λ (k : ℕ). token_then at (at + 1 + (1 + n)) (drop k (c ∷ cs))) cut

-- a byte of a word begins the longest run of such bytes
pub run : (at b : ℕ) (bs : List ℕ) → is_separator b ≡ false → tokens_from at (b ∷ bs) ≡ token_then at (at + 1 + position_or_len is_separator bs) (drop (position_or_len is_separator bs) bs)
run at b [] e = cond-false (is_separator b) _ _ e ∙ ap (λ (k : ℕ). token_at at k ∷ []) (omega arith)
run at b (c ∷ cs) e = cond-false (is_separator b) _ _ e
    ∙ run_step (is_separator c) at c (position_or_len is_separator cs) cs refl (λ f. run (at + 1) c cs f)

pub mark_separates : (b : ℕ) → is_mark b ≡ true → is_separator b ≡ true
mark_separates b m = ap (λ (t : Bool). is_space b || t) m ∙ or_true (is_space b)
  where
    or_true : (a : Bool) → (a || true) ≡ true
    or_true true = refl
    or_true false = refl

pub mark_first : (at b : ℕ) (bs : List ℕ) → is_mark b ≡ true → tokens_from at (b ∷ bs) ≡ token_then at (at + 1) bs
mark_first at b bs m = cond-true (is_separator b) _ _ (mark_separates b m) ∙ cond-true (is_mark b) _ _ m

pub space_first : (at b : ℕ) (bs : List ℕ) → is_mark b ≡ false → is_separator b ≡ true → tokens_from at (b ∷ bs) ≡ tokens_from (at + 1) bs
space_first at b bs m s = cond-true (is_separator b) _ _ s ∙ cond-false (is_mark b) _ _ m

-- the length of a token is that of its mark or its run
mark_length : (b : ℕ) (bs : List ℕ) → is_mark b ≡ true → 1 ≡ front_length (b ∷ bs)
mark_length b bs m = sym (cond-true (is_mark b) _ _ m)

word_length : (b : ℕ) (bs : List ℕ) → is_mark b ≡ false → is_separator b ≡ false → 1 + position_or_len is_separator bs ≡ front_length (b ∷ bs)
word_length b bs m s = sym (cond-false (is_mark b) _ _ m ∙ ap (λ (t : Bool). cond (not t) (1 + position_or_len is_separator bs) 0) s)

space_length : (b : ℕ) (bs : List ℕ) → is_mark b ≡ false → is_separator b ≡ true → 0 ≡ front_length (b ∷ bs)
space_length b bs m s = sym (cond-false (is_mark b) _ _ m ∙ ap (λ (t : Bool). cond (not t) (1 + position_or_len is_separator bs) 0) s)

pub record Kind (b : ℕ) : Type 0 where
  pub kind : (is_mark b ≡ true) ⊎ ((is_mark b ≡ false) × (is_separator b ≡ false) ⊎ (is_mark b ≡ false) × (is_separator b ≡ true))

pub kind_of : (b : ℕ) → Kind b
kind_of b = by_mark (cases_Bool (is_mark b)) (cases_Bool (is_separator b))
  where
    by_mark : (is_mark b ≡ true) ⊎ (is_mark b ≡ false) → (is_separator b ≡ true) ⊎ (is_separator b ≡ false) → Kind b
    by_mark (inl m) s = record { kind = inl m }
    by_mark (inr m) (inl s) = record { kind = inr (inr (m, s)) }
    by_mark (inr m) (inr s) = record { kind = inr (inl (m, s)) }

abbrev front_at : ℕ → List ℕ → ℕ → List Token
front_at at bytes n = token_then at (at + n) (drop n bytes)

pub token_front : (at : ℕ) (bytes : List ℕ) → 0 < front_length bytes → tokens_from at bytes ≡ front_at at bytes (front_length bytes)
token_front at [] h = absurd (omega arith)
token_front at (b ∷ bs) h = by_kind (kind_of b).kind
  where
    by_kind : (is_mark b ≡ true) ⊎ ((is_mark b ≡ false) × (is_separator b ≡ false) ⊎ (is_mark b ≡ false) × (is_separator b ≡ true)) → tokens_from at (b ∷ bs) ≡ front_at at (b ∷ bs) (front_length (b ∷ bs))
    by_kind (inl m) = mark_first at b bs m ∙ ap (front_at at (b ∷ bs)) (mark_length b bs m)
    by_kind (inr (inl (m, s))) =
        let end : at + 1 + position_or_len is_separator bs ≡ at + (1 + position_or_len is_separator bs) = omega arith in
        let cut : suc (position_or_len is_separator bs) ≡ 1 + position_or_len is_separator bs = omega arith in
        run at b bs s
        ∙ ap (λ (k : ℕ). token_then at k (drop (position_or_len is_separator bs) bs)) end
        ∙ ap (λ (k : ℕ). token_then at (at + (1 + position_or_len is_separator bs)) (drop k (b ∷ bs))) cut
        ∙ ap (front_at at (b ∷ bs)) (word_length b bs m s)
    by_kind (inr (inr (m, s))) = absurd (omega (arith, h, space_length b bs m s))

pub space_front : (at b : ℕ) (bs : List ℕ) → front_length (b ∷ bs) ≡ 0 → tokens_from at (b ∷ bs) ≡ tokens_from (at + 1) bs
space_front at b bs h = by_kind (kind_of b).kind
  where
    by_kind : (is_mark b ≡ true) ⊎ ((is_mark b ≡ false) × (is_separator b ≡ false) ⊎ (is_mark b ≡ false) × (is_separator b ≡ true)) → tokens_from at (b ∷ bs) ≡ tokens_from (at + 1) bs
    by_kind (inl m) = absurd (omega (arith, h, mark_length b bs m))
    by_kind (inr (inl (m, s))) = absurd (omega (arith, h, word_length b bs m s))
    by_kind (inr (inr (m, s))) = space_first at b bs m s

pub front_length-le : (bytes : List ℕ) → front_length bytes ≤ length bytes
front_length-le [] = omega arith
front_length-le (b ∷ bs) = by_kind (kind_of b).kind
  where
    by_kind : (is_mark b ≡ true) ⊎ ((is_mark b ≡ false) × (is_separator b ≡ false) ⊎ (is_mark b ≡ false) × (is_separator b ≡ true)) → front_length (b ∷ bs) ≤ suc (length bs)
    by_kind (inl m) = omega (arith, mark_length b bs m)
    by_kind (inr (inl (m, s))) = omega (arith, word_length b bs m s, position_or_len-le is_separator bs)
    by_kind (inr (inr (m, s))) = omega (arith, space_length b bs m s)

-- ---- the same at an index

pub next_within : (bytes : List ℕ) (at : ℕ) → at ≤ length bytes → at + front_length (drop at bytes) ≤ length bytes
next_within bytes at h = omega (arith, h, front_length-le (drop at bytes), length-drop at bytes)

pub next_token : (bytes : List ℕ) (at : ℕ) → 0 < front_length (drop at bytes) → tokens_from at (drop at bytes) ≡ token_then at (at + front_length (drop at bytes)) (drop (at + front_length (drop at bytes)) bytes)
next_token bytes at h = token_front at (drop at bytes) h ∙ ap (token_then at (at + front_length (drop at bytes))) (drop-drop (front_length (drop at bytes)) at bytes)

pub next_space : (bytes : List ℕ) (at : ℕ) → at < length bytes → front_length (drop at bytes) ≡ 0 → tokens_from at (drop at bytes) ≡ tokens_from (at + 1) (drop (at + 1) bytes)
next_space bytes at h e =
    let cut : drop at bytes ≡ get_or bytes at 0 ∷ drop (suc at) bytes = drop-cons bytes at 0 h in
    let next : suc at ≡ at + 1 = omega arith in
    ap (tokens_from at) cut ∙ space_front at (get_or bytes at 0) (drop (suc at) bytes) (ap front_length (sym cut) ∙ e) ∙ ap (λ (k : ℕ). tokens_from (at + 1) (drop k bytes)) next
