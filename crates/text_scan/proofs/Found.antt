-- The tokens that are found from the front on are all tokens.
use Rattle.std.proofs.Common.{◌≡◌, refl, ap, sym, subst, ◌∙◌, ℕ, zero, suc, ◌+◌, ◌-◌, ◌<◌, ◌≤◌, Bool, true, false, List, [], ◌∷◌, length, drop, get_or, inl, inr, ◌⊎◌, arith, length-drop, drop-cons}
use Rattle.std.specs.List.{position_or_len, Contains, AllPairs}
use Rattle.std.proofs.lemmas.Bool.{cases_lt, false≢true}
use Rattle.std.proofs.lemmas.List.{drop-drop, drop_all, get_or-drop}
use Rattle.std.proofs.lemmas.List.Elements.{Contains-append_left, Contains-append_right, Contains-append_cases, Contains-push, Contains-push_cases, All-contains_itself, All-weaker}
use Rattle.std.proofs.lemmas.List.Kept.{AllPairs-cons}
use Rattle.std.proofs.lemmas.List.Sums.{fails_before_first, passes_at_first}
use Rattle.text_scan.specs.declared.token.Token.{Token}
use Rattle.text_scan.specs.Tokens.{is_mark, is_separator, token_at, tokens_from, IsMarkToken, IsWordToken, IsToken, AreTokens}
use Rattle.text_scan.proofs.Front.{position_or_len-le}
use Rattle.text_scan.proofs.Runs.{token_then, mark_separates, mark_first, run, space_first, kind_of}

clash : (b : Bool) → b ≡ true → b ≡ false → ⊥
clash b p q = false≢true (sym q ∙ p)

abbrev Ordered : Token → Token → Type 0
Ordered a b = a.end ≤ b.start

-- ---- one token more at the front

contains_cons : (first : Token) (tokens : List Token) (t : Token) → Contains (first ∷ tokens) t → (first ≡ t) ⊎ Contains tokens t
contains_cons first tokens t h = by_append (Contains-append_cases (first ∷ []) tokens t h)
  where
    by_push : Contains [] t ⊎ (first ≡ t) → (first ≡ t) ⊎ Contains tokens t
    by_push (inl none) = absurd (omega (arith, none.1))
    by_push (inr e) = inl e

    by_append : Contains (first ∷ []) t ⊎ Contains tokens t → (first ≡ t) ⊎ Contains tokens t
    by_append (inl one) = by_push (Contains-push_cases [] first t one)
    by_append (inr rest) = inr rest

-- the tokens from an index on
record Found (xs : List ℕ) (at : ℕ) (tokens : List Token) : Type 0 where
  pub sound : (t : Token) → Contains tokens t → IsToken xs t × (at ≤ t.start)
  pub whole : (t : Token) → IsToken xs t → at ≤ t.start → Contains tokens t
  pub ordered : AllPairs Ordered tokens

found_cons : (xs : List ℕ) (at end : ℕ) (tokens : List Token) → at < end → IsToken xs (token_at at end)
    → ((t : Token) → IsToken xs t → at ≤ t.start → t.start < end → token_at at end ≡ t) → Found xs end tokens → Found xs at (token_at at end ∷ tokens)
found_cons xs at end tokens some is only rest = record {
  sound = λ t h. sound_of t (contains_cons (token_at at end) tokens t h);
  whole = λ t h low. whole_of t h low (cases_lt t.start end);
  ordered = AllPairs-cons Ordered (token_at at end) tokens
      (All-weaker (Contains tokens) (Ordered (token_at at end)) (λ t h. (rest.sound t h).1) tokens (All-contains_itself tokens)) rest.ordered;
}
  where
    sound_of : (t : Token) → (token_at at end ≡ t) ⊎ Contains tokens t → IsToken xs t × (at ≤ t.start)
    sound_of t (inl e) = subst (λ (u : Token). IsToken xs u × (at ≤ u.start)) e (is, omega arith)
    sound_of t (inr h) = ((rest.sound t h).0, omega (arith, (rest.sound t h).1, some))

    whole_of : (t : Token) → IsToken xs t → at ≤ t.start → (t.start < end) ⊎ (end ≤ t.start) → Contains (token_at at end ∷ tokens) t
    whole_of t h low (inl lt) = subst (Contains (token_at at end ∷ tokens)) (only t h low lt) (Contains-append_left (token_at at end ∷ []) tokens (token_at at end) (Contains-push [] (token_at at end)))
    whole_of t h low (inr ge) = Contains-append_right (token_at at end ∷ []) tokens t (rest.whole t h ge)

-- an index that no token begins at is passed over
found_skip : (xs : List ℕ) (at : ℕ) (tokens : List Token) → ((t : Token) → IsToken xs t → t.start ≡ at → ⊥) → Found xs (at + 1) tokens → Found xs at tokens
found_skip xs at tokens none rest = record {
  sound = λ t h. ((rest.sound t h).0, omega (arith, (rest.sound t h).1));
  whole = λ t h low. whole_of t h low (cases_lt at t.start);
  ordered = rest.ordered;
}
  where
    whole_of : (t : Token) → IsToken xs t → at ≤ t.start → (at < t.start) ⊎ (t.start ≤ at) → Contains tokens t
    whole_of t h low (inl lt) = rest.whole t h (omega arith)
    whole_of t h low (inr ge) = absurd (none t h (omega arith))

-- nothing stands past the end
found_end : (xs : List ℕ) (at : ℕ) → length xs ≤ at → Found xs at []
found_end xs at past = record {
  sound = λ t h. absurd (omega (arith, h.1));
  whole = λ t h low. absurd (late t h low);
  ordered = λ i j d lt within. absurd (omega (arith, within));
}
  where
    late : (t : Token) → IsToken xs t → at ≤ t.start → ⊥
    late t (inl m) low = omega (arith, m.within, past, low)
    late t (inr w) low = omega (arith, w.some, w.within, past, low)

-- ---- which token stands at an index

-- no word goes over the index
abbrev IsBoundary : List ℕ → ℕ → Type 0
IsBoundary xs at = (k : ℕ) → k + 1 ≡ at → at < length xs → is_separator (get_or xs at 0) ≡ false → is_separator (get_or xs k 0) ≡ true

at_index : (xs : List ℕ) (i j : ℕ) → i ≡ j → is_separator (get_or xs i 0) ≡ is_separator (get_or xs j 0)
at_index xs i j e = ap (λ (k : ℕ). is_separator (get_or xs k 0)) e

-- where a separator stands no word begins
no_word : (xs : List ℕ) (at : ℕ) (t : Token) → is_separator (get_or xs at 0) ≡ true → IsWordToken xs t → t.start ≡ at → ⊥
no_word xs at t s w e = clash _ (at_index xs t.start at e ∙ s) (w.run t.start (omega arith) w.some)

no_mark : (xs : List ℕ) (k : ℕ) (t : Token) → is_separator (get_or xs t.start 0) ≡ false → IsMarkToken xs t → ⊥
no_mark xs k t s m = clash _ (mark_separates (get_or xs t.start 0) m.mark) s

mark_only : (xs : List ℕ) (at : ℕ) → is_mark (get_or xs at 0) ≡ true → (t : Token) → IsToken xs t → at ≤ t.start → t.start < at + 1 → token_at at (at + 1) ≡ t
mark_only xs at m t (inl is) low high =
    let start : at ≡ t.start = omega arith in
    let end : at + 1 ≡ t.end = omega (arith, is.one, start) in
    λ i. record { start = start i; end = end i }
mark_only xs at m t (inr w) low high = absurd (no_word xs at t (mark_separates (get_or xs at 0) m) w (omega arith))

space_none : (xs : List ℕ) (at : ℕ) → is_mark (get_or xs at 0) ≡ false → is_separator (get_or xs at 0) ≡ true → (t : Token) → IsToken xs t → t.start ≡ at → ⊥
space_none xs at m s t (inl is) e = clash _ is.mark (ap (λ (k : ℕ). is_mark (get_or xs k 0)) e ∙ m)
space_none xs at m s t (inr w) e = no_word xs at t s w e

word_only : (xs : List ℕ) (at end : ℕ) → IsWordToken xs (token_at at end) → (t : Token) → IsToken xs t → at ≤ t.start → t.start < end → token_at at end ≡ t
word_only xs at end is t (inl m) low high = absurd (no_mark xs at t (is.run t.start low high) m)
word_only xs at end is t (inr w) low high = by_start (cases_lt at t.start)
  where
    by_end : at ≡ t.start → (t.end < end) ⊎ (end ≤ t.end) → (end < t.end) ⊎ (t.end ≤ end) → token_at at end ≡ t
    by_end start (inl lt) other = absurd (clash _ (w.after (omega (arith, lt, is.within))) (is.run t.end (omega (arith, start, w.some)) lt))
    by_end start (inr ge) (inl lt) = absurd (clash _ (is.after (omega (arith, lt, w.within))) (w.run end (omega (arith, start, is.some)) lt))
    by_end start (inr ge) (inr le) =
        let same : end ≡ t.end = omega arith in
        λ i. record { start = start i; end = same i }

    by_start : (at < t.start) ⊎ (t.start ≤ at) → token_at at end ≡ t
    by_start (inl lt) = absurd (clash _ (w.before (t.start - 1) (omega (arith, lt))) (is.run (t.start - 1) (omega (arith, lt)) (omega (arith, lt, high))))
    by_start (inr ge) = by_end (omega arith) (cases_lt t.end end) (cases_lt end t.end)

-- the longest run that begins at a boundary
abbrev run_end : List ℕ → ℕ → ℕ
run_end xs at = at + 1 + position_or_len is_separator (drop (suc at) xs)

in_tail : (xs : List ℕ) (at j k : ℕ) → k ≡ suc at + j → is_separator (get_or xs k 0) ≡ is_separator (get_or (drop (suc at) xs) j 0)
in_tail xs at j k e = at_index xs k (suc at + j) e ∙ ap is_separator (sym (get_or-drop (suc at) xs j 0))

word_token : (xs : List ℕ) (at : ℕ) → at < length xs → is_separator (get_or xs at 0) ≡ false → IsBoundary xs at → IsWordToken xs (token_at at (run_end xs at))
word_token xs at h s b = record {
  some = omega arith;
  within = omega (arith, h, position_or_len-le is_separator (drop (suc at) xs), length-drop (suc at) xs);
  run = λ k low high. run_of k low high (cases_lt at k);
  before = λ k e. b k e h s;
  after = λ more. in_tail xs at (position_or_len is_separator (drop (suc at) xs)) (run_end xs at) (omega arith)
      ∙ passes_at_first is_separator (drop (suc at) xs) 0 (omega (arith, more, length-drop (suc at) xs));
}
  where
    run_of : (k : ℕ) → at ≤ k → k < run_end xs at → (at < k) ⊎ (k ≤ at) → is_separator (get_or xs k 0) ≡ false
    run_of k low high (inl lt) = in_tail xs at (k - suc at) k (omega (arith, lt)) ∙ fails_before_first is_separator (drop (suc at) xs) (k - suc at) 0 (omega (arith, lt, high))
    run_of k low high (inr ge) = at_index xs k at (omega arith) ∙ s

after_separator : (xs : List ℕ) (at : ℕ) → is_separator (get_or xs at 0) ≡ true → IsBoundary xs (at + 1)
after_separator xs at s k e h f = at_index xs k at (omega (arith, e)) ∙ s

after_word : (xs : List ℕ) (at end : ℕ) → IsWordToken xs (token_at at end) → IsBoundary xs end
after_word xs at end w k e h f = absurd (clash _ (w.after h) f)

-- ---- all tokens from an index on

tail_at : (xs : List ℕ) (at : ℕ) → drop (suc at) xs ≡ drop (at + 1) xs
tail_at xs at =
    let next : suc at ≡ at + 1 = omega arith in
    ap (λ (k : ℕ). drop k xs) next

mark_next : (xs : List ℕ) (at : ℕ) → at < length xs → is_mark (get_or xs at 0) ≡ true → tokens_from at (drop at xs) ≡ token_then at (at + 1) (drop (at + 1) xs)
mark_next xs at h m = ap (tokens_from at) (drop-cons xs at 0 h) ∙ mark_first at (get_or xs at 0) (drop (suc at) xs) m ∙ ap (token_then at (at + 1)) (tail_at xs at)

space_next : (xs : List ℕ) (at : ℕ) → at < length xs → is_mark (get_or xs at 0) ≡ false → is_separator (get_or xs at 0) ≡ true → tokens_from at (drop at xs) ≡ tokens_from (at + 1) (drop (at + 1) xs)
space_next xs at h m s = ap (tokens_from at) (drop-cons xs at 0 h) ∙ space_first at (get_or xs at 0) (drop (suc at) xs) m s ∙ ap (tokens_from (at + 1)) (tail_at xs at)

word_next : (xs : List ℕ) (at : ℕ) → at < length xs → is_separator (get_or xs at 0) ≡ false → tokens_from at (drop at xs) ≡ token_then at (run_end xs at) (drop (run_end xs at) xs)
word_next xs at h s =
    let p = position_or_len is_separator (drop (suc at) xs) in
    let end : suc at + p ≡ run_end xs at = omega arith in
    ap (tokens_from at) (drop-cons xs at 0 h) ∙ run at (get_or xs at 0) (drop (suc at) xs) s
    ∙ ap (token_then at (run_end xs at)) (drop-drop p (suc at) xs ∙ ap (λ (k : ℕ). drop k xs) end)

found_past : (xs : List ℕ) (at : ℕ) → length xs ≤ at → Found xs at (tokens_from at (drop at xs))
found_past xs at h = subst (Found xs at) (sym (ap (tokens_from at) (drop_all at xs h))) (found_end xs at h)

found : (fuel : ℕ) (xs : List ℕ) (at : ℕ) → length xs ≤ at + fuel → IsBoundary xs at → Found xs at (tokens_from at (drop at xs))
found zero xs at h b = found_past xs at (omega arith)
found (suc fuel) xs at h b = by_end (found fuel xs) (cases_lt at (length xs))
  where
    by_kind : ((next : ℕ) → length xs ≤ next + fuel → IsBoundary xs next → Found xs next (tokens_from next (drop next xs)))
        → at < length xs → (is_mark (get_or xs at 0) ≡ true) ⊎ ((is_mark (get_or xs at 0) ≡ false) × (is_separator (get_or xs at 0) ≡ false) ⊎ (is_mark (get_or xs at 0) ≡ false) × (is_separator (get_or xs at 0) ≡ true)) → Found xs at (tokens_from at (drop at xs))
    by_kind later lt (inl m) = subst (Found xs at) (sym (mark_next xs at lt m))
        (found_cons xs at (at + 1) _ (omega arith) (inl (record { within = lt; mark = m; one = refl })) (mark_only xs at m)
        (later (at + 1) (omega arith) (after_separator xs at (mark_separates (get_or xs at 0) m))))
    by_kind later lt (inr (inl (m, s))) =
        let word = word_token xs at lt s b in
        subst (Found xs at) (sym (word_next xs at lt s))
        (found_cons xs at (run_end xs at) _ word.some (inr word) (word_only xs at (run_end xs at) word)
        (later (run_end xs at) (omega arith) (after_word xs at (run_end xs at) word)))
    by_kind later lt (inr (inr (m, s))) = subst (Found xs at) (sym (space_next xs at lt m s))
        (found_skip xs at _ (space_none xs at m s) (later (at + 1) (omega arith) (after_separator xs at s)))

    by_end : ((next : ℕ) → length xs ≤ next + fuel → IsBoundary xs next → Found xs next (tokens_from next (drop next xs))) → (at < length xs) ⊎ (length xs ≤ at) → Found xs at (tokens_from at (drop at xs))
    by_end later (inl lt) = by_kind later lt (kind_of (get_or xs at 0)).kind
    by_end later (inr ge) = found_past xs at ge

pub all_tokens : (bytes : List ℕ) → AreTokens bytes (tokens_from 0 bytes)
all_tokens bytes =
    let all = found (length bytes) bytes 0 (omega arith) (λ k e h f. absurd (omega (arith, e))) in
    record {
      each = λ t. ((λ h. (all.sound t h).0), (λ h. all.whole t h (omega arith)));
      ordered = all.ordered;
    }
