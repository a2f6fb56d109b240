-- When a line is due, and how long it is.
use Rattle.std.proofs.Common.{◌≡◌, refl, ap, sym, subst, ◌∙◌, ℕ, zero, suc, ◌<◌, ◌≤◌, Bool, true, false, not, ◌&&◌, ◌||◌, cond, eqb, List, length, Option, Some, None, MatchOption, inl, inr, ◌⊎◌, arith}
use Rattle.std.specs.List.{position_or_len}
use Rattle.std.proofs.lemmas.Bool.{cases_lt, cases_Bool, cond-true, lt-ltb, le-ltb, false≢true}
use Rattle.text_scan.specs.Lines.{is_line_feed, has_line_feed}
use Rattle.text_scan.specs.Stream.{is_empty, is_line_due, due_length}
use Rattle.text_scan.proofs.Front.{position_or_len-le, list_any_is}

pub feed_held : (held : List ℕ) → position_or_len is_line_feed held < length held → has_line_feed held ≡ true
feed_held held h = list_any_is is_line_feed held ∙ lt-ltb _ _ h

pub no_feed_held : (held : List ℕ) → position_or_len is_line_feed held ≡ length held → has_line_feed held ≡ false
no_feed_held held h = list_any_is is_line_feed held ∙ le-ltb _ _ (omega (arith, h))

pub due_by_feed : (ended : Bool) (held : List ℕ) → position_or_len is_line_feed held < length held → is_line_due ended held ≡ true
due_by_feed ended held h = ap (λ (b : Bool). b || (ended && not (is_empty held))) (feed_held held h)

pub due_at_end : (ended : Bool) (held : List ℕ) → position_or_len is_line_feed held ≡ length held → is_line_due ended held ≡ (ended && not (is_empty held))
due_at_end ended held h = ap (λ (b : Bool). b || (ended && not (is_empty held))) (no_feed_held held h)

-- the length of the line that is due, where the held bytes have a line feed
pub length_by_feed : (ended : Bool) (held : List ℕ) → position_or_len is_line_feed held < length held → Some (position_or_len is_line_feed held) ≡ due_length ended held
length_by_feed ended held h = sym (cond-true (is_line_due ended held) _ _ (due_by_feed ended held h))

-- the length of the line that is due, where the held bytes have no line feed
pub length_at_end : (ended : Bool) (held : List ℕ) → position_or_len is_line_feed held ≡ length held → cond (ended && not (is_empty held)) (Some (length held)) None ≡ due_length ended held
length_at_end ended held h = ap (λ (n : ℕ). cond (ended && not (is_empty held)) (Some n) None) (sym h) ∙ ap (λ (b : Bool). cond b (Some (position_or_len is_line_feed held)) None) (sym (due_at_end ended held h))

-- what the length tells
pub record LineIsDue (ended : Bool) (held : List ℕ) (end : ℕ) : Type 0 where
  pub due : is_line_due ended held ≡ true
  pub at_feed : end ≡ position_or_len is_line_feed held
  pub some : 0 < length held

pub record NoneIsDue (ended : Bool) (held : List ℕ) : Type 0 where
  pub none : is_line_due ended held ≡ false
  pub no_feed : position_or_len is_line_feed held ≡ length held

pub some_held : (a : Bool) (n : ℕ) → (a && not (eqb n 0)) ≡ true → 0 < n
some_held a (suc n) e = omega arith
some_held true zero e = absurd (false≢true e)
some_held false zero e = absurd (false≢true e)

pub due_cases : (ended : Bool) (held : List ℕ) (r : Option ℕ) → r ≡ due_length ended held → MatchOption r (NoneIsDue ended held) (LineIsDue ended held)
due_cases ended held r e = by_cases (cases_lt (position_or_len is_line_feed held) (length held))
  where
    result_is : (s : Option ℕ) → s ≡ due_length ended held → MatchOption s (NoneIsDue ended held) (LineIsDue ended held) → MatchOption r (NoneIsDue ended held) (LineIsDue ended held)
    result_is s q m = subst (λ (o : Option ℕ). MatchOption o (NoneIsDue ended held) (LineIsDue ended held)) (q ∙ sym e) m

    at_end : position_or_len is_line_feed held ≡ length held → ((ended && not (is_empty held)) ≡ true) ⊎ ((ended && not (is_empty held)) ≡ false) → MatchOption r (NoneIsDue ended held) (LineIsDue ended held)
    at_end same (inl t) = result_is (Some (length held)) (ap Some (sym same) ∙ sym (cond-true (is_line_due ended held) _ _ (due_at_end ended held same ∙ t))) (record { due = due_at_end ended held same ∙ t; at_feed = sym same; some = some_held ended (length held) t })
    at_end same (inr f) = result_is None (ap (λ (b : Bool). cond b (Some (length held)) None) (sym f) ∙ length_at_end ended held same) (record { none = due_at_end ended held same ∙ f; no_feed = same })

    by_cases : (position_or_len is_line_feed held < length held) ⊎ (length held ≤ position_or_len is_line_feed held) → MatchOption r (NoneIsDue ended held) (LineIsDue ended held)
    by_cases (inl lt) = result_is (Some (position_or_len is_line_feed held)) (length_by_feed ended held lt) (record { due = due_by_feed ended held lt; at_feed = refl; some = omega arith })
    by_cases (inr ge) = at_end (omega (arith, position_or_len-le is_line_feed held)) (cases_Bool (ended && not (is_empty held)))
