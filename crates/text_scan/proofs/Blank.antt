-- A line without tokens is a blank one.
use Rattle.std.proofs.Common.{◌≡◌, refl, ap, sym, ◌∙◌, ℕ, suc, ◌+◌, ◌↔◌, Bool, true, false, not, cond, ◌&&◌, ◌||◌, is_none, None, List, [], ◌∷◌, length, take, if◌then◌else◌, inl, inr, ◌⊎◌, arith}
use Rattle.std.specs.List.{list_all, position_or_len}
use Rattle.std.proofs.lemmas.Bool.{eqb-true, false≢true}
use Rattle.text_scan.specs.declared.line.Line.{Line}
use Rattle.text_scan.specs.declared.token.Token.{Token}
use Rattle.text_scan.specs.Tokens.{is_space, is_mark, is_separator, is_comment_mark, before_comment, tokens_from, tokens_of, is_skipped}
use Rattle.text_scan.proofs.Runs.{mark_first, run, space_first, kind_of}

both : (a b : Bool) → (a && b) ≡ true → (a ≡ true) × (b ≡ true)
both true b e = (refl, e)
both false b e = absurd (false≢true e)

either : (a b : Bool) → (a || b) ≡ true → b ≡ false → a ≡ true
either true b e n = refl
either false b e n = absurd (false≢true (sym n ∙ e))

-- a space is no mark
space_unmarked : (b : ℕ) → is_space b ≡ true → is_mark b ≡ false
space_unmarked b s = ap is_mark (eqb-true b 32 s)

no_tokens : (at : ℕ) (bytes : List ℕ) → list_all is_space bytes ≡ true → tokens_from at bytes ≡ []
no_tokens at [] h = refl
no_tokens at (b ∷ bs) h =
    let parts = both (is_space b) (list_all is_space bs) h in
    space_first at b bs (space_unmarked b parts.0) (ap (λ (t : Bool). t || is_mark b) parts.0) ∙ no_tokens (at + 1) bs parts.1

not_empty : (token : Token) (tokens : List Token) → token ∷ tokens ≡ [] → ⊥
not_empty token tokens e = omega (arith, ap (λ (ts : List Token). length ts) e)

blank : (at : ℕ) (bytes : List ℕ) → tokens_from at bytes ≡ [] → list_all is_space bytes ≡ true
blank at [] h = refl
blank at (b ∷ bs) h = by_kind (blank (at + 1) bs) (kind_of b).kind
  where
    by_kind : (tokens_from (at + 1) bs ≡ [] → list_all is_space bs ≡ true) → (is_mark b ≡ true) ⊎ ((is_mark b ≡ false) × (is_separator b ≡ false) ⊎ (is_mark b ≡ false) × (is_separator b ≡ true)) → list_all is_space (b ∷ bs) ≡ true
    by_kind later (inl m) = absurd (not_empty _ _ (sym (mark_first at b bs m) ∙ h))
    by_kind later (inr (inl (m, s))) = absurd (not_empty _ _ (sym (run at b bs s) ∙ h))
    by_kind later (inr (inr (m, s))) = ap (λ (t : Bool). t && list_all is_space bs) (either (is_space b) (is_mark b) s m) ∙ later (sym (space_first at b bs m s) ∙ h)

pub skipped_tokens : (line : Line) (tokens : List Token) → line.fault ≡ None → tokens ≡ tokens_of line.bytes → (tokens ≡ []) ↔ (is_skipped line ≡ true)
skipped_tokens line tokens good e =
    let bytes = before_comment line.bytes in
    let test : is_skipped line ≡ list_all is_space bytes = ap (λ f. is_none f && list_all is_space bytes) good in
    ((λ none. test ∙ blank 0 bytes (sym e ∙ none)), (λ skip. e ∙ no_tokens 0 bytes (sym test ∙ skip)))

-- ---- the first byte of a line

-- by what it is
by_first : (byte : ℕ) (bytes : List ℕ) → list_all is_space (before_comment (byte ∷ bytes)) ≡ (if is_comment_mark byte then true else is_space byte && list_all is_space (before_comment bytes))
by_first byte bytes = by (is_comment_mark byte)
  where
    rest : ℕ
    rest = position_or_len is_comment_mark bytes

    one_more : 1 + rest ≡ suc rest
    one_more = omega arith

    by : (mark : Bool) → list_all is_space (take (cond (not mark) (1 + rest) 0) (byte ∷ bytes)) ≡ (if mark then true else is_space byte && list_all is_space (take rest bytes))
    by true = refl
    by false = ap (λ (n : ℕ). list_all is_space (take n (byte ∷ bytes))) one_more

-- a space is no comment, so what follows it decides
blank_space : (byte : ℕ) (bytes : List ℕ) → is_space byte ≡ true → list_all is_space (before_comment bytes) ≡ list_all is_space (before_comment (byte ∷ bytes))
blank_space byte bytes s =
    let plain : is_comment_mark byte ≡ false = ap is_comment_mark (eqb-true byte 32 s) in
    sym (
    by_first byte bytes
    ∙ ap (λ (mark : Bool). if mark then true else is_space byte && list_all is_space (before_comment bytes)) plain
    ∙ ap (λ (t : Bool). t && list_all is_space (before_comment bytes)) s)

-- another byte decides
blank_other : (byte : ℕ) (bytes : List ℕ) → is_space byte ≡ false → is_comment_mark byte ≡ list_all is_space (before_comment (byte ∷ bytes))
blank_other byte bytes s =
    sym (
    by_first byte bytes
    ∙ ap (λ (t : Bool). if is_comment_mark byte then true else t && list_all is_space (before_comment bytes)) s
    ∙ same (is_comment_mark byte))
  where
    same : (mark : Bool) → (if mark then true else false && list_all is_space (before_comment bytes)) ≡ mark
    same true = refl
    same false = refl

-- what is left of a line has the same answer as the line
abbrev pub IsBlankAs : List ℕ → List ℕ → Type 0
IsBlankAs left bytes = list_all is_space (before_comment left) ≡ list_all is_space (before_comment bytes)

pub left_space : (bytes left rest : List ℕ) (byte : ℕ) → IsBlankAs left bytes → left ≡ byte ∷ rest → is_space byte ≡ true → IsBlankAs rest bytes
left_space bytes left rest byte i e s = blank_space byte rest s ∙ ap (λ (l : List ℕ). list_all is_space (before_comment l)) (sym e) ∙ i

pub left_other : (bytes left rest : List ℕ) (byte : ℕ) (mark : Bool) → IsBlankAs left bytes → left ≡ byte ∷ rest → is_space byte ≡ false → mark ≡ is_comment_mark byte → mark ≡ list_all is_space (before_comment bytes)
left_other bytes left rest byte mark i e s m = m ∙ blank_other byte rest s ∙ ap (λ (l : List ℕ). list_all is_space (before_comment l)) (sym e) ∙ i

pub left_none : (bytes left : List ℕ) → IsBlankAs left bytes → length left ≡ 0 → true ≡ list_all is_space (before_comment bytes)
left_none bytes [] i e = i
left_none bytes (byte ∷ left) i e = absurd (omega (arith, e))

pub ruleset blank_fronts = (left_space, left_other, left_none)
