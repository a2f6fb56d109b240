-- Bytes that may not stand in a line.
use Rattle.std.proofs.Common.{◌≡◌, ap, sym, ◌∙◌, ℕ, ◌+◌, ◌<◌, Bool, true, false, not, ltb, ◌||◌, List, [], ◌∷◌, length, take, get_or, None, refl}
use Rattle.std.specs.List.{list_any, position, position_or_len}
use Rattle.std.proofs.lemmas.Bool.{cond-false}
use Rattle.std.proofs.lemmas.List.{take_more}
use Rattle.std.proofs.lemmas.List.Folds.{list_any-append}
use Rattle.text_scan.specs.Lines.{is_printable}
use Rattle.text_scan.proofs.Front.{list_any_is}

abbrev is_bad : ℕ → Bool
is_bad byte = not (is_printable byte)

or_none : (a b : Bool) → (a || (b || false)) ≡ (a || b)
or_none true b = refl
or_none false true = refl
or_none false false = refl

-- one byte more
pub bad_more : (bytes : List ℕ) (i d : ℕ) (bad last more : Bool) → i < length bytes → bad ≡ list_any (λ byte. not (is_printable byte)) (take i bytes) → last ≡ not (is_printable (get_or bytes i d)) → more ≡ (bad || last) → more ≡ list_any (λ byte. not (is_printable byte)) (take (i + 1) bytes)
bad_more bytes i d bad last more h e f g =
    g
    ∙ ap (λ (b : Bool). b || last) e
    ∙ ap (λ (b : Bool). list_any is_bad (take i bytes) || b) f
    ∙ sym (ap (list_any is_bad) (take_more bytes i d h) ∙ list_any-append is_bad (take i bytes) (get_or bytes i d ∷ []) ∙ or_none (list_any is_bad (take i bytes)) (is_bad (get_or bytes i d)))

-- where there is none, none is the first
pub bad_nowhere : (bytes : List ℕ) → list_any (λ byte. not (is_printable byte)) bytes ≡ false → None ≡ position (λ byte. not (is_printable byte)) bytes
bad_nowhere bytes h = sym (cond-false (ltb (position_or_len is_bad bytes) (length bytes)) _ _ (sym (list_any_is is_bad bytes) ∙ h))

pub ruleset bad_bytes = (bad_more, bad_nowhere)
