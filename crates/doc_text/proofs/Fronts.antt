-- The front of bytes, and their end.
use Rattle.std.proofs.Common.{◌≡◌, ℕ, suc, ◌+◌, ◌<◌, Bool, true, false, not, cond, List, [], ◌∷◌, ◌++◌, take, if◌then◌else◌, refl, ap, sym, ◌∙◌, arith}
use Rattle.std.specs.List.{list_any, position_or_len}
use Rattle.std.proofs.lemmas.Bool.{or_parts}
use Rattle.text_scan.specs.Tokens.{is_space, is_mark, is_separator, is_comment_mark, before_comment, front_length}
use Rattle.text_scan.proofs.Runs.{mark_separates}
use Rattle.doc_text.specs.Texts.{trimmed}

-- spaces at the end are left out, one after another
pub trimmed-space : (bytes : List ℕ) (byte : ℕ) → is_space byte ≡ true → trimmed (bytes ++ byte ∷ []) ≡ trimmed bytes
trimmed-space [] byte h = rw h refl
trimmed-space (x ∷ bytes) byte h = rw (trimmed-space bytes byte h) refl

pub trimmed-other : (bytes : List ℕ) (byte : ℕ) → is_space byte ≡ false → trimmed (bytes ++ byte ∷ []) ≡ bytes ++ byte ∷ []
trimmed-other [] byte h = rw h refl
trimmed-other (x ∷ []) byte h = rw h refl
trimmed-other (x ∷ y ∷ bytes) byte h = rw (trimmed-other (y ∷ bytes) byte h) refl

pub ruleset trimming = (trimmed-space, trimmed-other)

-- ---- a word that comes first has the length of the token
pub front_word : (bytes : List ℕ) (n : ℕ) → n ≡ position_or_len is_separator bytes → 0 < n → n ≡ front_length bytes
front_word [] n e h = absurd (omega (arith, e, h))
front_word (b ∷ bs) n e h = by (is_mark b) refl
  where
    none : is_mark b ≡ true → n ≡ 0
    none m = e ∙ ap (λ (t : Bool). cond (not t) (1 + position_or_len is_separator bs) 0) (mark_separates b m)

    by : (mark : Bool) → is_mark b ≡ mark → n ≡ (if mark then 1 else position_or_len is_separator (b ∷ bs))
    by true m = absurd (omega (arith, none m, h))
    by false m = e

pub ruleset words = (front_word)

-- ---- where no comment begins, the bytes are all
pub without_comment : (bytes : List ℕ) → list_any is_comment_mark bytes ≡ false → bytes ≡ before_comment bytes
without_comment [] h = refl
without_comment (b ∷ bs) h =
    let parts = or_parts (is_comment_mark b) (list_any is_comment_mark bs) h in
    let one_more : 1 + position_or_len is_comment_mark bs ≡ suc (position_or_len is_comment_mark bs) = omega arith in
    ap (λ (xs : List ℕ). b ∷ xs) (without_comment bs parts.1)
    ∙ ap (λ (n : ℕ). take n (b ∷ bs)) (sym one_more)
    ∙ ap (λ (mark : Bool). take (cond (not mark) (1 + position_or_len is_comment_mark bs) 0) (b ∷ bs)) (sym parts.0)

pub ruleset comments = (without_comment)
