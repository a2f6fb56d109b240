-- Sets of names after `subgrid`.
use Rattle.std.proofs.Common.{◌≡◌, ℕ, zero, suc, ◌≤◌, true, false, List, [], ◌∷◌, ◌++◌, take, drop, length, ap, refl, arith, Option, Some, None, codes}
use Rattle.std.specs.Option.{option_map}
use Rattle.std.specs.Str.{bytes_eq}
use Rattle.track_text.specs.Words.{Word, bind, past, front, up_to, rest_up_to, all_from}
use Rattle.track_text.specs.NameSets.{name_first, names_after}
use Rattle.track_text.specs.Templates.{distinct_read, set_first, sets_or_none, sets_after, set_repeat_after, set_once, sets_first, sets_of, subgrid_of}

-- ---- forms

named_past : (words : List Word) (read : Option (List Word × ℕ)) → option_map (past words) (option_map distinct_read read) ≡ option_map distinct_read (option_map (past words) read)
named_past words None = refl
named_past words (Some read) = refl

pub set_named : (word : Word) (words : List Word) → bytes_eq word (codes "[") ≡ true → front set_first (word ∷ words) ≡ option_map distinct_read (rest_up_to (codes "]") name_first words)
unfolding front rest_up_to
set_named word words h = rw h (named_past words (names_after words))

pub set_none : (word : Word) (words : List Word) → bytes_eq word (codes "[") ≡ false → front set_first (word ∷ words) ≡ None
unfolding front
set_none word words h = rw h refl

some_by : (words : List Word) (sets : List (List Word)) (count : ℕ) → option_map (past words) (sets_or_none (sets, count)) ≡ sets_or_none (sets, drop count words)
some_by words [] count = refl
some_by words (set ∷ sets) count = refl

some_past : (words : List Word) (read : Option (List (List Word) × ℕ)) → option_map (past words) (bind read sets_or_none) ≡ bind (option_map (past words) read) sets_or_none
some_past words None = refl
some_past words (Some read) = some_by words read.0 read.1

pub some_sets : (words : List Word) → option_map (past words) (sets_after words) ≡ bind (rest_up_to (codes ")") set_first words) sets_or_none
unfolding rest_up_to
some_sets words = some_past words (up_to (codes ")") set_first 0 words)

pub set_repeat : (word : Word) (words : List Word) → bytes_eq word (codes "repeat") ≡ true → front sets_first (word ∷ words) ≡ option_map (past words) (set_repeat_after words)
unfolding front
set_repeat word words h = rw h refl

once_past : (words : List Word) (read : Option (List Word × ℕ)) → option_map (past words) (option_map set_once read) ≡ option_map set_once (option_map (past words) read)
once_past words None = refl
once_past words (Some read) = refl

pub set_single : (word : Word) (words : List Word) → bytes_eq word (codes "repeat") ≡ false → front sets_first (word ∷ words) ≡ option_map set_once (front set_first (word ∷ words))
unfolding front
set_single word words h = rw h (once_past words (set_first (word ∷ words)))

pub subgrid_parts : (words : List Word) → subgrid_of words ≡ option_map (λ parts. take 20001 (sets_of parts)) (all_from sets_first words)
unfolding all_from
subgrid_parts words = refl

-- ---- the sets that are kept

pub take-few : {A : Type 0} (n : ℕ) (xs : List A) → length xs ≤ n → take n xs ≡ xs
take-few zero [] h = refl
take-few zero (x ∷ xs) h = let wrong : ⊥ = omega arith in elim wrong [ ]
take-few (suc n) [] h = refl
take-few (suc n) (x ∷ xs) h = ap (λ (ys : List _). x ∷ ys) (take-few n xs (omega arith))

pub take-behind : {A : Type 0} (n : ℕ) (xs ys : List A) → take n (take n xs ++ ys) ≡ take n (xs ++ ys)
take-behind zero xs ys = refl
take-behind (suc n) [] ys = refl
take-behind (suc n) (x ∷ xs) ys = ap (λ (zs : List _). x ∷ zs) (take-behind n xs ys)

pub some-none : (sets : List (List Word)) (words : List Word) → sets ≡ [] → sets_or_none (sets, words) ≡ None
some-none [] words e = refl
some-none (set ∷ sets) words e = elim (cons_is_none (ap length e)) [ ] where
  cons_is_none : suc (length sets) ≡ 0 → ⊥
  cons_is_none n = omega arith

pub some-some : (sets : List (List Word)) (words : List Word) → (sets ≡ [] → ⊥) → sets_or_none (sets, words) ≡ Some (sets, words)
some-some [] words h = elim (h refl) [ ]
some-some (set ∷ sets) words h = refl
