-- Forms that are read one after another: what is left of the words instead of how many are taken.
use Rattle.std.proofs.Common.{◌≡◌, ℕ, zero, suc, add-one, ◌+◌, Bool, true, false, List, [], ◌∷◌, ◌++◌, drop, Option, Some, None, ap, refl, sym, ◌∙◌, arith, if◌then◌else◌, codes, Result, Err, subst}
use Rattle.std.proofs.lemmas.List.{append-nil, append_assoc, drop-drop}
use Rattle.std.specs.Option.{option_map}
use Rattle.std.specs.Str.{bytes_eq}
use Rattle.track_text.specs.declared.errors.Stop.{Stop}
use Rattle.track_text.specs.declared.errors.Stop.TheVariants as stop
use Rattle.track_text.specs.Words.{Word, Form, bind, past, front, one_more_taken, with_first_taken, up_to, rest_up_to}
use Rattle.track_text.specs.NameSets.{is_line_name, name_first}
use Rattle.track_text.specs.Gives.{behind, Gives}

-- what is read where so many words were taken before
abbrev pub taken_before : {A : Type 0} → ℕ → A × ℕ → A × ℕ
taken_before count read = (read.0, count + read.1)

none_before : {A : Type 0} (read : Option (A × ℕ)) → read ≡ option_map (taken_before 0) read
none_before None = refl
none_before (Some read) = ap (λ (n : ℕ). Some (read.0, n)) (omega arith)

one_before : {A : Type 0} (count : ℕ) (read : Option (List A × ℕ)) → option_map one_more_taken (option_map (taken_before count) read) ≡ option_map (taken_before (suc count)) read
one_before count None = refl
one_before count (Some read) = ap (λ (n : ℕ). Some (read.0, n)) (omega arith)

pub up_to_behind : {A : Type 0} (close : Word) (form : Form A) (count : ℕ) (words : List Word) → up_to close form count words ≡ option_map (taken_before count) (up_to close form 0 (drop count words))
up_to_behind close form zero words = none_before (up_to close form zero words)
up_to_behind close form (suc count) [] = refl
up_to_behind close form (suc count) (word ∷ words) = ap (option_map one_more_taken) (up_to_behind close form count words) ∙ one_before count (up_to close form 0 (drop count words))

abbrev pub onto : {A : Type 0} → A → List A × List Word → List A × List Word
onto x read = (x ∷ read.0, read.1)

-- the words left after two runs of them
left_after : {A : Type 0} (x : A) (word : Word) (words : List Word) (count : ℕ) (read : Option (List A × ℕ)) → option_map (past (word ∷ words)) (option_map (with_first_taken x) (option_map (taken_before count) read)) ≡ option_map (onto x) (option_map (past (drop count words)) read)
left_after x word words count None = refl
left_after x word words count (Some read) = ap (λ (ws : List Word). Some (x ∷ read.0, ws)) (ap (λ (n : ℕ). drop n (word ∷ words)) (add-one (count + read.1)) ∙ sym (drop-drop read.1 count words))

-- one form after another, up to the word that closes
by_form : {A : Type 0} (close : Word) (form : Form A) (word : Word) (words : List Word) (read : Option (A × ℕ)) →
    option_map (past (word ∷ words)) (bind read (λ read. option_map (with_first_taken read.0) (up_to close form read.1 words))) ≡ bind (option_map (past words) read) (λ read. option_map (onto read.0) (rest_up_to close form read.1))
unfolding rest_up_to front
by_form close form word words None = refl
by_form close form word words (Some read) = ap (λ (y : Option (List _ × ℕ)). option_map (past (word ∷ words)) (option_map (with_first_taken read.0) y)) (up_to_behind close form read.1 words) ∙ left_after read.0 word words read.1 (up_to close form 0 (drop read.1 words))

pub next_up_to : {A : Type 0} (close : Word) (form : Form A) (word : Word) (words : List Word) → bytes_eq word close ≡ false → rest_up_to close form (word ∷ words) ≡ bind (front form (word ∷ words)) (λ read. option_map (onto read.0) (rest_up_to close form read.1))
unfolding rest_up_to front
next_up_to close form word words h = rw h (by_form close form word words (form (word ∷ words)))

-- ---- lists of single items

pub nothing_before : {A : Type 0} (read : Option (List A × List Word)) → option_map (behind []) read ≡ read
nothing_before None = refl
nothing_before (Some read) = refl

one_behind : {A : Type 0} (held : List A) (x : A) (read : Option (List A × List Word)) → option_map (behind held) (option_map (onto x) read) ≡ option_map (behind (held ++ x ∷ [])) read
one_behind held x None = refl
one_behind held x (Some read) = ap (λ (xs : List _). Some (xs, read.1)) (sym (append_assoc held (x ∷ []) read.0))

pub at_close : {A : Type 0} (held : List A) (close : Word) (form : Form A) (word : Word) (words : List Word) → bytes_eq word close ≡ true → option_map (behind held) (rest_up_to close form (word ∷ words)) ≡ Some (held, words)
unfolding rest_up_to front
at_close held close form word words h = rw h (ap (λ (xs : List _). Some (xs, words)) (append-nil held))

pub at_form : {A : Type 0} (held : List A) (close : Word) (form : Form A) (word : Word) (words rest : List Word) (x : A) → bytes_eq word close ≡ false → front form (word ∷ words) ≡ Some (x, rest)
    → option_map (behind held) (rest_up_to close form (word ∷ words)) ≡ option_map (behind (held ++ x ∷ [])) (rest_up_to close form rest)
at_form held close form word words rest x h e = ap (option_map (behind held)) (next_up_to close form word words h ∙ ap (λ (read : Option (_ × List Word)). bind read (λ read. option_map (onto read.0) (rest_up_to close form read.1))) e) ∙ one_behind held x (rest_up_to close form rest)

pub at_neither : {A : Type 0} (held : List A) (close : Word) (form : Form A) (word : Word) (words : List Word) → bytes_eq word close ≡ false → front form (word ∷ words) ≡ None
    → option_map (behind held) (rest_up_to close form (word ∷ words)) ≡ None
at_neither held close form word words h e = ap (option_map (behind held)) (next_up_to close form word words h ∙ ap (λ (read : Option (_ × List Word)). bind read (λ read. option_map (onto read.0) (rest_up_to close form read.1))) e)

pub at_end : {A : Type 0} (held : List A) (close : Word) (form : Form A) → option_map (behind held) (rest_up_to close form []) ≡ None
unfolding rest_up_to
at_end held close form = refl

-- ---- names

name_by_test : (word : Word) (words : List Word) (b : Bool) → option_map (past words) (if b then Some (word, 0) else None) ≡ option_map (λ (name : Word). (name, words)) (if b then Some word else None)
name_by_test word words true = refl
name_by_test word words false = refl

name_in_front : (word : Word) (words : List Word) (read : Option Word) → (if is_line_name word then Some word else None) ≡ read → front name_first (word ∷ words) ≡ option_map (λ (name : Word). (name, words)) read
unfolding rest_up_to front
name_in_front word words read e = name_by_test word words (is_line_name word) ∙ ap (option_map (λ (name : Word). (name, words))) e

pub at_name : (held : List Word) (word : Word) (words : List Word) (name : Word) → bytes_eq word (codes "]") ≡ false → (if is_line_name word then Some word else None) ≡ Some name
    → option_map (behind held) (rest_up_to (codes "]") name_first (word ∷ words)) ≡ option_map (behind (held ++ name ∷ [])) (rest_up_to (codes "]") name_first words)
at_name held word words name h e = at_form held (codes "]") name_first word words words name h (name_in_front word words (Some name) e)

pub at_no_name : (held : List Word) (word : Word) (words : List Word) → bytes_eq word (codes "]") ≡ false → (if is_line_name word then Some word else None) ≡ None
    → option_map (behind held) (rest_up_to (codes "]") name_first (word ∷ words)) ≡ None
at_no_name held word words h e = at_neither held (codes "]") name_first word words h (name_in_front word words None e)

pub ruleset names = (nothing_before, at_close, at_name, at_no_name, at_end)

-- the words stand for nothing
pub gives_bad : {A : Type 0} (result : Result A Stop) (form : Option A) → result ≡ Err stop.Bad → form ≡ None → Gives result form
gives_bad result form r f = subst (λ (x : Result _ Stop). Gives x form) (sym r) f
