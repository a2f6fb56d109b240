-- Lists of forms that are read one after another, and joined.
use Rattle.std.proofs.Common.{◌≡◌, ℕ, zero, suc, true, false, List, [], ◌∷◌, ◌++◌, drop, Option, Some, None, ap, refl, sym, ◌∙◌}
use Rattle.std.proofs.lemmas.List.{append-nil, append_assoc}
use Rattle.std.specs.Option.{option_map}
use Rattle.std.specs.Str.{bytes_eq}
use Rattle.track_text.specs.Words.{Word, Form, bind, past, front, with_first, all_of, all_from, rest_up_to}
use Rattle.track_text.specs.Repeats.{joined, joined_read}
use Rattle.track_text.proofs.Rests.{onto, next_up_to}

-- ---- joined, up to the word that closes

abbrev pub joined_behind : {A B : Type 0} → List A → List (List A) × B → List A × B
joined_behind held read = (held ++ joined read.0, read.1)

pub joins_first : {A B : Type 0} (read : Option (List (List A) × B)) → option_map (joined_behind []) read ≡ option_map joined_read read
joins_first None = refl
joins_first (Some read) = refl

joins_one : {A : Type 0} (held x : List A) (read : Option (List (List A) × List Word)) → option_map (joined_behind held) (option_map (onto x) read) ≡ option_map (joined_behind (held ++ x)) read
joins_one held x None = refl
joins_one held x (Some read) = ap (λ (xs : List _). Some (xs, read.1)) (sym (append_assoc held x (joined read.0)))

pub joins_close : {A : Type 0} (held : List A) (close : Word) (form : Form (List A)) (word : Word) (words : List Word) → bytes_eq word close ≡ true → option_map (joined_behind held) (rest_up_to close form (word ∷ words)) ≡ Some (held, words)
unfolding rest_up_to front
joins_close held close form word words h = rw h (ap (λ (xs : List _). Some (xs, words)) (append-nil held))

pub joins_form : {A : Type 0} (held : List A) (close : Word) (form : Form (List A)) (word : Word) (words rest : List Word) (x : List A) → bytes_eq word close ≡ false → front form (word ∷ words) ≡ Some (x, rest)
    → option_map (joined_behind held) (rest_up_to close form (word ∷ words)) ≡ option_map (joined_behind (held ++ x)) (rest_up_to close form rest)
joins_form held close form word words rest x h e = ap (option_map (joined_behind held)) (next_up_to close form word words h ∙ ap (λ (read : Option (_ × List Word)). bind read (λ read. option_map (onto read.0) (rest_up_to close form read.1))) e) ∙ joins_one held x (rest_up_to close form rest)

pub joins_neither : {A : Type 0} (held : List A) (close : Word) (form : Form (List A)) (word : Word) (words : List Word) → bytes_eq word close ≡ false → front form (word ∷ words) ≡ None
    → option_map (joined_behind held) (rest_up_to close form (word ∷ words)) ≡ None
joins_neither held close form word words h e = ap (option_map (joined_behind held)) (next_up_to close form word words h ∙ ap (λ (read : Option (_ × List Word)). bind read (λ read. option_map (onto read.0) (rest_up_to close form read.1))) e)

pub joins_end : {A : Type 0} (held : List A) (close : Word) (form : Form (List A)) → option_map (joined_behind held) (rest_up_to close form []) ≡ None
unfolding rest_up_to
joins_end held close form = refl

-- ---- as many as there are

all_behind : {A : Type 0} (form : Form A) (count : ℕ) (words : List Word) → all_of form count words ≡ all_of form 0 (drop count words)
all_behind form zero words = refl
all_behind form (suc count) [] = refl
all_behind form (suc count) (word ∷ words) = all_behind form count words

next_by_form : {A : Type 0} (form : Form A) (words : List Word) (read : Option (A × ℕ)) → bind read (λ read. option_map (with_first read.0) (all_of form read.1 words)) ≡ bind (option_map (past words) read) (λ read. option_map (with_first read.0) (all_from form read.1))
unfolding all_from
next_by_form form words None = refl
next_by_form form words (Some read) = ap (option_map (with_first read.0)) (all_behind form read.1 words)

pub next_of_all : {A : Type 0} (form : Form A) (word : Word) (words : List Word) → all_from form (word ∷ words) ≡ bind (front form (word ∷ words)) (λ read. option_map (with_first read.0) (all_from form read.1))
unfolding all_from front
next_of_all form word words = next_by_form form words (form (word ∷ words))

abbrev pub all_with : {A : Type 0} → List A → Option (List A) → Option (List A)
all_with held read = option_map (λ xs. held ++ xs) read

all_one : {A : Type 0} (held : List A) (x : A) (read : Option (List A)) → all_with held (option_map (with_first x) read) ≡ all_with (held ++ x ∷ []) read
all_one held x None = refl
all_one held x (Some read) = ap Some (sym (append_assoc held (x ∷ []) read))

pub all_at_form : {A : Type 0} (held : List A) (form : Form A) (word : Word) (words rest : List Word) (x : A) → front form (word ∷ words) ≡ Some (x, rest)
    → all_with held (all_from form (word ∷ words)) ≡ all_with (held ++ x ∷ []) (all_from form rest)
all_at_form held form word words rest x e = ap (all_with held) (next_of_all form word words ∙ ap (λ (read : Option (_ × List Word)). bind read (λ read. option_map (with_first read.0) (all_from form read.1))) e) ∙ all_one held x (all_from form rest)

pub all_at_none : {A : Type 0} (held : List A) (form : Form A) (word : Word) (words : List Word) → front form (word ∷ words) ≡ None → all_with held (all_from form (word ∷ words)) ≡ None
all_at_none held form word words e = ap (all_with held) (next_of_all form word words ∙ ap (λ (read : Option (_ × List Word)). bind read (λ read. option_map (with_first read.0) (all_from form read.1))) e)

pub all_at_end : {A : Type 0} (held : List A) (form : Form A) → all_with held (all_from form []) ≡ Some held
unfolding all_from
all_at_end held form = ap Some (append-nil held)
