-- Forms of track sizes by the words that they begin with.
use Rattle.std.proofs.Common.{◌≡◌, ℕ, ◌+◌, ◌<◌, ◌≤◌, length, Bool, true, false, List, ◌∷◌, drop, Option, Some, None, codes, refl, ap, sym, ◌∙◌, subst, arith, if◌then◌else◌, Result, Ok, Err}
use Rattle.std.proofs.lemmas.List.{drop-drop, length-drop}
use Rattle.track_text.specs.declared.side.Track.{Track}
use Rattle.track_text.specs.declared.errors.Stop.{Stop}
use Rattle.track_text.specs.declared.errors.Stop.TheVariants as stop
use Rattle.track_text.specs.declared.entry.Entry.{Entry}
use Rattle.track_text.specs.declared.entry.Often.{Often}
use Rattle.track_text.specs.declared.entry.Part.{Part}
use Rattle.std.specs.Option.{option_map}
use Rattle.std.specs.Str.{bytes_eq}
use Rattle.track_text.specs.declared.side.Side.{Side}
use Rattle.track_text.specs.Words.{Word, Form, bind, past, front, up_to, rest_up_to}
use Rattle.track_text.specs.NameSets.{name_first, names_after}
use Rattle.track_text.specs.Repeats.{named, one_track, entry_first, has_track, joined, joined_read, body_or_none, body_after, often_of, part_of, repeat_after, once, part_first}
use Rattle.track_text.specs.Gives.{Gives}
use Rattle.track_text.specs.TrackSizes.{breadth_of, track_alone, minmax_after, fit_after, track_first}

-- what a form gives that takes a known number of words
pub taken : {A : Type 0} (count : ℕ) (words : List Word) (x : Option A) → option_map (past words) (option_map (λ a. (a, count)) x) ≡ option_map (λ a. (a, drop count words)) x
taken count words None = refl
taken count words (Some a) = refl

pub at_minmax : (relative : Bool) (word : Word) (words : List Word) → bytes_eq word (codes "minmax") ≡ true → front (track_first relative) (word ∷ words) ≡ option_map (λ track. (track, drop 5 words)) (minmax_after relative words)
unfolding front
at_minmax relative word words h = rw h (taken 5 words (minmax_after relative words))

pub at_fit : (relative : Bool) (word : Word) (words : List Word) → bytes_eq word (codes "minmax") ≡ false → bytes_eq word (codes "fit-content") ≡ true → front (track_first relative) (word ∷ words) ≡ option_map (λ track. (track, drop 3 words)) (fit_after relative words)
unfolding front
at_fit relative word words h e = rw (h, e) (taken 3 words (fit_after relative words))

pub at_breadth : (relative : Bool) (word : Word) (words : List Word) (read : Option Side) → bytes_eq word (codes "minmax") ≡ false → bytes_eq word (codes "fit-content") ≡ false → breadth_of relative word ≡ read →
    front (track_first relative) (word ∷ words) ≡ option_map (λ b. (track_alone b, words)) read
unfolding front
at_breadth relative word words None h e r = rw (h, e, r) refl
at_breadth relative word words (Some b) h e r = rw (h, e, r) refl

pub ruleset sizes = (at_minmax, at_fit, at_breadth)

-- ---- what is read, against the form of it

pub gives_same : {A : Type 0} (result : Result A Stop) (form due : Option A) → Gives result form → due ≡ form → Gives result due
gives_same result form due g e = subst (Gives result) (sym e) g

-- an error is handed on
pub gives_err : {A B : Type 0} (e : Stop) (form : Option A) (due : Option B) → Gives (Err e) form → (form ≡ None → due ≡ None) → Gives (Err e) due
gives_err stop.Bad form due g h = h g
gives_err stop.NoMemory form due g h = g

pub gives_handed : {A B : Type 0} (result : Result B Stop) (e : Stop) (form : Option A) (due : Option B) → result ≡ Err e → Gives (Err e) form → (form ≡ None → due ≡ None) → Gives result due
gives_handed result e form due r g h = subst (λ (x : Result _ Stop). Gives x due) (sym r) (gives_err e form due g h)

-- ---- entries

set_past : (words : List Word) (read : Option (List Word × ℕ)) → option_map (past words) (option_map named read) ≡ option_map named (option_map (past words) read)
set_past words None = refl
set_past words (Some read) = refl

pub at_set : (relative : Bool) (word : Word) (words : List Word) → bytes_eq word (codes "[") ≡ true → front (entry_first relative) (word ∷ words) ≡ option_map named (rest_up_to (codes "]") name_first words)
unfolding front rest_up_to
at_set relative word words h = rw h (set_past words (names_after words))

track_past : (words : List Word) (read : Option (Track × ℕ)) → option_map (past words) (option_map one_track read) ≡ option_map one_track (option_map (past words) read)
track_past words None = refl
track_past words (Some read) = refl

pub at_track : (relative : Bool) (word : Word) (words : List Word) → bytes_eq word (codes "[") ≡ false → front (entry_first relative) (word ∷ words) ≡ option_map one_track (front (track_first relative) (word ∷ words))
unfolding front
at_track relative word words h = rw h (track_past words (track_first relative (word ∷ words)))

-- ---- repeats

abbrev pub body_checked : List Entry × List Word → Option (List Entry × List Word)
body_checked read = if has_track read.0 then Some read else None

checked_past : (words : List Word) (entries : List Entry) (count : ℕ) (b : Bool) → option_map (past words) (if b then Some (entries, count) else None) ≡ (if b then Some (entries, drop count words) else None)
checked_past words entries count true = refl
checked_past words entries count false = refl

body_past : (words : List Word) (read : Option (List (List Entry) × ℕ)) → option_map (past words) (bind read body_or_none) ≡ bind (option_map joined_read (option_map (past words) read)) body_checked
body_past words None = refl
body_past words (Some read) = checked_past words (joined read.0) read.1 (has_track (joined read.0))

pub at_body : (relative : Bool) (words : List Word) → option_map (past words) (body_after relative words) ≡ bind (option_map joined_read (rest_up_to (codes ")") (entry_first relative) words)) body_checked
unfolding rest_up_to
at_body relative words = body_past words (up_to (codes ")") (entry_first relative) 0 words)

abbrev pub with_often : Often → List Entry × List Word → Part × List Word
with_often often body = (part_of often body.0, body.1)

often_past : (opening word comma : Word) (words : List Word) (often : Often) (read : Option (List Entry × ℕ))
    → option_map (past (opening ∷ word ∷ comma ∷ words)) (option_map (λ body. (part_of often body.0, body.1 + 3)) read) ≡ option_map (with_often often) (option_map (past words) read)
often_past opening word comma words often None = refl
often_past opening word comma words often (Some read) =
    ap (λ (ws : List Word). Some (part_of often read.0, ws)) (ap (λ (n : ℕ). drop n (opening ∷ word ∷ comma ∷ words)) (omega arith) ∙ sym (drop-drop read.1 3 (opening ∷ word ∷ comma ∷ words)))

repeat_past : (relative : Bool) (opening word comma : Word) (words : List Word) (often : Option Often)
    → option_map (past (opening ∷ word ∷ comma ∷ words)) (bind often (λ often. option_map (λ body. (part_of often body.0, body.1 + 3)) (body_after relative words)))
    ≡ bind often (λ often. option_map (with_often often) (option_map (past words) (body_after relative words)))
repeat_past relative opening word comma words None = refl
repeat_past relative opening word comma words (Some often) = often_past opening word comma words often (body_after relative words)

pub at_arguments : (relative : Bool) (opening word comma : Word) (words : List Word) → bytes_eq opening (codes "(") ≡ true → bytes_eq comma (codes ",") ≡ true
    → option_map (past (opening ∷ word ∷ comma ∷ words)) (repeat_after relative (opening ∷ word ∷ comma ∷ words))
    ≡ bind (often_of word) (λ often. option_map (with_often often) (option_map (past words) (body_after relative words)))
at_arguments relative opening word comma words o k = rw (o, k) (repeat_past relative opening word comma words (often_of word))

-- ---- parts

pub at_repeat : (relative : Bool) (word : Word) (words : List Word) → bytes_eq word (codes "repeat") ≡ true → front (part_first relative) (word ∷ words) ≡ option_map (past words) (repeat_after relative words)
unfolding front
at_repeat relative word words h = rw h refl

once_past : (words : List Word) (read : Option (List Entry × ℕ)) → option_map (past words) (option_map once read) ≡ option_map once (option_map (past words) read)
once_past words None = refl
once_past words (Some read) = refl

pub at_once : (relative : Bool) (word : Word) (words : List Word) → bytes_eq word (codes "repeat") ≡ false → front (part_first relative) (word ∷ words) ≡ option_map once (front (entry_first relative) (word ∷ words))
unfolding front
at_once relative word words h = rw h (once_past words (entry_first relative (word ∷ words)))

-- ---- what is left is shorter

abbrev left_length : {A : Type 0} → Option (A × List Word) → ℕ
left_length None = 0
left_length (Some read) = length read.1

left_within : {A : Type 0} (words : List Word) (read : Option (A × ℕ)) → left_length (option_map (past words) read) ≤ length words
left_within words None = omega arith
left_within words (Some read) = rw (length-drop read.1 words) (omega arith)

falls : (n m : ℕ) (word : Word) (words : List Word) → n ≤ length words → n ≡ m → m < length (word ∷ words)
falls n m word words h e = omega arith

pub rest_falls : {A : Type 0} (form : Form A) (word : Word) (words : List Word) (x : A) (rest : List Word) → front form (word ∷ words) ≡ Some (x, rest) → length rest < length (word ∷ words)
unfolding front
rest_falls form word words x rest e =
    falls (left_length (option_map (past words) (form (word ∷ words)))) (length rest) word words (left_within words (form (word ∷ words))) (ap left_length e)
