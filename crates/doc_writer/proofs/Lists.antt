-- Lists that are written one item after another.
use Rattle.std.proofs.Common.{◌≡◌, ℕ, ℤ, ◌+◌, ◌<◌, ◌≤◌, Bool, true, false, ◌&&◌, if◌then◌else◌, nat_lt, List, [], ◌∷◌, ◌++◌, length, drop, get_or, Option, refl, ap, sym, ◌∙◌, add-one, drop-cons}
use Rattle.std.proofs.lemmas.List.{drop_all, append-nil}
use Rattle.std.specs.Cmp.Lexicographic.{pointwise}
use Rattle.std.specs.Str.{bytes_eq}
use Rattle.style_types.specs.declared.declared.DeclaredValue.{DeclaredValue}
use Rattle.style_types.specs.declared.prop.Prop.{Prop}
use Rattle.track_text.specs.Words.{Word}
use Rattle.doc_writer.specs.Documents.{px_words, Setting, with_value, settings_of}
use Rattle.doc_writer.specs.Numbers.{px_number}
use Rattle.doc_writer.specs.Tracks.{has_room, set_words, repeated, set_runs}

from_item : {A : Type 0} (xs : List A) (i : ℕ) (d : A) → i < length xs → drop i xs ≡ get_or xs i d ∷ drop (i + 1) xs
from_item xs i d h = rw add-one (drop-cons xs i d h)

pub px_next : (sizes : List ℤ) (i : ℕ) (d : ℤ) → i < length sizes → px_words (drop i sizes) ≡ px_number (get_or sizes i d) ∷ px_words (drop (i + 1) sizes)
px_next sizes i d h = ap px_words (from_item sizes i d h)

pub px_last : (sizes : List ℤ) (i : ℕ) → length sizes ≤ i → px_words (drop i sizes) ≡ []
px_last sizes i h = ap px_words (drop_all i sizes h)

pub settings_next : (value : Prop → Option DeclaredValue) (properties : List Prop) (i : ℕ) (d : Prop) → i < length properties
    → settings_of value (drop i properties) ≡ with_value (get_or properties i d) (value (get_or properties i d)) (settings_of value (drop (i + 1) properties))
settings_next value properties i d h = ap (settings_of value) (from_item properties i d h)

pub settings_last : (value : Prop → Option DeclaredValue) (properties : List Prop) (i : ℕ) → length properties ≤ i → settings_of value (drop i properties) ≡ []
settings_last value properties i h = ap (settings_of value) (drop_all i properties h)

-- the next set goes on with the run, or begins one
pub set_goes_on : (names : List Word) (count : ℕ) (lines : List (List Word)) (i : ℕ) (d : List Word) → i < length lines → (nat_lt count 10000 && pointwise bytes_eq names (get_or lines i d)) ≡ true
    → set_runs names count (drop i lines) ≡ set_runs names (count + 1) (drop (i + 1) lines)
set_goes_on names count lines i d h e =
    ap (set_runs names count) (from_item lines i d h)
    ∙ ap (λ (b : Bool). if b then set_runs names (count + 1) (drop (i + 1) lines) else repeated count (set_words names) ++ set_runs (get_or lines i d) 1 (drop (i + 1) lines)) e

pub set_begins : (names : List Word) (count : ℕ) (lines : List (List Word)) (i : ℕ) (d : List Word) → i < length lines → (nat_lt count 10000 && pointwise bytes_eq names (get_or lines i d)) ≡ false
    → set_runs names count (drop i lines) ≡ repeated count (set_words names) ++ set_runs (get_or lines i d) 1 (drop (i + 1) lines)
set_begins names count lines i d h e =
    ap (set_runs names count) (from_item lines i d h)
    ∙ ap (λ (b : Bool). if b then set_runs names (count + 1) (drop (i + 1) lines) else repeated count (set_words names) ++ set_runs (get_or lines i d) 1 (drop (i + 1) lines)) e

pub set_last : (names : List Word) (count : ℕ) (lines : List (List Word)) (i : ℕ) → length lines ≤ i → set_runs names count (drop i lines) ≡ repeated count (set_words names)
set_last names count lines i h = ap (set_runs names count) (drop_all i lines h)

pub ruleset px = (px_next, px_last)

pub ruleset settings = (settings_next, settings_last)

pub ruleset sets = (set_goes_on, set_begins, set_last)
