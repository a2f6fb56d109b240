-- The kept tracks and names of entries that are held.
use Rattle.std.proofs.Common.{◌≡◌, ℕ, zero, suc, ◌+◌, ◌-◌, Bool, true, false, List, [], ◌∷◌, ◌++◌, map, take, ap, refl, sym, ◌∙◌, if◌then◌else◌}
use Rattle.std.proofs.lemmas.List.{append-nil, append_assoc}
use Rattle.track_text.specs.declared.side.Track.{Track}
use Rattle.track_text.specs.declared.entry.Entry.{Entry}
use Rattle.track_text.specs.declared.entry.Entry.TheVariants as entry
use Rattle.track_text.specs.Words.{Word}
use Rattle.track_text.specs.NameSets.{is_among, with_names, distinct}
use Rattle.track_text.specs.Templates.{tracks_of, onto_first_line, lines_of, kept_tracks, kept_names}
use Rattle.track_text.specs.Kept.{trim, thin}

if_both : {A B : Type 0} (f : A → B) (b : Bool) (p q : A) (r s : B) → f p ≡ r → f q ≡ s → f (if b then p else q) ≡ (if b then r else s)
if_both f true p q r s h k = h
if_both f false p q r s h k = k

if_one : {A B : Type 0} (f : A → B) (b : Bool) (p q : A) (r : B) → f p ≡ r → f q ≡ r → f (if b then p else q) ≡ r
if_one f true p q r h k = h
if_one f false p q r h k = k

-- ---- the tracks and lines of entries before the first track past so many

pub tracks-trim : (n : ℕ) (es : List Entry) → tracks_of (trim n es) ≡ take n (tracks_of es)
tracks-trim zero [] = refl
tracks-trim (suc n) [] = refl
tracks-trim n (entry.Named name ∷ es) = tracks-trim n es
tracks-trim zero (entry.Track size ∷ es) = refl
tracks-trim (suc n) (entry.Track size ∷ es) = ap (λ (xs : List Track). size ∷ xs) (tracks-trim n es)

onto-take : (n : ℕ) (name : Word) (lines : List (List Word)) → onto_first_line name (take (suc n) lines) ≡ take (suc n) (onto_first_line name lines)
onto-take zero name [] = refl
onto-take (suc n) name [] = refl
onto-take n name (line ∷ lines) = refl

pub lines-trim : (n : ℕ) (es : List Entry) → lines_of (trim n es) ≡ take (suc n) (lines_of es)
lines-trim zero [] = refl
lines-trim (suc n) [] = refl
lines-trim n (entry.Named name ∷ es) = ap (onto_first_line name) (lines-trim n es) ∙ onto-take n name (lines_of es)
lines-trim zero (entry.Track size ∷ es) = refl
lines-trim (suc n) (entry.Track size ∷ es) = ap (λ (xs : List (List Word)). [] ∷ xs) (lines-trim n es)

-- ---- the tracks and lines of entries without repeated names

pub tracks-thin : (seen : List Word) (es : List Entry) → tracks_of (thin seen es) ≡ tracks_of es
tracks-thin seen [] = refl
tracks-thin seen (entry.Track size ∷ es) = ap (λ (xs : List Track). size ∷ xs) (tracks-thin [] es)
tracks-thin seen (entry.Named name ∷ es) = if_one tracks_of (is_among seen name) (thin seen es) (entry.Named name ∷ thin (seen ++ name ∷ []) es) (tracks_of es) (tracks-thin seen es) (tracks-thin (seen ++ name ∷ []) es)

abbrev fresh : List Word → List Word → List Word
fresh seen [] = []
fresh seen (name ∷ names) = if is_among seen name then fresh seen names else name ∷ fresh (seen ++ name ∷ []) names

abbrev fresh_lines : List Word → List (List Word) → List (List Word)
fresh_lines seen [] = [] ∷ []
fresh_lines seen (line ∷ lines) = fresh seen line ∷ map distinct lines

fresh-with : (seen names : List Word) → with_names seen names ≡ seen ++ fresh seen names
fresh-with seen [] = sym (append-nil seen)
fresh-with seen (name ∷ names) = by_test (is_among seen name) (fresh-with seen names) (fresh-with (seen ++ name ∷ []) names) where
  by_test : (b : Bool) → with_names seen names ≡ seen ++ fresh seen names → with_names (seen ++ name ∷ []) names ≡ (seen ++ name ∷ []) ++ fresh (seen ++ name ∷ []) names
      → with_names (if b then seen else seen ++ name ∷ []) names ≡ seen ++ (if b then fresh seen names else name ∷ fresh (seen ++ name ∷ []) names)
  by_test true h k = h
  by_test false h k = k ∙ append_assoc seen (name ∷ []) (fresh (seen ++ name ∷ []) names)

fresh-onto : (seen : List Word) (name : Word) (lines : List (List Word)) (b : Bool) → is_among seen name ≡ b
    → (if b then fresh_lines seen lines else onto_first_line name (fresh_lines (seen ++ name ∷ []) lines)) ≡ fresh_lines seen (onto_first_line name lines)
fresh-onto seen name [] true h = rw h refl
fresh-onto seen name [] false h = rw h refl
fresh-onto seen name (line ∷ lines) true h = rw h refl
fresh-onto seen name (line ∷ lines) false h = rw h refl

fresh-first : (lines : List (List Word)) (name : Word) → fresh_lines [] (onto_first_line name lines) ≡ map distinct (onto_first_line name lines)
fresh-first [] name = ap (λ (xs : List Word). xs ∷ []) (sym (fresh-with [] (name ∷ [])))
fresh-first (line ∷ lines) name = ap (λ (xs : List Word). xs ∷ map distinct lines) (sym (fresh-with [] (name ∷ line)))

fresh-distinct : (es : List Entry) → fresh_lines [] (lines_of es) ≡ map distinct (lines_of es)
fresh-distinct [] = refl
fresh-distinct (entry.Track size ∷ es) = refl
fresh-distinct (entry.Named name ∷ es) = fresh-first (lines_of es) name

fresh-thin : (seen : List Word) (es : List Entry) → lines_of (thin seen es) ≡ fresh_lines seen (lines_of es)
fresh-thin seen [] = refl
fresh-thin seen (entry.Track size ∷ es) = ap (λ (xs : List (List Word)). [] ∷ xs) (fresh-thin [] es ∙ fresh-distinct es)
fresh-thin seen (entry.Named name ∷ es) =
    if_both lines_of (is_among seen name) (thin seen es) (entry.Named name ∷ thin (seen ++ name ∷ []) es) (fresh_lines seen (lines_of es)) (onto_first_line name (fresh_lines (seen ++ name ∷ []) (lines_of es)))
    (fresh-thin seen es) (ap (onto_first_line name) (fresh-thin (seen ++ name ∷ []) es))
    ∙ fresh-onto seen name (lines_of es) (is_among seen name) refl

pub lines-thin : (es : List Entry) → lines_of (thin [] es) ≡ map distinct (lines_of es)
lines-thin es = fresh-thin [] es ∙ fresh-distinct es

-- ---- what is kept

pub tracks-are : (es : List Entry) → tracks_of (thin [] (trim 10000 es)) ≡ kept_tracks es
tracks-are es = tracks-thin [] (trim 10000 es) ∙ tracks-trim 10000 es

pub names-are : (es : List Entry) → lines_of (thin [] (trim 10000 es)) ≡ kept_names es
names-are es = lines-thin (trim 10000 es) ∙ ap (map distinct) (lines-trim 10000 es)
