-- Track lists by their parts.
use Rattle.std.proofs.Common.{◌≡◌, ℕ, zero, suc, ◌+◌, ◌≤◌, ◌<◌, Bool, true, false, ◌||◌, ◌&&◌, List, [], ◌∷◌, ◌++◌, take, drop, get_or, length, ap, refl, sym, ◌∙◌, arith, if◌then◌else◌, Option, Some, None}
use Rattle.std.proofs.lemmas.List.{append-nil, append_assoc, take-append-drop}
use Rattle.std.proofs.lemmas.List.Folds.{list_all-append}
use Rattle.std.proofs.lemmas.Bool.{true≢false, true_from_ne_false}
use Rattle.std.specs.List.{list_all}
use Rattle.std.specs.Option.{option_map}
use Rattle.track_text.specs.declared.side.Track.{Track}
use Rattle.track_text.specs.declared.side.ReadList.{ReadList}
use Rattle.track_text.specs.declared.entry.Entry.{Entry}
use Rattle.track_text.specs.declared.entry.Entry.TheVariants as entry
use Rattle.track_text.specs.declared.entry.Filling.{Filling}
use Rattle.track_text.specs.declared.entry.Part.{Part}
use Rattle.track_text.specs.declared.entry.Part.TheVariants as part
use Rattle.track_text.specs.Words.{Word, bind, all_from}
use Rattle.track_text.specs.Repeats.{has_track, times, part_first}
use Rattle.track_text.specs.Templates.{tracks_of, kept_tracks, kept_names, entry_is_fixed, all_fixed, plain_list, automatic_list, written_out, list_of, track_list}
use Rattle.track_text.specs.Kept.{entries_of, is_written, is_never, part_is_fixed}
use Rattle.track_text.proofs.Holding.{from_there}

false_or_true : {A : Type 0} → false ≡ true → A
false_or_true e = elim (true≢false (sym e)) [ ]

-- ---- tracks beside an automatic repeat

fixed-append : (xs ys : List Entry) → all_fixed (xs ++ ys) ≡ (all_fixed xs && all_fixed ys)
fixed-append xs ys = list_all-append entry_is_fixed xs ys

fixed-times : (count : ℕ) (body : List Entry) → (is_never count || all_fixed body) ≡ all_fixed (times count body)
fixed-times zero body = refl
fixed-times (suc count) body = by_tests (all_fixed body) (is_never count) ∙ ap (λ (b : Bool). all_fixed body && b) (fixed-times count body) ∙ sym (fixed-append body (times count body)) where
  by_tests : (b k : Bool) → b ≡ (b && (k || b))
  by_tests true true = refl
  by_tests true false = refl
  by_tests false k = refl

pub fixed-parts : (parts : List Part) → list_all part_is_fixed parts ≡ all_fixed (entries_of parts)
fixed-parts [] = refl
fixed-parts (part.Written count body ∷ parts) = ap (λ (b : Bool). (is_never count || all_fixed body) && b) (fixed-parts parts) ∙ ap (λ (b : Bool). b && all_fixed (entries_of parts)) (fixed-times count body) ∙ sym (fixed-append (times count body) (entries_of parts))
fixed-parts (part.Automatic filling body ∷ parts) = fixed-parts parts

-- ---- lists by the first automatic repeat

pub written-is : (parts : List Part) → written_out parts ≡ (if list_all is_written parts then Some (entries_of parts) else None)
written-is [] = refl
written-is (part.Written count body ∷ parts) = ap (option_map (λ rest. times count body ++ rest)) (written-is parts) ∙ by_test (list_all is_written parts) where
  by_test : (b : Bool) → option_map (λ rest. times count body ++ rest) (if b then Some (entries_of parts) else None) ≡ (if b then Some (times count body ++ entries_of parts) else None)
  by_test true = refl
  by_test false = refl
written-is (part.Automatic filling body ∷ parts) = refl

pub list-plain : (front : List Entry) (parts : List Part) → list_all is_written parts ≡ true → list_of front parts ≡ plain_list (front ++ entries_of parts)
list-plain front [] h = ap plain_list (sym (append-nil front))
list-plain front (part.Written count body ∷ parts) h = list-plain (front ++ times count body) parts h ∙ ap plain_list (append_assoc front (times count body) (entries_of parts))
list-plain front (part.Automatic filling body ∷ parts) h = false_or_true h

pub list-around : (front : List Entry) (before : List Part) (filling : Filling) (body : List Entry) (after : List Part) → list_all is_written before ≡ true
    → list_of front (before ++ part.Automatic filling body ∷ after) ≡ bind (written_out after) (automatic_list (front ++ entries_of before) filling body)
list-around front [] filling body after h = ap (λ (es : List Entry). bind (written_out after) (automatic_list es filling body)) (sym (append-nil front))
list-around front (part.Written count more ∷ before) filling body after h = list-around (front ++ times count more) before filling body after h ∙ ap (λ (es : List Entry). bind (written_out after) (automatic_list es filling body)) (append_assoc front (times count more) (entries_of before))
list-around front (part.Automatic fit more ∷ before) filling body after h = false_or_true h

pub list-after : (front : List Entry) (filling : Filling) (body : List Entry) (after : List Part) → list_all is_written after ≡ true
    → bind (written_out after) (automatic_list front filling body) ≡ automatic_list front filling body (entries_of after)
list-after front filling body after h = ap (λ (es : Option (List Entry)). bind es (automatic_list front filling body)) (written-is after ∙ ap (λ (b : Bool). if b then Some (entries_of after) else None) h)

pub list-twice : (front : List Entry) (filling : Filling) (body : List Entry) (after : List Part) → list_all is_written after ≡ false
    → bind (written_out after) (automatic_list front filling body) ≡ None
list-twice front filling body after h = ap (λ (es : Option (List Entry)). bind es (automatic_list front filling body)) (written-is after ∙ ap (λ (b : Bool). if b then Some (entries_of after) else None) h)

-- ---- the list has a track

no-tracks : (es : List Entry) → take 10000 (tracks_of es) ≡ [] → has_track es ≡ false
no-tracks [] e = refl
no-tracks (entry.Track size ∷ es) e = let wrong : ⊥ = false_length (take 9999 (tracks_of es)) (ap length e) in elim wrong [ ] where
  false_length : (xs : List Track) → suc (length xs) ≡ 0 → ⊥
  false_length xs n = omega arith
no-tracks (entry.Named name ∷ es) e = no-tracks es e

none-kept : (es : List Entry) → has_track es ≡ false → tracks_of es ≡ []
none-kept [] h = refl
none-kept (entry.Track size ∷ es) h = elim (true≢false h) [ ]
none-kept (entry.Named name ∷ es) h = none-kept es h

pub plain-none : (es : List Entry) → kept_tracks es ≡ [] → plain_list es ≡ None
plain-none es e = rw (no-tracks es e) refl

pub never-zero : (count : ℕ) → count ≡ 0 → is_never count ≡ true
never-zero zero e = refl
never-zero (suc count) e = let wrong : ⊥ = omega arith in elim wrong [ ]

pub never-more : (count : ℕ) → (count ≡ 0 → ⊥) → is_never count ≡ false
never-more zero e = elim (e refl) [ ]
never-more (suc count) e = refl

pub plain-some : (es : List Entry) → (kept_tracks es ≡ [] → ⊥) → plain_list es ≡ Some (record { sizes = kept_tracks es; names = kept_names es; repeat = None })
plain-some es some = rw (true_from_ne_false (has_track es) (λ h. some (ap (take 10000) (none-kept es h)))) refl

few : (n : ℕ) (xs : List Track) → length (take n xs) ≤ n
few zero xs = omega arith
few (suc n) [] = omega arith
few (suc n) (x ∷ xs) = omega (arith, few n xs)

pub kept-few : (es : List Entry) → length (kept_tracks es) ≤ 10000
kept-few es = few 10000 (tracks_of es)

-- ---- the first automatic repeat

abbrev without_repeat : List Track → List (List Word) → Option ReadList
without_repeat sizes names = Some (record { sizes = sizes; names = names; repeat = None })

pub same-list : (sizes tracks : List Track) (names lines : List (List Word)) → sizes ≡ tracks → names ≡ lines → without_repeat tracks lines ≡ without_repeat sizes names
same-list sizes tracks names lines e f = rw (e, f) refl

pub ruleset around = (fixed-parts, kept-few)

pub ruleset never = (never-zero, never-more)

pub list-parts : (relative : Bool) (words : List Word) → track_list relative words ≡ bind (all_from (part_first relative) words) (list_of [])
unfolding all_from
list-parts relative words = refl
