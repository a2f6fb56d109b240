-- The loops over entries: what is made of those before, and what of those that are left.
use Rattle.std.proofs.Common.{◌≡◌, ℕ, zero, suc, ◌+◌, ◌-◌, ◌≤◌, ◌<◌, Bool, true, false, not, ◌||◌, List, [], ◌∷◌, ◌++◌, take, drop, get_or, length, ap, refl, sym, ◌∙◌, arith, if◌then◌else◌, cond, drop-cons, add-one}
use Rattle.std.proofs.lemmas.List.{append-nil, append_assoc, drop_all, take-append-drop}
use Rattle.std.proofs.lemmas.List.Folds.{list_any-append}
use Rattle.std.proofs.lemmas.Map.Text.{is_eq-slice_cmp}
use Rattle.std.proofs.lemmas.Slice.Eq.{bytes_eq-Decides}
use Rattle.std.proofs.lemmas.Bool.{true≢false}
use Rattle.std.specs.Bool.{one_answer}
use Rattle.std.specs.Str.{bytes_eq}
use Rattle.std.specs.BTreeSet.{BTreeSet, contains, Updates, IsEmpty}
use Rattle.std.specs.Ordering.{nat_cmp}
use Rattle.std.specs.Cmp.Lexicographic.{slice_cmp}
use Rattle.track_text.specs.declared.side.Track.{Track}
use Rattle.track_text.specs.declared.entry.Entry.{Entry}
use Rattle.track_text.specs.declared.entry.Entry.TheVariants as entry
use Rattle.track_text.specs.Words.{Word}
use Rattle.track_text.specs.NameSets.{is_among, with_names}
use Rattle.track_text.specs.Repeats.{is_track}
use Rattle.track_text.specs.Templates.{tracks_of, onto_first_line, lines_of}
use Rattle.track_text.specs.Kept.{trim, thin}

pub from_item : {A : Type 0} (xs : List A) (i : ℕ) (d : A) → i < length xs → drop i xs ≡ get_or xs i d ∷ drop (i + 1) xs
from_item xs i d h = rw add-one (drop-cons xs i d h)

pub from_there : {A : Type 0} (xs : List A) (i : ℕ) (x : A) → i < length xs → get_or xs i x ≡ x → drop i xs ≡ x ∷ drop (i + 1) xs
from_there xs i x h e = from_item xs i x h ∙ ap (λ (y : _). y ∷ drop (i + 1) xs) e

-- ---- the set of names

same_either_way : (xs ys : Word) → bytes_eq xs ys ≡ bytes_eq ys xs
same_either_way xs ys = one_answer (bytes_eq xs ys) (bytes_eq ys xs) (bytes_eq-Decides xs ys) (λ h. sym ((bytes_eq-Decides ys xs).0 h), λ e. (bytes_eq-Decides ys xs).1 (sym e))

-- the set has the names
pub record Holds (set : BTreeSet Word) (names : List Word) : Type 0 where
  pub has : (name : Word) → contains (slice_cmp nat_cmp) set name ≡ is_among names name

added : (here before : Bool) → cond here true before ≡ (before || (here || false))
added true true = refl
added true false = refl
added false true = refl
added false false = refl

pub holds_more : (set larger : BTreeSet Word) (names : List Word) (name : Word) → Holds set names → Updates (slice_cmp nat_cmp) set larger name true → Holds larger (names ++ name ∷ [])
holds_more set larger names name h u = record {
  has = λ other.
      u.0 other
      ∙ rw (is_eq-slice_cmp name other, h.has other, list_any-append (bytes_eq other) names (name ∷ []), same_either_way other name)
      (added (bytes_eq name other) (is_among names other));
}

pub holds_none : (set : BTreeSet Word) → IsEmpty set → Holds set []
holds_none set e = record { has = λ other. rw e refl }

not_false : (b : Bool) → not b ≡ false → b ≡ true
not_false true h = refl
not_false false h = sym h

not_true : (b : Bool) → not b ≡ true → b ≡ false
not_true true h = sym h
not_true false h = refl

pub is_taken : (set : BTreeSet Word) (names : List Word) (name : Word) (added : Bool) → Holds set names → added ≡ not (contains (slice_cmp nat_cmp) set name) → added ≡ false → is_among names name ≡ true
is_taken set names name added h e f = sym (h.has name) ∙ not_false (contains (slice_cmp nat_cmp) set name) (sym e ∙ f)

pub is_free : (set : BTreeSet Word) (names : List Word) (name : Word) (added : Bool) → Holds set names → added ≡ not (contains (slice_cmp nat_cmp) set name) → added ≡ true → is_among names name ≡ false
is_free set names name added h e f = sym (h.has name) ∙ not_true (contains (slice_cmp nat_cmp) set name) (sym e ∙ f)

pub holds_old : (set larger : BTreeSet Word) (names : List Word) (name : Word) → Holds set names → Updates (slice_cmp nat_cmp) set larger name true → is_among names name ≡ true → Holds larger names
holds_old set larger names name h u m = record {
  has = λ other.
      u.0 other
      ∙ rw (is_eq-slice_cmp name other, h.has other) (by_test other (bytes_eq name other) refl);
} where
  by_test : (other : Word) (b : Bool) → bytes_eq name other ≡ b → cond b true (is_among names other) ≡ is_among names other
  by_test other true t = sym m ∙ ap (is_among names) ((bytes_eq-Decides name other).0 t)
  by_test other false t = refl

-- ---- distinct names

pub distinct_last : (set names : List Word) (i : ℕ) → length names ≤ i → with_names set (drop i names) ≡ set
distinct_last set names i h = rw (drop_all i names h) refl

pub distinct_new : (set left : List Word) (name : Word) (rest : List Word) → left ≡ name ∷ rest → is_among set name ≡ false → with_names set left ≡ with_names (set ++ name ∷ []) rest
distinct_new set left name rest e m = ap (with_names set) e ∙ ap (λ (b : Bool). with_names (if b then set else set ++ name ∷ []) rest) m

pub distinct_old : (set left : List Word) (name : Word) (rest : List Word) → left ≡ name ∷ rest → is_among set name ≡ true → with_names set left ≡ with_names set rest
distinct_old set left name rest e m = ap (with_names set) e ∙ ap (λ (b : Bool). with_names (if b then set else set ++ name ∷ []) rest) m

-- ---- entries without repeated names

-- the set has the names so far of the line that is open
pub record Thinning (set : BTreeSet Word) (out left all : List Entry) : Type 0 where
  pub seen : List Word
  pub holds : Holds set seen
  pub rest : out ++ thin seen left ≡ thin [] all

pub thinning_first : (set : BTreeSet Word) (es : List Entry) → IsEmpty set → Thinning set [] es es
thinning_first set es e = record { seen = []; holds = holds_none set e; rest = refl }

pub thinning_last : (set : BTreeSet Word) (out es : List Entry) (i : ℕ) → Thinning set out (drop i es) es → length es ≤ i → out ≡ thin [] es
thinning_last set out es i t h = sym (append-nil out) ∙ ap (λ (left : List Entry). out ++ thin t.seen left) (sym (drop_all i es h)) ∙ t.rest

pub thinning_track : (set cleared : BTreeSet Word) (out left rest es : List Entry) (x : Entry) (size : Track) → Thinning set out left es → left ≡ x ∷ rest → x ≡ entry.Track size → IsEmpty cleared
    → Thinning cleared (out ++ x ∷ []) rest es
thinning_track set cleared out left rest es x size t e k c = record {
  seen = [];
  holds = holds_none cleared c;
  rest = append_assoc out (x ∷ []) (thin [] rest)
      ∙ ap (λ (x : Entry). out ++ x ∷ thin [] rest) k
      ∙ ap (λ (left : List Entry). out ++ thin t.seen left) (ap (λ (x : Entry). x ∷ rest) (sym k) ∙ sym e)
      ∙ t.rest;
}

thin_new : (seen : List Word) (name : Word) (es : List Entry) → is_among seen name ≡ false → thin seen (entry.Named name ∷ es) ≡ entry.Named name ∷ thin (seen ++ name ∷ []) es
thin_new seen name es m = rw m refl

thin_old : (seen : List Word) (name : Word) (es : List Entry) → is_among seen name ≡ true → thin seen (entry.Named name ∷ es) ≡ thin seen es
thin_old seen name es m = rw m refl

pub thinning_new : (set larger : BTreeSet Word) (out left rest es : List Entry) (x : Entry) (name : Word) (added : Bool) → Thinning set out left es → left ≡ x ∷ rest → x ≡ entry.Named name
    → Updates (slice_cmp nat_cmp) set larger name true → added ≡ not (contains (slice_cmp nat_cmp) set name) → added ≡ true
    → Thinning larger (out ++ x ∷ []) rest es
thinning_new set larger out left rest es x name added t e k u a n = record {
  seen = t.seen ++ name ∷ [];
  holds = holds_more set larger t.seen name t.holds u;
  rest = append_assoc out (x ∷ []) (thin (t.seen ++ name ∷ []) rest)
      ∙ ap (λ (x : Entry). out ++ x ∷ thin (t.seen ++ name ∷ []) rest) k
      ∙ ap (λ (left : List Entry). out ++ left) (sym (thin_new t.seen name rest (is_free set t.seen name added t.holds a n)))
      ∙ ap (λ (left : List Entry). out ++ thin t.seen left) (ap (λ (x : Entry). x ∷ rest) (sym k) ∙ sym e)
      ∙ t.rest;
}

pub thinning_old : (set larger : BTreeSet Word) (out left rest es : List Entry) (x : Entry) (name : Word) (added : Bool) → Thinning set out left es → left ≡ x ∷ rest → x ≡ entry.Named name
    → Updates (slice_cmp nat_cmp) set larger name true → added ≡ not (contains (slice_cmp nat_cmp) set name) → added ≡ false
    → Thinning larger out rest es
thinning_old set larger out left rest es x name added t e k u a n =
    let m : is_among t.seen name ≡ true = is_taken set t.seen name added t.holds a n in
    record {
      seen = t.seen;
      holds = holds_old set larger t.seen name t.holds u m;
      rest = ap (λ (left : List Entry). out ++ left) (sym (thin_old t.seen name rest m))
          ∙ ap (λ (left : List Entry). out ++ thin t.seen left) (ap (λ (x : Entry). x ∷ rest) (sym k) ∙ sym e)
          ∙ t.rest;
    }

-- ---- entries before the first track that is not kept

-- ---- tracks

pub tracks_last : (tracks : List Track) (es : List Entry) (i : ℕ) → length es ≤ i → tracks ++ tracks_of (drop i es) ≡ tracks
tracks_last tracks es i h = rw (drop_all i es h) (append-nil tracks)

-- ---- lines

-- the names of the open line, before those of the lines that are left
abbrev pub seam : List Word → List (List Word) → List (List Word)
seam line [] = line ∷ []
seam line (first ∷ lines) = (line ++ first) ∷ lines

pub seam_name : (line : List Word) (name : Word) (lines : List (List Word)) → seam (line ++ name ∷ []) lines ≡ seam line (onto_first_line name lines)
seam_name line name [] = refl
seam_name line name (first ∷ lines) = ap (λ (xs : List Word). xs ∷ lines) (append_assoc line (name ∷ []) first)

pub seam_first : (es : List Entry) → seam [] (lines_of es) ≡ lines_of es
seam_first [] = refl
seam_first (entry.Track size ∷ es) = refl
seam_first (entry.Named name ∷ es) = by_lines (lines_of es) where
  by_lines : (lines : List (List Word)) → seam [] (onto_first_line name lines) ≡ onto_first_line name lines
  by_lines [] = refl
  by_lines (line ∷ lines) = refl

pub lines_first : (es : List Entry) → [] ++ seam [] (lines_of es) ≡ lines_of es
lines_first es = seam_first es

pub lines_last : (lines : List (List Word)) (line : List Word) (es : List Entry) (i : ℕ) → length es ≤ i → lines ++ seam line (lines_of (drop i es)) ≡ lines ++ line ∷ []
lines_last lines line es i h = rw (drop_all i es h) (ap (λ (xs : List Word). lines ++ xs ∷ []) (append-nil line))

pub lines_at_track : (lines : List (List Word)) (line : List Word) (es : List Entry) (i : ℕ) (d : Entry) (size : Track) → i < length es → get_or es i d ≡ entry.Track size
    → (lines ++ line ∷ []) ++ seam [] (lines_of (drop (i + 1) es)) ≡ lines ++ seam line (lines_of (drop i es))
lines_at_track lines line es i d size h e =
    ap (λ (xs : List (List Word)). (lines ++ line ∷ []) ++ xs) (seam_first (drop (i + 1) es))
    ∙ append_assoc lines (line ∷ []) (lines_of (drop (i + 1) es))
    ∙ ap (λ (xs : List Word). lines ++ xs ∷ lines_of (drop (i + 1) es)) (sym (append-nil line))
    ∙ ap (λ (xs : List Entry). lines ++ seam line (lines_of xs)) (ap (λ (x : Entry). x ∷ drop (i + 1) es) (sym e) ∙ sym (from_item es i d h))

pub lines_at_name : (lines : List (List Word)) (line : List Word) (es : List Entry) (i : ℕ) (d : Entry) (name : Word) → i < length es → get_or es i d ≡ entry.Named name
    → lines ++ seam (line ++ name ∷ []) (lines_of (drop (i + 1) es)) ≡ lines ++ seam line (lines_of (drop i es))
lines_at_name lines line es i d name h e =
    ap (λ (xs : List (List Word)). lines ++ xs) (seam_name line name (lines_of (drop (i + 1) es)))
    ∙ ap (λ (xs : List Entry). lines ++ seam line (lines_of xs)) (ap (λ (x : Entry). x ∷ drop (i + 1) es) (sym e) ∙ sym (from_item es i d h))

pub ruleset lines = (lines_first, lines_last, lines_at_track, lines_at_name)

pub ruleset different = (distinct_last, distinct_new, distinct_old, holds_none, holds_more, holds_old, is_taken, is_free)

pub ruleset thinning = (thinning_first, thinning_last, thinning_track, thinning_new, thinning_old)
