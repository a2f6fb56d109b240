-- The words of templates, of which none is unsupported; and the sets after `subgrid`, read again.
use Rattle.std.proofs.Common.{◌≡◌, ℕ, zero, suc, pos, ◌+◌, ◌<◌, ◌≤◌, Bool, true, false, not, ◌&&◌, ◌||◌, ◌==◌, List, [], ◌∷◌, ◌++◌, length, take, drop, replicate, refl, ap, sym, subst, ◌∙◌, arith, if◌then◌else◌, Option, Some, None, codes}
use Rattle.std.specs.Prelude.{⊤}
use Rattle.std.specs.List.{list_all}
use Rattle.std.specs.Option.{option_map}
use Rattle.std.specs.Cmp.Lexicographic.{pointwise}
use Rattle.std.specs.Str.{bytes_eq}
use Rattle.std.proofs.lemmas.Bool.{and_parts, and_from, ltb-true, eqb-true, and_right}
use Rattle.std.proofs.lemmas.List.{append_assoc, append-nil, length-take, take_all, drop-drop}
use Rattle.std.proofs.lemmas.List.Folds.{list_all-append}
use Rattle.std.proofs.lemmas.Slice.Eq.{bytes_eq-Decides, slice_eq-Decides}
use Rattle.track_text.specs.declared.side.Track.{Track}
use Rattle.track_text.specs.declared.side.ReadRepeat.{ReadRepeat}
use Rattle.track_text.specs.declared.side.ReadList.{ReadList}
use Rattle.track_text.specs.declared.entry.Sets.{Sets}
use Rattle.track_text.specs.Words.{Word, bind, past, front, begins_with, all_of, all_from, up_to, rest_up_to}
use Rattle.track_text.specs.NameSets.{is_line_name, names_after}
use Rattle.track_text.specs.Repeats.{times, count_of}
use Rattle.track_text.specs.Sides.{repeat_value, repeat_units}
use Rattle.track_text.specs.Templates.{distinct_read, set_first, sets_or_none, sets_after, sets_times, set_repeat_after, set_once, sets_first, sets_of, subgrid_of, subgrid_value, template_of}
use Rattle.track_text.specs.PlainText.{AreSets}
use Rattle.track_text.specs.Unsupported.{outside, is_one_of, is_measured, wide_keywords, functions, automatic_counts, is_masonry, is_unsupported}
use Rattle.track_text.proofs.Rests.{at_form, at_close, nothing_before}
use Rattle.track_text.proofs.Scans.{found, here, all_left, none_left, in_brackets, not_here}
use Rattle.track_text.proofs.SubgridSets.{set_named, some_sets, set_repeat, set_single, subgrid_parts}
use Rattle.value_text.specs.declared.form.Form.TheVariants as form
use Rattle.value_text.specs.declared.form.Refused.TheVariants as refused
use Rattle.value_text.specs.ValueText.{template_value}
use Rattle.doc_writer.specs.Numbers.{integer}
use Rattle.doc_writer.specs.Tracks.{track_words, set_words, shown_set, repeat_words, repeated, has_room, is_empty, same_track, first_set, goes_on, run_words, tracks_words, plain_words, filling_word, automatic_words, around_words, list_words, set_runs, sets_words}
use Rattle.doc_writer.proofs.LengthsBack.{integer_numeral}
use Rattle.doc_writer.proofs.Told.{Every, every_map, every_bind, every_if, every_so}
use Rattle.doc_writer.proofs.QuietBack.{starts, starts_not, none_starts, number_starts, numeral_not_measured, name_not}
use Rattle.doc_writer.proofs.ValuesBack.{is_value_token, name_token, numeral_token, IsBack}
use Rattle.doc_writer.proofs.SidesBack.{IsTrack, AllHold, all_told, all_next, both_hold, tracks_again, IsStill, still_track}
use Rattle.doc_writer.proofs.EntriesBack.{count_small, count_read, set_read, set_then, IsSet, sets_told_names, up_to_told, anything, IsRun}
use Rattle.doc_writer.proofs.ListsTold.{IsListOf, IsList}

-- ---- words that are passed over

-- nothing is found in these words of a template, `subgrid` having stood before them where the second argument says so
pub record Passes (relative after : Bool) (words : List Word) : Type 0 where
  pub quiet : (rest : List Word) → found relative after (outside false (words ++ rest)) ≡ found relative after (outside false rest)
  pub tokens : list_all is_value_token words ≡ true

no_words : (relative after : Bool) → Passes relative after []
no_words relative after = record { quiet = λ rest. refl; tokens = refl }

both_pass : (relative after : Bool) (ws vs : List Word) → Passes relative after ws → Passes relative after vs → Passes relative after (ws ++ vs)
both_pass relative after ws vs p q = record {
  quiet = λ rest. ap (λ (w : List Word). found relative after (outside false w)) (append_assoc ws vs rest) ∙ p.quiet (vs ++ rest) ∙ q.quiet rest;
  tokens = list_all-append is_value_token ws vs ∙ and_from (list_all is_value_token ws) (list_all is_value_token vs) p.tokens q.tokens;
}

pub record PassesWord (relative after : Bool) (word : Word) : Type 0 where
  pub none : (rest : List Word) → here relative after word rest ≡ false
  pub bracket : bytes_eq word (codes "[") ≡ false
  pub subgrid : (after || bytes_eq word (codes "subgrid")) ≡ after
  pub token : is_value_token word ≡ true

one_pass : (relative after : Bool) (word : Word) (words : List Word) → PassesWord relative after word → Passes relative after words → Passes relative after (word ∷ words)
one_pass relative after word words w p = record {
  quiet = λ rest.
      not_here relative after word (words ++ rest) (w.none (words ++ rest))
      ∙ ap (λ (b : Bool). found relative b (outside (bytes_eq word (codes "[")) (words ++ rest))) w.subgrid
      ∙ ap (λ (b : Bool). found relative after (outside b (words ++ rest))) w.bracket
      ∙ p.quiet rest;
  tokens = and_from (is_value_token word) (list_all is_value_token words) w.token p.tokens;
}

none_by : (w m f n y c : Bool) → w ≡ false → m ≡ false → f ≡ false → y ≡ false → c ≡ false → ((w || (m || (f && n))) || (y || c)) ≡ false
none_by w m f n y c wh mh fh yh ch = rw (wh, mh, fh, yh, ch) refl

still_pass : (relative : Bool) (word : Word) → IsStill relative word → PassesWord relative false word
still_pass relative word s = record {
  none = λ rest. none_by (is_one_of wide_keywords word) (is_measured relative word) (is_one_of functions word) (begins_with (codes "(") rest) (is_masonry word) false s.wide s.measured s.function s.masonry refl;
  bracket = s.bracket;
  subgrid = s.subgrid;
  token = s.token;
}

all_still : (relative : Bool) (words : List Word) → AllHold (IsStill relative) words → Passes relative false words
all_still relative [] h = no_words relative false
all_still relative (word ∷ words) h = one_pass relative false word words (still_pass relative word h.0) (all_still relative words h.1)

abbrev Anywhere : Word → Type 0
Anywhere word = (relative after : Bool) → PassesWord relative after word

pass_repeat : Anywhere (codes "repeat")
pass_repeat true true = record { none = λ rest. refl; bracket = refl; subgrid = refl; token = refl }
pass_repeat true false = record { none = λ rest. refl; bracket = refl; subgrid = refl; token = refl }
pass_repeat false true = record { none = λ rest. refl; bracket = refl; subgrid = refl; token = refl }
pass_repeat false false = record { none = λ rest. refl; bracket = refl; subgrid = refl; token = refl }

pass_opening : Anywhere (codes "(")
pass_opening true true = record { none = λ rest. refl; bracket = refl; subgrid = refl; token = refl }
pass_opening true false = record { none = λ rest. refl; bracket = refl; subgrid = refl; token = refl }
pass_opening false true = record { none = λ rest. refl; bracket = refl; subgrid = refl; token = refl }
pass_opening false false = record { none = λ rest. refl; bracket = refl; subgrid = refl; token = refl }

pass_comma : Anywhere (codes ",")
pass_comma true true = record { none = λ rest. refl; bracket = refl; subgrid = refl; token = refl }
pass_comma true false = record { none = λ rest. refl; bracket = refl; subgrid = refl; token = refl }
pass_comma false true = record { none = λ rest. refl; bracket = refl; subgrid = refl; token = refl }
pass_comma false false = record { none = λ rest. refl; bracket = refl; subgrid = refl; token = refl }

pass_closing : Anywhere (codes ")")
pass_closing true true = record { none = λ rest. refl; bracket = refl; subgrid = refl; token = refl }
pass_closing true false = record { none = λ rest. refl; bracket = refl; subgrid = refl; token = refl }
pass_closing false true = record { none = λ rest. refl; bracket = refl; subgrid = refl; token = refl }
pass_closing false false = record { none = λ rest. refl; bracket = refl; subgrid = refl; token = refl }

pass_filling : (relative fit : Bool) → PassesWord relative false (filling_word fit)
pass_filling true true = record { none = λ rest. refl; bracket = refl; subgrid = refl; token = refl }
pass_filling true false = record { none = λ rest. refl; bracket = refl; subgrid = refl; token = refl }
pass_filling false true = record { none = λ rest. refl; bracket = refl; subgrid = refl; token = refl }
pass_filling false false = record { none = λ rest. refl; bracket = refl; subgrid = refl; token = refl }

or_false : (a b : Bool) → b ≡ false → (a || b) ≡ a
or_false true b h = refl
or_false false b h = h

pass_count : (relative after : Bool) (count : ℕ) → count ≤ 10000 → PassesWord relative after (integer (pos count))
pass_count relative after count few =
    let w : Word = integer (pos count) in
    let s : starts w ≡ true = number_starts 1 (pos count) (count_small count few) in
    let n = integer_numeral (pos count) (omega (arith, few)) in
    record {
      none = λ rest. none_by (is_one_of wide_keywords w) (is_measured relative w) (is_one_of functions w) (begins_with (codes "(") rest) (is_masonry w) (after && is_one_of automatic_counts w)
          (none_starts w wide_keywords s refl) (numeral_not_measured relative w n) (none_starts w functions s refl) (starts_not w (codes "masonry") s refl) (and_right after (is_one_of automatic_counts w) (none_starts w automatic_counts s refl));
      bracket = starts_not w (codes "[") s refl;
      subgrid = or_false after (bytes_eq w (codes "subgrid")) (starts_not w (codes "subgrid") s refl);
      token = numeral_token w n;
    }

opening_not : (relative after : Bool) (rest : List Word) → here relative after (codes "[") rest ≡ false
opening_not true true rest = refl
opening_not true false rest = refl
opening_not false true rest = refl
opening_not false false rest = refl

names_pass : (relative after : Bool) (names rest : List Word) → list_all is_line_name names ≡ true → found relative after (outside true (names ++ codes "]" ∷ rest)) ≡ found relative after (outside false rest)
names_pass relative after [] rest h = in_brackets relative after (codes "]") rest
names_pass relative after (name ∷ names) rest h =
    let parts = and_parts (is_line_name name) (list_all is_line_name names) h in
    in_brackets relative after name (names ++ codes "]" ∷ rest)
    ∙ ap (λ (b : Bool). found relative after (outside (not b) (names ++ codes "]" ∷ rest))) (name_not name (codes "]") parts.0 refl)
    ∙ names_pass relative after names rest parts.1

name_tokens : (names : List Word) → list_all is_line_name names ≡ true → list_all is_value_token names ≡ true
name_tokens [] h = refl
name_tokens (name ∷ names) h =
    let parts = and_parts (is_line_name name) (list_all is_line_name names) h in
    and_from (is_value_token name) (list_all is_value_token names) (name_token name parts.0) (name_tokens names parts.1)

pub set_pass : (relative after : Bool) (names : List Word) → list_all is_line_name names ≡ true → Passes relative after (set_words names)
set_pass relative after names h = record {
  quiet = λ rest.
      ap (λ (ws : List Word). found relative after (outside false ws)) (set_then names rest)
      ∙ not_here relative after (codes "[") (names ++ codes "]" ∷ rest) (opening_not relative after (names ++ codes "]" ∷ rest))
      ∙ ap (λ (b : Bool). found relative b (outside true (names ++ codes "]" ∷ rest))) (or_false after false refl)
      ∙ names_pass relative after names rest h;
  tokens = list_all-append is_value_token names (codes "]" ∷ []) ∙ and_from (list_all is_value_token names) true (name_tokens names h) refl;
}

shown_pass : (relative : Bool) (names : List Word) → list_all is_line_name names ≡ true → Passes relative false (shown_set names)
shown_pass relative [] h = no_words relative false
shown_pass relative (name ∷ names) h = set_pass relative false (name ∷ names) h

-- ---- runs and lists

repeat_pass : (relative after : Bool) (word : Word) → PassesWord relative after word → Passes relative after (repeat_words word)
repeat_pass relative after word w =
    one_pass relative after (codes "repeat") (codes "(" ∷ word ∷ codes "," ∷ []) (pass_repeat relative after)
    (one_pass relative after (codes "(") (word ∷ codes "," ∷ []) (pass_opening relative after)
    (one_pass relative after word (codes "," ∷ []) w
    (one_pass relative after (codes ",") [] (pass_comma relative after) (no_words relative after))))

repeated_pass : (relative after : Bool) (count : ℕ) (words : List Word) → count ≤ 10000 → Passes relative after words → Passes relative after (repeated count words)
repeated_pass relative after count words few p = by_test (count == 1) where
  by_test : (b : Bool) → Passes relative after (if b then words else repeat_words (integer (pos count)) ++ (words ++ codes ")" ∷ []))
  by_test true = p
  by_test false =
      both_pass relative after (repeat_words (integer (pos count))) (words ++ codes ")" ∷ []) (repeat_pass relative after (integer (pos count)) (pass_count relative after count few))
      (both_pass relative after words (codes ")" ∷ []) p (one_pass relative after (codes ")") [] (pass_closing relative after) (no_words relative after)))

track_pass : (relative : Bool) (t : Track) → IsTrack relative t → Passes relative false (track_words t)
track_pass relative t h = all_still relative (track_words t) (still_track relative t h)

first_names : (lines : List (List Word)) → AreSets lines → list_all is_line_name (first_set lines) ≡ true
first_names [] s = refl
first_names (names ∷ lines) s = s.0

rest_sets : (lines : List (List Word)) → AreSets lines → AreSets (drop 1 lines)
rest_sets [] s = tt
rest_sets (names ∷ lines) s = s.2

runs_pass : (relative : Bool) (t : Track) (count : ℕ) (lines : List (List Word)) (tracks : List Track) → IsTrack relative t → count ≤ 10000 → AreSets lines → AllHold (IsTrack relative) tracks → Passes relative false (run_words t count lines tracks)
runs_pass relative t count lines [] h few s a =
    both_pass relative false (repeated count (track_words t)) (shown_set (first_set lines)) (repeated_pass relative false count (track_words t) few (track_pass relative t h)) (shown_pass relative (first_set lines) (first_names lines s))
runs_pass relative t count lines (next ∷ tracks) h few s a =
    by_test (goes_on t count (first_set lines) next) refl
    (λ more. runs_pass relative t (count + 1) (drop 1 lines) tracks h (omega (arith, more)) (rest_sets lines s) a.1)
    (runs_pass relative next 1 (drop 1 lines) tracks a.0 (omega arith) (rest_sets lines s) a.1) where
      by_test : (b : Bool) → goes_on t count (first_set lines) next ≡ b
          → (count < 10000 → Passes relative false (run_words t (count + 1) (drop 1 lines) tracks)) → Passes relative false (run_words next 1 (drop 1 lines) tracks)
          → Passes relative false (if b then run_words t (count + 1) (drop 1 lines) tracks else repeated count (track_words t) ++ (shown_set (first_set lines) ++ run_words next 1 (drop 1 lines) tracks))
      by_test true e more rest = more (ltb-true count 10000 (and_parts (has_room count) (is_empty (first_set lines) && same_track t next) e).0)
      by_test false e more rest =
          both_pass relative false (repeated count (track_words t)) (shown_set (first_set lines) ++ run_words next 1 (drop 1 lines) tracks) (repeated_pass relative false count (track_words t) few (track_pass relative t h))
          (both_pass relative false (shown_set (first_set lines)) (run_words next 1 (drop 1 lines) tracks) (shown_pass relative (first_set lines) (first_names lines s)) rest)

tracks_pass : (relative : Bool) (lines : List (List Word)) (tracks : List Track) → AreSets lines → AllHold (IsTrack relative) tracks → Passes relative false (tracks_words lines tracks)
tracks_pass relative lines [] s a = shown_pass relative (first_set lines) (first_names lines s)
tracks_pass relative lines (t ∷ tracks) s a =
    both_pass relative false (shown_set (first_set lines)) (run_words t 1 (drop 1 lines) tracks) (shown_pass relative (first_set lines) (first_names lines s)) (runs_pass relative t 1 (drop 1 lines) tracks a.0 (omega arith) (rest_sets lines s) a.1)

plain_pass : (relative : Bool) (lines : List (List Word)) (tracks : List Track) → AreSets lines → AllHold (IsTrack relative) tracks → Passes relative false (plain_words lines tracks)
plain_pass relative lines [] s a = shown_pass relative (first_set lines) (first_names lines s)
plain_pass relative lines (t ∷ tracks) s a =
    both_pass relative false (shown_set (first_set lines)) (track_words t ++ plain_words (drop 1 lines) tracks) (shown_pass relative (first_set lines) (first_names lines s))
    (both_pass relative false (track_words t) (plain_words (drop 1 lines) tracks) (track_pass relative t a.0) (plain_pass relative (drop 1 lines) tracks (rest_sets lines s) a.1))

take_sets : (n : ℕ) (lines : List (List Word)) → AreSets lines → AreSets (take n lines)
take_sets zero lines s = tt
take_sets (suc n) [] s = tt
take_sets (suc n) (names ∷ lines) s = (s.0, s.1, take_sets n lines s.2)

drop_sets : (n : ℕ) (lines : List (List Word)) → AreSets lines → AreSets (drop n lines)
drop_sets zero lines s = s
drop_sets (suc n) [] s = tt
drop_sets (suc n) (names ∷ lines) s = drop_sets n lines s.2

both_sets : (xs ys : List (List Word)) → AreSets xs → AreSets ys → AreSets (xs ++ ys)
both_sets [] ys s t = t
both_sets (names ∷ xs) ys s t = (s.0, s.1, both_sets xs ys s.2 t)

take_hold : (relative : Bool) (n : ℕ) (ts : List Track) → AllHold (IsTrack relative) ts → AllHold (IsTrack relative) (take n ts)
take_hold relative zero ts h = tt
take_hold relative (suc n) [] h = tt
take_hold relative (suc n) (t ∷ ts) h = (h.0, take_hold relative n ts h.1)

drop_hold : (relative : Bool) (n : ℕ) (ts : List Track) → AllHold (IsTrack relative) ts → AllHold (IsTrack relative) (drop n ts)
drop_hold relative zero ts h = h
drop_hold relative (suc n) [] h = tt
drop_hold relative (suc n) (t ∷ ts) h = drop_hold relative n ts h.1

around_pass : (relative : Bool) (names : List (List Word)) (sizes : List Track) (r : ReadRepeat) → AreSets names → AllHold (IsTrack relative) sizes → AreSets r.names → AllHold (IsTrack relative) r.sizes → Passes relative false (around_words names sizes (repeat_value r) r.sizes)
around_pass relative names sizes r s a rs ra =
    both_pass relative false (tracks_words (take (r.before + 1) names) (take r.before sizes)) (automatic_words (repeat_value r) r.sizes ++ tracks_words (drop (r.before + 1) names) (drop r.before sizes))
    (tracks_pass relative (take (r.before + 1) names) (take r.before sizes) (take_sets (r.before + 1) names s) (take_hold relative r.before sizes a))
    (both_pass relative false (automatic_words (repeat_value r) r.sizes) (tracks_words (drop (r.before + 1) names) (drop r.before sizes))
    (both_pass relative false (repeat_words (filling_word r.auto_fit)) (plain_words r.names r.sizes ++ codes ")" ∷ []) (repeat_pass relative false (filling_word r.auto_fit) (pass_filling relative r.auto_fit))
    (both_pass relative false (plain_words r.names r.sizes) (codes ")" ∷ []) (plain_pass relative r.names r.sizes rs ra) (one_pass relative false (codes ")") [] (pass_closing relative false) (no_words relative false))))
    (tracks_pass relative (drop (r.before + 1) names) (drop r.before sizes) (drop_sets (r.before + 1) names s) (drop_hold relative r.before sizes a)))

list_pass : (relative : Bool) (sizes : List Track) (names : List (List Word)) (repeat : Option ReadRepeat) → IsListOf relative sizes names repeat → Passes relative false (list_words names (option_map repeat_value repeat) (sizes, repeat_units repeat))
list_pass relative sizes names None h = let run : IsRun relative sizes names = h.0 in tracks_pass relative names sizes run.sets run.tracks
list_pass relative sizes names (Some r) a =
    subst (λ (ts : List Track). Passes relative false (around_words names sizes (repeat_value r) ts)) (sym (ap (λ (read : List Track × List _). read.0) (tracks_again r.sizes [])))
    (around_pass relative names sizes r
    (subst AreSets (sym a.lines) (both_sets a.front_names a.back_names a.front_run.sets a.back_run.sets))
    (subst (AllHold (IsTrack relative)) (sym a.tracks) (both_hold (IsTrack relative) a.front a.back a.front_run.tracks a.back_run.tracks))
    a.body_run.sets a.body_run.tracks)

abbrev words_of_list : ReadList → List Word
words_of_list list = list_words list.names (option_map repeat_value list.repeat) (list.sizes, repeat_units list.repeat)

nothing_found : (relative after : Bool) (words : List Word) → Passes relative after words → found relative after (outside false words) ≡ false
nothing_found relative after words p = ap (λ (ws : List Word). found relative after (outside false ws)) (sym (append-nil words)) ∙ p.quiet [] ∙ none_left relative after false

pub list_quiet : (relative : Bool) (list : ReadList) → IsList relative list → is_unsupported relative (words_of_list list) ≡ false
list_quiet relative list h = sym (all_left relative (words_of_list list)) ∙ nothing_found relative false (words_of_list list) (list_pass relative list.sizes list.names list.repeat h)

pub list_tokens : (relative : Bool) (list : ReadList) → IsList relative list → list_all is_value_token (words_of_list list) ≡ true
list_tokens relative list h = (list_pass relative list.sizes list.names list.repeat h).tokens

-- ---- sets after `subgrid` that a text tells

set_told : (words : List Word) → Every (λ read. IsSet read.0) (set_first words)
set_told [] = tt
set_told (word ∷ words) = every_if (λ read. IsSet read.0) (bytes_eq word (codes "[")) (option_map distinct_read (names_after words)) None (λ _. every_map (λ read. IsSet read.0) distinct_read (names_after words) (sets_told_names words)) (λ _. tt)

sets_up_to : (taken : ℕ) (words : List Word) → Every (λ read. AllHold IsSet read.0) (up_to (codes ")") set_first taken words)
sets_up_to taken words = up_to_told IsSet (codes ")") set_first taken words set_told

some_told : (read : List (List Word) × ℕ) → AllHold IsSet read.0 → Every (λ read. AllHold IsSet read.0) (sets_or_none read)
some_told read h = by_sets read.0 read.1 h where
  by_sets : (sets : List (List Word)) (n : ℕ) → AllHold IsSet sets → Every (λ read. AllHold IsSet read.0) (sets_or_none (sets, n))
  by_sets [] n h = tt
  by_sets (set ∷ sets) n h = h

abbrev ArePart : Sets → Type 0
ArePart part = AllHold IsSet part.sets

repeat_told : (words : List Word) → Every (λ read. ArePart read.0) (set_repeat_after words)
repeat_told [] = tt
repeat_told (a ∷ []) = tt
repeat_told (a ∷ b ∷ []) = tt
repeat_told (a ∷ b ∷ c ∷ words) =
    every_if (λ read. ArePart read.0) (bytes_eq a (codes "(") && bytes_eq c (codes ",")) (bind (count_of b) (λ count. option_map (λ read. (sets_times count read.0, read.1 + 3)) (sets_after words))) None
    (λ _. every_bind (λ read. ArePart read.0) (λ _. ⊤) (λ count. option_map (λ read. (sets_times count read.0, read.1 + 3)) (sets_after words)) (count_of b) (anything (count_of b))
    (λ count u. every_map (λ read. ArePart read.0) (λ read. (sets_times count read.0, read.1 + 3)) (sets_after words)
    (every_bind (λ read. AllHold IsSet read.0) (λ read. AllHold IsSet read.0) sets_or_none (up_to (codes ")") set_first 0 words) (sets_up_to 0 words) some_told)))
    (λ _. tt)

part_told : (words : List Word) → Every (λ read. ArePart read.0) (sets_first words)
part_told [] = tt
part_told (word ∷ words) =
    every_if (λ read. ArePart read.0) (bytes_eq word (codes "repeat")) (set_repeat_after words) (option_map set_once (set_first (word ∷ words))) (λ _. repeat_told words)
    (λ _. every_map (λ read. ArePart read.0) set_once (set_first (word ∷ words)) (every_so (λ read. IsSet read.0) (λ read. ArePart (set_once read).0) (set_first (word ∷ words)) (λ read h. (h, tt)) (set_told (word ∷ words))))

times_hold : (count : ℕ) (sets : List (List Word)) → AllHold IsSet sets → AllHold IsSet (times count sets)
times_hold zero sets h = tt
times_hold (suc count) sets h = both_hold IsSet sets (times count sets) h (times_hold count sets h)

parts_hold : (parts : List Sets) → AllHold ArePart parts → AllHold IsSet (sets_of parts)
parts_hold [] h = tt
parts_hold (part ∷ parts) h = both_hold IsSet (times part.count part.sets) (sets_of parts) (times_hold part.count part.sets h.0) (parts_hold parts h.1)

take_told : (n : ℕ) (sets : List (List Word)) → AllHold IsSet sets → AllHold IsSet (take n sets)
take_told zero sets h = tt
take_told (suc n) [] h = tt
take_told (suc n) (set ∷ sets) h = (h.0, take_told n sets h.1)

abbrev AreLines : List (List Word) → Type 0
AreLines lines = AllHold IsSet lines × (length lines ≤ 20001)

lines_told : (words : List Word) → Every AreLines (subgrid_of words)
lines_told words =
    every_map AreLines (λ parts. take 20001 (sets_of parts)) (all_of sets_first 0 words) (every_so (AllHold ArePart) (λ parts. AreLines (take 20001 (sets_of parts))) (all_of sets_first 0 words)
    (λ parts h. (take_told 20001 (sets_of parts) (parts_hold parts h), omega (arith, length-take 20001 (sets_of parts)))) (all_told ArePart sets_first 0 words part_told))

-- ---- read again

-- the words stand for the sets
pub record HasSets (words : List Word) (lines : List (List Word)) : Type 0 where
  pub parts : List Sets
  pub reads : (rest : List Word) → all_from sets_first (words ++ rest) ≡ option_map (λ more. parts ++ more) (all_from sets_first rest)
  pub sets : sets_of parts ≡ lines

more_more : (xs ys : List Sets) (o : Option (List Sets)) → option_map (λ more. xs ++ more) (option_map (λ more. ys ++ more) o) ≡ option_map (λ more. (xs ++ ys) ++ more) o
more_more xs ys None = refl
more_more xs ys (Some zs) = ap Some (sym (append_assoc xs ys zs))

sets-append : (xs ys : List Sets) → sets_of (xs ++ ys) ≡ sets_of xs ++ sets_of ys
sets-append [] ys = refl
sets-append (part ∷ xs) ys = ap (λ (ls : List (List Word)). times part.count part.sets ++ ls) (sets-append xs ys) ∙ sym (append_assoc (times part.count part.sets) (sets_of xs) (sets_of ys))

both_have : (ws vs : List Word) (xs ys : List (List Word)) → HasSets ws xs → HasSets vs ys → HasSets (ws ++ vs) (xs ++ ys)
both_have ws vs xs ys h k = record {
  parts = h.parts ++ k.parts;
  reads = λ rest. ap (all_from sets_first) (append_assoc ws vs rest) ∙ h.reads (vs ++ rest) ∙ ap (option_map (λ (more : List Sets). h.parts ++ more)) (k.reads rest) ∙ more_more h.parts k.parts (all_from sets_first rest);
  sets = sets-append h.parts k.parts ∙ ap (λ (ls : List (List Word)). ls ++ sets_of k.parts) h.sets ∙ ap (λ (ls : List (List Word)). xs ++ ls) k.sets;
}

front_set : (names rest : List Word) → IsSet names → front set_first (set_words names ++ rest) ≡ Some (names, rest)
front_set names rest h =
    ap (front set_first) (set_then names rest)
    ∙ set_named (codes "[") (names ++ codes "]" ∷ rest) refl
    ∙ ap (option_map distinct_read) (set_read names rest h.0)
    ∙ ap (λ (ns : List Word). Some (ns, rest)) h.1

times_set : (count : ℕ) (names : List Word) → times count (names ∷ []) ≡ replicate count names
times_set zero names = refl
times_set (suc count) names = ap (λ (ls : List (List Word)). names ∷ ls) (times_set count names)

one_set : (names : List Word) → IsSet names → HasSets (set_words names) (replicate 1 names)
one_set names h = record {
  parts = sets_times 1 (names ∷ []) ∷ [];
  reads = λ rest. all_next sets_first (set_words names ++ rest) rest (sets_times 1 (names ∷ []))
      (set_single (codes "[") ((names ++ codes "]" ∷ []) ++ rest) refl ∙ ap (option_map set_once) (front_set names rest h));
  sets = refl;
}

past_three : (a b c : Word) (words : List Word) (count : ℕ) (read : Option (List (List Word) × ℕ)) → option_map (past (a ∷ b ∷ c ∷ words)) (option_map (λ r. (sets_times count r.0, r.1 + 3)) read) ≡ option_map (λ r. (sets_times count r.0, r.1)) (option_map (past words) read)
past_three a b c words count None = refl
past_three a b c words count (Some read) =
    ap (λ (ws : List Word). Some (sets_times count read.0, ws)) (ap (λ (n : ℕ). drop n (a ∷ b ∷ c ∷ words)) (let e : read.1 + 3 ≡ 3 + read.1 = omega arith in e) ∙ sym (drop-drop read.1 3 (a ∷ b ∷ c ∷ words)))

sets_read : (names rest : List Word) → IsSet names → option_map (past (set_words names ++ codes ")" ∷ rest)) (sets_after (set_words names ++ codes ")" ∷ rest)) ≡ Some (names ∷ [], rest)
sets_read names rest h =
    some_sets (set_words names ++ codes ")" ∷ rest)
    ∙ ap (λ (o : Option (List (List Word) × List Word)). bind o sets_or_none)
    (sym (nothing_before (rest_up_to (codes ")") set_first (set_words names ++ codes ")" ∷ rest)))
    ∙ at_form [] (codes ")") set_first (codes "[") ((names ++ codes "]" ∷ []) ++ codes ")" ∷ rest) (codes ")" ∷ rest) names refl (front_set names (codes ")" ∷ rest) h)
    ∙ at_close (names ∷ []) (codes ")") set_first (codes ")") rest refl)

repeat_read : (count : ℕ) (names rest : List Word) → IsSet names → 1 ≤ count → count ≤ 10000 → front sets_first (repeat_words (integer (pos count)) ++ (set_words names ++ codes ")" ∷ rest)) ≡ Some (sets_times count (names ∷ []), rest)
repeat_read count names rest h some few =
    let w : Word = integer (pos count) in
    let words : List Word = set_words names ++ codes ")" ∷ rest in
    set_repeat (codes "repeat") (codes "(" ∷ w ∷ codes "," ∷ words) refl
    ∙ ap (λ (o : Option ℕ). option_map (past (codes "(" ∷ w ∷ codes "," ∷ words)) (bind o (λ count. option_map (λ read. (sets_times count read.0, read.1 + 3)) (sets_after words)))) (count_read count some few)
    ∙ past_three (codes "(") w (codes ",") words count (sets_after words)
    ∙ ap (option_map (λ (r : List (List Word) × List Word). (sets_times count r.0, r.1))) (sets_read names rest h)

run_sets : (names : List Word) (count : ℕ) → IsSet names → 1 ≤ count → count ≤ 10000 → HasSets (repeated count (set_words names)) (replicate count names)
run_sets names count h some few = by_test (count == 1) refl where
  shape : (ws rest : List Word) → (repeat_words (integer (pos count)) ++ (ws ++ codes ")" ∷ [])) ++ rest ≡ repeat_words (integer (pos count)) ++ (ws ++ codes ")" ∷ rest)
  shape ws rest = append_assoc (repeat_words (integer (pos count))) (ws ++ codes ")" ∷ []) rest ∙ ap (λ (vs : List Word). repeat_words (integer (pos count)) ++ vs) (append_assoc ws (codes ")" ∷ []) rest)

  by_test : (b : Bool) → (count == 1) ≡ b → HasSets (if b then set_words names else repeat_words (integer (pos count)) ++ (set_words names ++ codes ")" ∷ [])) (replicate count names)
  by_test true e = subst (λ (n : ℕ). HasSets (set_words names) (replicate n names)) (sym (eqb-true count 1 e)) (one_set names h)
  by_test false e = record {
    parts = sets_times count (names ∷ []) ∷ [];
    reads = λ rest. all_next sets_first ((repeat_words (integer (pos count)) ++ (set_words names ++ codes ")" ∷ [])) ++ rest) rest (sets_times count (names ∷ [])) (ap (front sets_first) (shape (set_words names) rest) ∙ repeat_read count names rest h some few);
    sets = append-nil (times count (names ∷ [])) ∙ times_set count names;
  }

same_set : (a b : List Word) → pointwise bytes_eq a b ≡ true → a ≡ b
same_set a b h = (slice_eq-Decides bytes_eq-Decides a b (pointwise bytes_eq a b) refl).0 h

one_longer : (count : ℕ) (names : List Word) (ls : List (List Word)) → replicate (count + 1) names ++ ls ≡ replicate count names ++ names ∷ ls
one_longer zero names ls = refl
one_longer (suc count) names ls =
    ap (λ (n : ℕ). replicate n names ++ ls) (let e : suc count + 1 ≡ suc (count + 1) = omega arith in e)
    ∙ ap (λ (ms : List (List Word)). names ∷ ms) (one_longer count names ls)

runs_have : (names : List Word) (count : ℕ) (lines : List (List Word)) → IsSet names → 1 ≤ count → count ≤ 10000 → AllHold IsSet lines → HasSets (set_runs names count lines) (replicate count names ++ lines)
runs_have names count [] h some few a = subst (HasSets (repeated count (set_words names))) (sym (append-nil (replicate count names))) (run_sets names count h some few)
runs_have names count (next ∷ lines) h some few a =
    by_test (has_room count && pointwise bytes_eq names next) refl
    (λ more. runs_have names (count + 1) lines h (omega arith) (omega (arith, more)) a.1)
    (runs_have next 1 lines a.0 (omega arith) (omega arith) a.1) where
      by_test : (b : Bool) → (has_room count && pointwise bytes_eq names next) ≡ b
          → (count < 10000 → HasSets (set_runs names (count + 1) lines) (replicate (count + 1) names ++ lines)) → HasSets (set_runs next 1 lines) (replicate 1 next ++ lines)
          → HasSets (if b then set_runs names (count + 1) lines else repeated count (set_words names) ++ set_runs next 1 lines) (replicate count names ++ next ∷ lines)
      by_test true e more rest =
          let parts = and_parts (has_room count) (pointwise bytes_eq names next) e in
          subst (HasSets (set_runs names (count + 1) lines)) (one_longer count names lines ∙ ap (λ (ns : List Word). replicate count names ++ ns ∷ lines) (same_set names next parts.1))
          (more (ltb-true count 10000 parts.0))
      by_test false e more rest = both_have (repeated count (set_words names)) (set_runs next 1 lines) (replicate count names) (next ∷ lines) (run_sets names count h some few) rest

same_more : (o : Option (List Sets)) → o ≡ option_map (λ (more : List Sets). more) o
same_more None = refl
same_more (Some x) = refl

sets_have : (lines : List (List Word)) → AllHold IsSet lines → HasSets (sets_words lines) lines
sets_have [] a = record { parts = []; reads = λ rest. same_more (all_from sets_first rest); sets = refl }
sets_have (names ∷ lines) a = runs_have names 1 lines a.0 (omega arith) (omega arith) a.1

no_sets_left : all_from sets_first [] ≡ Some []
unfolding all_from
no_sets_left = refl

subgrid_read : (lines : List (List Word)) → AreLines lines → subgrid_of (sets_words lines) ≡ Some lines
subgrid_read lines a =
    let h : HasSets (sets_words lines) lines = sets_have lines a.0 in
    subgrid_parts (sets_words lines)
    ∙ ap (λ (o : Option (List Sets)). option_map (λ parts. take 20001 (sets_of parts)) o) (ap (all_from sets_first) (sym (append-nil (sets_words lines))) ∙ h.reads [] ∙ ap (option_map (λ (more : List Sets). h.parts ++ more)) no_sets_left)
    ∙ ap (λ (ps : List Sets). Some (take 20001 (sets_of ps))) (append-nil h.parts)
    ∙ ap (λ (ls : List (List Word)). Some (take 20001 ls)) h.sets
    ∙ ap Some (take_all 20001 lines a.1)

-- ---- nothing is found in them

set_runs_pass : (relative : Bool) (names : List Word) (count : ℕ) (lines : List (List Word)) → IsSet names → count ≤ 10000 → AllHold IsSet lines → Passes relative true (set_runs names count lines)
set_runs_pass relative names count [] h few a = repeated_pass relative true count (set_words names) few (set_pass relative true names h.0)
set_runs_pass relative names count (next ∷ lines) h few a =
    by_test (has_room count && pointwise bytes_eq names next) refl (λ more. set_runs_pass relative names (count + 1) lines h (omega (arith, more)) a.1) (set_runs_pass relative next 1 lines a.0 (omega arith) a.1) where
      by_test : (b : Bool) → (has_room count && pointwise bytes_eq names next) ≡ b → (count < 10000 → Passes relative true (set_runs names (count + 1) lines)) → Passes relative true (set_runs next 1 lines) →
          Passes relative true (if b then set_runs names (count + 1) lines else repeated count (set_words names) ++ set_runs next 1 lines)
      by_test true e more rest = more (ltb-true count 10000 (and_parts (has_room count) (pointwise bytes_eq names next) e).0)
      by_test false e more rest = both_pass relative true (repeated count (set_words names)) (set_runs next 1 lines) (repeated_pass relative true count (set_words names) few (set_pass relative true names h.0)) rest

sets_pass : (relative : Bool) (lines : List (List Word)) → AllHold IsSet lines → Passes relative true (sets_words lines)
sets_pass relative [] a = no_words relative true
sets_pass relative (names ∷ lines) a = set_runs_pass relative names 1 lines a.0 (omega arith) a.1

subgrid_not : (relative : Bool) (rest : List Word) → here relative false (codes "subgrid") rest ≡ false
subgrid_not true rest = refl
subgrid_not false rest = refl

subgrid_quiet : (relative : Bool) (lines : List (List Word)) → AllHold IsSet lines → is_unsupported relative (codes "subgrid" ∷ sets_words lines) ≡ false
subgrid_quiet relative lines a =
    sym (all_left relative (codes "subgrid" ∷ sets_words lines))
    ∙ not_here relative false (codes "subgrid") (sets_words lines) (subgrid_not relative (sets_words lines))
    ∙ nothing_found relative true (sets_words lines) (sets_pass relative lines a)

subgrid_template : (relative : Bool) (words : List Word) → template_of relative (codes "subgrid" ∷ words) ≡ option_map subgrid_value (subgrid_of words)
subgrid_template relative [] = refl
subgrid_template relative (word ∷ words) = refl

subgrid_back : (relative : Bool) (lines : List (List Word)) → AreLines lines → IsBack relative form.Template refused.Template (template_value (subgrid_value lines))
subgrid_back relative lines a = record {
  reads = ap (option_map template_value) (subgrid_template relative (sets_words lines) ∙ ap (option_map subgrid_value) (subgrid_read lines a));
  quiet = subgrid_quiet relative lines a.0;
  tokens = (sets_pass relative lines a.0).tokens;
}

pub subgrid_told : (relative : Bool) (words : List Word) → Every (λ lines. IsBack relative form.Template refused.Template (template_value (subgrid_value lines))) (subgrid_of words)
subgrid_told relative words = every_so AreLines (λ lines. IsBack relative form.Template refused.Template (template_value (subgrid_value lines))) (subgrid_of words) (subgrid_back relative) (lines_told words)
