-- Track lists as they are written, read again as their entries.
use Rattle.std.proofs.Common.{◌≡◌, ℕ, zero, suc, ℤ, pos, ◌+◌, ◌/◌, ◌^◌, ◌<◌, ◌≤◌, Bool, true, false, ◌&&◌, ◌==◌, nat_le, unsigned_abs, List, [], ◌∷◌, ◌++◌, length, map, take, drop, replicate, refl, ap, sym, subst, ◌∙◌, arith, if◌then◌else◌, Option, Some, None, codes}
use Rattle.std.specs.Prelude.{⊤}
use Rattle.std.specs.List.{list_all}
use Rattle.std.specs.Option.{option_map}
use Rattle.std.specs.Str.{bytes_eq}
use Rattle.std.proofs.lemmas.Bool.{and_parts, and_from, true≢false, ltb-true, le-leb, eqb-true}
use Rattle.std.proofs.lemmas.List.{append_assoc, append-nil, length-take, length-map}
use Rattle.std.proofs.lemmas.List.Folds.{list_all-append}
use Rattle.std.proofs.Math.Nat.{div-le_self}
use Rattle.track_text.specs.declared.side.Side.{Side}
use Rattle.track_text.specs.declared.side.Track.{Track}
use Rattle.track_text.specs.declared.entry.Entry.{Entry}
use Rattle.track_text.specs.declared.entry.Entry.TheVariants as entry
use Rattle.track_text.specs.declared.entry.Filling.{Filling}
use Rattle.track_text.specs.declared.entry.Filling.TheVariants as filling
use Rattle.track_text.specs.declared.entry.Often.{Often}
use Rattle.track_text.specs.declared.entry.Often.TheVariants as often
use Rattle.track_text.specs.declared.entry.Part.{Part}
use Rattle.track_text.specs.declared.entry.Part.TheVariants as part
use Rattle.track_text.specs.Words.{Word, Form, bind, past, front, with_first_taken, one_more_taken, up_to, rest_up_to, all_from}
use Rattle.track_text.specs.TrackSizes.{track_first, breadth_of}
use Rattle.track_text.specs.NameSets.{is_line_name, name_first, names_after, is_among, with_name, with_names, distinct}
use Rattle.track_text.specs.Repeats.{has_track, joined, times, named, one_track, entry_first, body_or_none, body_after, count_or_none, count_of, often_of, part_of, repeat_after, once, part_first}
use Rattle.track_text.specs.Templates.{tracks_of, onto_first_line, lines_of, kept_tracks, kept_names}
use Rattle.track_text.specs.PlainText.{AreSets}
use Rattle.track_text.specs.Kept.{entries_of, is_written}
use Rattle.track_text.specs.Gives.{behind}
use Rattle.track_text.proofs.Fronts.{at_set, at_track, at_body, at_arguments, at_repeat, at_once, body_checked, with_often}
use Rattle.track_text.proofs.Rests.{at_close, at_name, nothing_before}
use Rattle.track_text.proofs.Joins.{joined_behind, joins_first, joins_close, joins_form}
use Rattle.doc_writer.specs.Numbers.{integer}
use Rattle.doc_writer.specs.Tracks.{same_side, same_fit, same_track, is_alone, sides_words, minmax_words, side_word, track_words, set_words, shown_set, repeat_words, repeated, has_room, is_empty, first_set, goes_on, run_words, tracks_words, plain_words, filling_word}
use Rattle.doc_writer.proofs.LengthsBack.{no_such, integer_back}
use Rattle.doc_writer.proofs.Told.{Every, every_map, every_bind, every_if, every_so}
use Rattle.doc_writer.proofs.QuietBack.{starts, number_starts, starts_not, name_not}
use Rattle.doc_writer.proofs.SidesBack.{IsTrack, AreSides, IsFirstTrack, track_told, track_back, breadth_back, same_side_is, AllHold, all_next, both_hold}

-- ---- entries that a text tells

abbrev pub IsEntry : Bool → Entry → Type 0
IsEntry relative (entry.Track t) = IsTrack relative t
IsEntry relative (entry.Named name) = is_line_name name ≡ true

abbrev pub AreEntries : Bool → List Entry → Type 0
AreEntries relative es = AllHold (IsEntry relative) es

abbrev AreNames : List Word → Type 0
AreNames names = AllHold (λ name. is_line_name name ≡ true) names

pub up_to_told : {A : Type 0} (P : A → Type 0) (close : Word) (f : Form A) (taken : ℕ) (words : List Word) → ((words : List Word) → Every (λ read. P read.0) (f words)) → Every (λ read. AllHold P read.0) (up_to close f taken words)
up_to_told P close f taken [] h = tt
up_to_told P close f (suc taken) (word ∷ words) h = every_map (λ read. AllHold P read.0) one_more_taken (up_to close f taken words) (up_to_told P close f taken words h)
up_to_told P close f zero (word ∷ words) h =
    every_if (λ read. AllHold P read.0) (bytes_eq word close) (Some ([], 1)) (bind (f (word ∷ words)) (λ read. option_map (with_first_taken read.0) (up_to close f read.1 words))) (λ _. tt)
    (λ _. every_bind (λ read. AllHold P read.0) (λ read. P read.0) (λ read. option_map (with_first_taken read.0) (up_to close f read.1 words)) (f (word ∷ words)) (h (word ∷ words))
    (λ read p. every_map (λ read. AllHold P read.0) (with_first_taken read.0) (up_to close f read.1 words) (every_so (λ r. AllHold P r.0) (λ r. P read.0 × AllHold P r.0) (up_to close f read.1 words) (λ r a. (p, a)) (up_to_told P close f read.1 words h))))

name_told : (words : List Word) → Every (λ read. is_line_name read.0 ≡ true) (name_first words)
name_told [] = tt
name_told (word ∷ words) = every_if (λ read. is_line_name read.0 ≡ true) (is_line_name word) (Some (word, 0)) None (λ e. e) (λ _. tt)

names_told : (words : List Word) → Every (λ read. AreNames read.0) (names_after words)
names_told words = up_to_told (λ name. is_line_name name ≡ true) (codes "]") name_first 0 words name_told

named_entries : (relative : Bool) (names : List Word) → AreNames names → AreEntries relative (map entry.Named names)
named_entries relative [] h = tt
named_entries relative (name ∷ names) h = (h.0, named_entries relative names h.1)

entry_told : (relative : Bool) (words : List Word) → Every (λ read. AreEntries relative read.0) (entry_first relative words)
entry_told relative [] = tt
entry_told relative (word ∷ words) =
    every_if (λ read. AreEntries relative read.0) (bytes_eq word (codes "[")) (option_map named (names_after words)) (option_map one_track (track_first relative (word ∷ words)))
    (λ _. every_map (λ read. AreEntries relative read.0) named (names_after words) (every_so (λ read. AreNames read.0) (λ read. AreEntries relative (named read).0) (names_after words) (λ read h. named_entries relative read.0 h) (names_told words)))
    (λ _. every_map (λ read. AreEntries relative read.0) one_track (track_first relative (word ∷ words)) (every_so (IsFirstTrack relative) (λ read. AreEntries relative (one_track read).0) (track_first relative (word ∷ words)) (λ read h. (h, tt)) (track_told relative (word ∷ words))))

joined_hold : (relative : Bool) (lists : List (List Entry)) → AllHold (AreEntries relative) lists → AreEntries relative (joined lists)
joined_hold relative [] h = tt
joined_hold relative (es ∷ lists) h = both_hold (IsEntry relative) es (joined lists) h.0 (joined_hold relative lists h.1)

-- a body of a repeat
abbrev pub IsBody : Bool → List Entry → Type 0
IsBody relative es = AreEntries relative es × (has_track es ≡ true)

body_told : (relative : Bool) (words : List Word) → Every (λ read. IsBody relative read.0) (body_after relative words)
body_told relative words =
    every_bind (λ read. IsBody relative read.0) (λ read. AllHold (AreEntries relative) read.0) body_or_none (up_to (codes ")") (entry_first relative) 0 words) (up_to_told (AreEntries relative) (codes ")") (entry_first relative) 0 words (entry_told relative))
    (λ read h. every_if (λ read. IsBody relative read.0) (has_track (joined read.0)) (Some (joined read.0, read.1)) None (λ e. (joined_hold relative read.0 h, e)) (λ _. tt))

abbrev pub IsPart : Bool → Part → Type 0
IsPart relative (part.Written count body) = AreEntries relative body
IsPart relative (part.Automatic filling body) = IsBody relative body

of_body : (relative : Bool) (o : Often) (es : List Entry) → IsBody relative es → IsPart relative (part_of o es)
of_body relative (often.Times count) es h = h.0
of_body relative (often.Automatic filling) es h = h

pub anything : {A : Type 0} (o : Option A) → Every (λ _. ⊤) o
anything None = tt
anything (Some x) = tt

repeat_told : (relative : Bool) (words : List Word) → Every (λ read. IsPart relative read.0) (repeat_after relative words)
repeat_told relative [] = tt
repeat_told relative (a ∷ []) = tt
repeat_told relative (a ∷ b ∷ []) = tt
repeat_told relative (a ∷ b ∷ c ∷ words) =
    every_if (λ read. IsPart relative read.0) (bytes_eq a (codes "(") && bytes_eq c (codes ",")) (bind (often_of b) (λ often. option_map (λ body. (part_of often body.0, body.1 + 3)) (body_after relative words))) None
    (λ _. every_bind (λ read. IsPart relative read.0) (λ _. ⊤) (λ often. option_map (λ body. (part_of often body.0, body.1 + 3)) (body_after relative words)) (often_of b) (anything (often_of b))
    (λ often u. every_map (λ read. IsPart relative read.0) (λ body. (part_of often body.0, body.1 + 3)) (body_after relative words)
    (every_so (λ read. IsBody relative read.0) (λ body. IsPart relative (part_of often body.0)) (body_after relative words) (λ body h. of_body relative often body.0 h) (body_told relative words))))
    (λ _. tt)

pub part_told : (relative : Bool) (words : List Word) → Every (λ read. IsPart relative read.0) (part_first relative words)
part_told relative [] = tt
part_told relative (word ∷ words) =
    every_if (λ read. IsPart relative read.0) (bytes_eq word (codes "repeat")) (repeat_after relative words) (option_map once (entry_first relative (word ∷ words))) (λ _. repeat_told relative words)
    (λ _. every_map (λ read. IsPart relative read.0) once (entry_first relative (word ∷ words)) (entry_told relative (word ∷ words)))

-- ---- what is kept of entries

-- tracks with the sets of their lines, as they are kept
pub record IsRun (relative : Bool) (sizes : List Track) (names : List (List Word)) : Type 0 where
  pub tracks : AllHold (IsTrack relative) sizes
  pub few : length sizes ≤ 10000
  pub sets : AreSets names
  pub lines : length names ≡ length sizes + 1

tracks_hold : (relative : Bool) (n : ℕ) (es : List Entry) → AreEntries relative es → AllHold (IsTrack relative) (take n (tracks_of es))
tracks_hold relative zero es h = tt
tracks_hold relative (suc n) [] h = tt
tracks_hold relative (suc n) (entry.Track t ∷ es) h = (h.0, tracks_hold relative n es h.1)
tracks_hold relative (suc n) (entry.Named name ∷ es) h = tracks_hold relative (suc n) es h.1

onto_length : (name : Word) (lines : List (List Word)) → 1 ≤ length lines → length (onto_first_line name lines) ≡ length lines
onto_length name [] h = absurd (omega (arith, h))
onto_length name (names ∷ lines) h = refl

lines_count : (es : List Entry) → length (lines_of es) ≡ length (tracks_of es) + 1
lines_count [] = refl
lines_count (entry.Track t ∷ es) = omega (arith, lines_count es)
lines_count (entry.Named name ∷ es) = onto_length name (lines_of es) (omega (arith, lines_count es)) ∙ lines_count es

abbrev AllNames : List (List Word) → Type 0
AllNames lines = AllHold (λ names. list_all is_line_name names ≡ true) lines

onto_names : (name : Word) (lines : List (List Word)) → is_line_name name ≡ true → AllNames lines → AllNames (onto_first_line name lines)
onto_names name [] h a = (and_from (is_line_name name) true h refl, tt)
onto_names name (names ∷ lines) h a = (and_from (is_line_name name) (list_all is_line_name names) h a.0, a.1)

lines_hold : (relative : Bool) (es : List Entry) → AreEntries relative es → AllNames (lines_of es)
lines_hold relative [] h = (refl, tt)
lines_hold relative (entry.Track t ∷ es) h = (refl, lines_hold relative es h.1)
lines_hold relative (entry.Named name ∷ es) h = onto_names name (lines_of es) h.0 (lines_hold relative es h.1)

-- each name once
names-append : (held xs ys : List Word) → with_names held (xs ++ ys) ≡ with_names (with_names held xs) ys
names-append held [] ys = refl
names-append held (x ∷ xs) ys = names-append (with_name held x) xs ys

one_more : (held : List Word) (x : Word) → with_names [] held ≡ held → with_names [] (with_name held x) ≡ with_name held x
one_more held x e = by_test (is_among held x) refl where
  by_test : (b : Bool) → is_among held x ≡ b → with_names [] (if b then held else held ++ x ∷ []) ≡ (if b then held else held ++ x ∷ [])
  by_test true t = e
  by_test false t = names-append [] held (x ∷ []) ∙ ap (λ (h : List Word). with_name h x) e ∙ ap (λ (b : Bool). if b then held else held ++ x ∷ []) t

once_each : (held xs : List Word) → with_names [] held ≡ held → with_names [] (with_names held xs) ≡ with_names held xs
once_each held [] e = e
once_each held (x ∷ xs) e = once_each (with_name held x) xs (one_more held x e)

distinct_again : (names : List Word) → distinct (distinct names) ≡ distinct names
distinct_again names = once_each [] names refl

one_name : (held : List Word) (x : Word) → list_all is_line_name held ≡ true → is_line_name x ≡ true → list_all is_line_name (with_name held x) ≡ true
one_name held x a h = by_test (is_among held x) where
  by_test : (b : Bool) → list_all is_line_name (if b then held else held ++ x ∷ []) ≡ true
  by_test true = a
  by_test false = list_all-append is_line_name held (x ∷ []) ∙ and_from (list_all is_line_name held) (is_line_name x && true) a (and_from (is_line_name x) true h refl)

all_names : (held xs : List Word) → list_all is_line_name held ≡ true → list_all is_line_name xs ≡ true → list_all is_line_name (with_names held xs) ≡ true
all_names held [] a h = a
all_names held (x ∷ xs) a h =
    let parts = and_parts (is_line_name x) (list_all is_line_name xs) h in
    all_names (with_name held x) xs (one_name held x a parts.0) parts.1

sets_kept : (n : ℕ) (lines : List (List Word)) → AllNames lines → AreSets (map distinct (take n lines))
sets_kept zero lines h = tt
sets_kept (suc n) [] h = tt
sets_kept (suc n) (names ∷ lines) h = (all_names [] names refl h.0, distinct_again names, sets_kept n lines h.1)

pub run_told : (relative : Bool) (es : List Entry) → AreEntries relative es → IsRun relative (kept_tracks es) (kept_names es)
run_told relative es h = record {
  tracks = tracks_hold relative 10000 es h;
  few = omega (arith, length-take 10000 (tracks_of es));
  sets = sets_kept 10001 (lines_of es) (lines_hold relative es h);
  lines = omega (arith, length-map (take 10001 (lines_of es)) distinct, length-take 10001 (lines_of es), length-take 10000 (tracks_of es), lines_count es);
}

-- a set that is read has each name once
abbrev pub IsSet : List Word → Type 0
IsSet names = (list_all is_line_name names ≡ true) × (distinct names ≡ names)

all_are : (names : List Word) → AreNames names → list_all is_line_name names ≡ true
all_are [] h = refl
all_are (name ∷ names) h = and_from (is_line_name name) (list_all is_line_name names) h.0 (all_are names h.1)

pub sets_told_names : (words : List Word) → Every (λ read. IsSet (distinct read.0)) (names_after words)
sets_told_names words = every_so (λ read. AreNames read.0) (λ read. IsSet (distinct read.0)) (names_after words) (λ read h. (all_names [] read.0 refl (all_are read.0 h), distinct_again read.0)) (names_told words)

-- ---- the entries of tracks with the sets of their lines

abbrev pub list_entries : List (List Word) → List Track → List Entry
list_entries lines [] = map entry.Named (first_set lines)
list_entries lines (t ∷ tracks) = map entry.Named (first_set lines) ++ entry.Track t ∷ list_entries (drop 1 lines) tracks

named_tracks : (names : List Word) (es : List Entry) → tracks_of (map entry.Named names ++ es) ≡ tracks_of es
named_tracks [] es = refl
named_tracks (name ∷ names) es = named_tracks names es

named_only : (names : List Word) → tracks_of (map entry.Named names) ≡ []
named_only [] = refl
named_only (name ∷ names) = named_only names

pub tracks_are : (lines : List (List Word)) (tracks : List Track) → tracks_of (list_entries lines tracks) ≡ tracks
tracks_are lines [] = named_only (first_set lines)
tracks_are lines (t ∷ tracks) = named_tracks (first_set lines) (entry.Track t ∷ list_entries (drop 1 lines) tracks) ∙ ap (λ (ts : List Track). t ∷ ts) (tracks_are (drop 1 lines) tracks)

named_lines : (names first : List Word) (lines : List (List Word)) (es : List Entry) → lines_of es ≡ first ∷ lines → lines_of (map entry.Named names ++ es) ≡ (names ++ first) ∷ lines
named_lines [] first lines es e = e
named_lines (name ∷ names) first lines es e = ap (onto_first_line name) (named_lines names first lines es e)

named_line : (names : List Word) → lines_of (map entry.Named names) ≡ names ∷ []
named_line [] = refl
named_line (name ∷ names) = ap (onto_first_line name) (named_line names)

pub lines_are : (lines : List (List Word)) (tracks : List Track) → length lines ≡ length tracks + 1 → lines_of (list_entries lines tracks) ≡ lines
lines_are [] [] n = absurd (omega (arith, n))
lines_are [] (t ∷ tracks) n = absurd (omega (arith, n))
lines_are (names ∷ []) [] n = named_line names
lines_are (names ∷ more ∷ lines) [] n = absurd (omega (arith, n))
lines_are (names ∷ lines) (t ∷ tracks) n =
    named_lines names [] (lines_of (list_entries lines tracks)) (entry.Track t ∷ list_entries lines tracks) refl
    ∙ ap (λ (first : List Word). first ∷ lines_of (list_entries lines tracks)) (append-nil names)
    ∙ ap (λ (rest : List (List Word)). names ∷ rest) (lines_are lines tracks (omega (arith, n)))

-- ---- sets

no_close : (name : Word) → is_line_name name ≡ true → bytes_eq name (codes "]") ≡ false
no_close name h = name_not name (codes "]") h refl

names_read : (held names rest : List Word) → list_all is_line_name names ≡ true → option_map (behind held) (rest_up_to (codes "]") name_first (names ++ codes "]" ∷ rest)) ≡ Some (held ++ names, rest)
names_read held [] rest h = at_close held (codes "]") name_first (codes "]") rest refl ∙ ap (λ (names : List Word). Some (names, rest)) (sym (append-nil held))
names_read held (name ∷ names) rest h =
    let parts = and_parts (is_line_name name) (list_all is_line_name names) h in
    at_name held name (names ++ codes "]" ∷ rest) name (no_close name parts.0) (ap (λ (b : Bool). if b then Some name else None) parts.0)
    ∙ names_read (held ++ name ∷ []) names rest parts.1
    ∙ ap (λ (names : List Word). Some (names, rest)) (append_assoc held (name ∷ []) names)

pub set_read : (names rest : List Word) → list_all is_line_name names ≡ true → rest_up_to (codes "]") name_first (names ++ codes "]" ∷ rest) ≡ Some (names, rest)
set_read names rest h = sym (nothing_before (rest_up_to (codes "]") name_first (names ++ codes "]" ∷ rest))) ∙ names_read [] names rest h

pub set_then : (names rest : List Word) → set_words names ++ rest ≡ codes "[" ∷ (names ++ codes "]" ∷ rest)
set_then names rest = ap (λ (ws : List Word). codes "[" ∷ ws) (append_assoc names (codes "]" ∷ []) rest)

front_set : (relative : Bool) (names rest : List Word) → list_all is_line_name names ≡ true → front (entry_first relative) (set_words names ++ rest) ≡ Some (map entry.Named names, rest)
front_set relative names rest h =
    ap (front (entry_first relative)) (set_then names rest)
    ∙ at_set relative (codes "[") (names ++ codes "]" ∷ rest) refl
    ∙ ap (option_map named) (set_read names rest h)

-- ---- the first word of a track

-- words of which the first is none of those that begin something else
pub record BeginsTrack (words : List Word) : Type 0 where
  pub word : Word
  pub after : List Word
  pub is : words ≡ word ∷ after
  pub no_bracket : bytes_eq word (codes "[") ≡ false
  pub no_repeat : bytes_eq word (codes "repeat") ≡ false
  pub no_close : bytes_eq word (codes ")") ≡ false

none_read : (relative : Bool) → (breadth_of relative (codes "[") ≡ None) × ((breadth_of relative (codes "repeat") ≡ None) × (breadth_of relative (codes ")") ≡ None))
none_read true = (refl, (refl, refl))
none_read false = (refl, (refl, refl))

begins_sides : (relative : Bool) (least most : Side) (fit : Option Side) → AreSides relative least most fit → BeginsTrack (sides_words least most fit)
begins_sides relative least most (Some a) h = record { word = codes "fit-content"; after = codes "(" ∷ side_word a ∷ codes ")" ∷ []; is = refl; no_bracket = refl; no_repeat = refl; no_close = refl }
begins_sides relative least most None h = by_test (is_alone least most) where
  by_test : (b : Bool) → BeginsTrack (if b then side_word most ∷ [] else minmax_words least most)
  by_test true =
      let read : breadth_of relative (side_word most) ≡ Some most = breadth_back relative most h.1 in
      let none = none_read relative in
      record {
        word = side_word most;
        after = [];
        is = refl;
        no_bracket = no_such (breadth_of relative) (side_word most) (codes "[") most read none.0;
        no_repeat = no_such (breadth_of relative) (side_word most) (codes "repeat") most read none.1.0;
        no_close = no_such (breadth_of relative) (side_word most) (codes ")") most read none.1.1;
      }
  by_test false = record { word = codes "minmax"; after = codes "(" ∷ side_word least ∷ codes "," ∷ side_word most ∷ codes ")" ∷ []; is = refl; no_bracket = refl; no_repeat = refl; no_close = refl }

begins_track : (relative : Bool) (t : Track) → IsTrack relative t → BeginsTrack (track_words t)
begins_track relative t h = begins_sides relative t.least t.most t.fit h

front_track : (relative : Bool) (t : Track) (rest : List Word) → IsTrack relative t → front (entry_first relative) (track_words t ++ rest) ≡ Some (entry.Track t ∷ [], rest)
front_track relative t rest h =
    let b : BeginsTrack (track_words t) = begins_track relative t h in
    ap (λ (ws : List Word). front (entry_first relative) (ws ++ rest)) b.is
    ∙ at_track relative b.word (b.after ++ rest) b.no_bracket
    ∙ ap (λ (ws : List Word). option_map one_track (front (track_first relative) (ws ++ rest))) (sym b.is)
    ∙ ap (option_map one_track) (track_back relative t rest h)

-- ---- entries up to the bracket that closes a repeat

-- the words stand for the entries, in the body of a repeat
abbrev pub HasEntries : Bool → List Word → List Entry → Type 0
HasEntries relative words es = (held : List Entry) (rest : List Word) → option_map (joined_behind held) (rest_up_to (codes ")") (entry_first relative) (words ++ rest)) ≡ option_map (joined_behind (held ++ es)) (rest_up_to (codes ")") (entry_first relative) rest)

no_entries : (relative : Bool) → HasEntries relative [] []
no_entries relative held rest = ap (λ (h : List Entry). option_map (joined_behind h) (rest_up_to (codes ")") (entry_first relative) rest)) (sym (append-nil held))

both_entries : (relative : Bool) (ws vs : List Word) (es fs : List Entry) → HasEntries relative ws es → HasEntries relative vs fs → HasEntries relative (ws ++ vs) (es ++ fs)
both_entries relative ws vs es fs h k held rest =
    ap (λ (w : List Word). option_map (joined_behind held) (rest_up_to (codes ")") (entry_first relative) w)) (append_assoc ws vs rest)
    ∙ h held (vs ++ rest)
    ∙ k (held ++ es) rest
    ∙ ap (λ (e : List Entry). option_map (joined_behind e) (rest_up_to (codes ")") (entry_first relative) rest)) (append_assoc held es fs)

set_entries : (relative : Bool) (names : List Word) → list_all is_line_name names ≡ true → HasEntries relative (set_words names) (map entry.Named names)
set_entries relative names h held rest =
    joins_form held (codes ")") (entry_first relative) (codes "[") ((names ++ codes "]" ∷ []) ++ rest) rest (map entry.Named names) refl (front_set relative names rest h)

shown_entries : (relative : Bool) (names : List Word) → list_all is_line_name names ≡ true → HasEntries relative (shown_set names) (map entry.Named names)
shown_entries relative [] h = no_entries relative
shown_entries relative (name ∷ names) h = set_entries relative (name ∷ names) h

track_entries : (relative : Bool) (t : Track) → IsTrack relative t → HasEntries relative (track_words t) (entry.Track t ∷ [])
track_entries relative t h held rest =
    let b : BeginsTrack (track_words t) = begins_track relative t h in
    ap (λ (ws : List Word). option_map (joined_behind held) (rest_up_to (codes ")") (entry_first relative) (ws ++ rest))) b.is
    ∙ joins_form held (codes ")") (entry_first relative) b.word (b.after ++ rest) rest (entry.Track t ∷ []) b.no_close (ap (λ (ws : List Word). front (entry_first relative) (ws ++ rest)) (sym b.is) ∙ front_track relative t rest h)

first_names : (lines : List (List Word)) → AreSets lines → list_all is_line_name (first_set lines) ≡ true
first_names [] s = refl
first_names (names ∷ lines) s = s.0

rest_sets : (lines : List (List Word)) → AreSets lines → AreSets (drop 1 lines)
rest_sets [] s = tt
rest_sets (names ∷ lines) s = s.2

plain_entries : (relative : Bool) (lines : List (List Word)) (tracks : List Track) → AreSets lines → AllHold (IsTrack relative) tracks → HasEntries relative (plain_words lines tracks) (list_entries lines tracks)
plain_entries relative lines [] s h = shown_entries relative (first_set lines) (first_names lines s)
plain_entries relative lines (t ∷ tracks) s h =
    both_entries relative (shown_set (first_set lines)) (track_words t ++ plain_words (drop 1 lines) tracks) (map entry.Named (first_set lines)) (entry.Track t ∷ list_entries (drop 1 lines) tracks)
    (shown_entries relative (first_set lines) (first_names lines s))
    (both_entries relative (track_words t) (plain_words (drop 1 lines) tracks) (entry.Track t ∷ []) (list_entries (drop 1 lines) tracks) (track_entries relative t h.0) (plain_entries relative (drop 1 lines) tracks (rest_sets lines s) h.1))

-- ---- repeats

-- a body, up to its bracket
body_read : (relative : Bool) (words rest : List Word) (es : List Entry) → HasEntries relative words es → has_track es ≡ true → option_map (past (words ++ codes ")" ∷ rest)) (body_after relative (words ++ codes ")" ∷ rest)) ≡ Some (es, rest)
body_read relative words rest es h t =
    at_body relative (words ++ codes ")" ∷ rest)
    ∙ ap (λ (o : Option (List Entry × List Word)). bind o body_checked)
    (sym (joins_first (rest_up_to (codes ")") (entry_first relative) (words ++ codes ")" ∷ rest))) ∙ h [] (codes ")" ∷ rest) ∙ joins_close es (codes ")") (entry_first relative) (codes ")") rest refl)
    ∙ ap (λ (b : Bool). if b then Some (es, rest) else None) t

repeat_read : (relative : Bool) (word : Word) (words rest : List Word) (o : Often) (es : List Entry) → often_of word ≡ Some o → HasEntries relative words es → has_track es ≡ true
    → front (part_first relative) (repeat_words word ++ (words ++ codes ")" ∷ rest)) ≡ Some (part_of o es, rest)
repeat_read relative word words rest o es e h t =
    at_repeat relative (codes "repeat") (codes "(" ∷ word ∷ codes "," ∷ (words ++ codes ")" ∷ rest)) refl
    ∙ at_arguments relative (codes "(") word (codes ",") (words ++ codes ")" ∷ rest) refl refl
    ∙ ap (λ (o : Option Often). bind o (λ often. option_map (with_often often) (option_map (past (words ++ codes ")" ∷ rest)) (body_after relative (words ++ codes ")" ∷ rest))))) e
    ∙ ap (option_map (with_often o)) (body_read relative words rest es h t)

-- ---- the parts of a list

-- the words stand for parts without an automatic repeat, and these for the entries
pub record HasParts (relative : Bool) (words : List Word) (es : List Entry) : Type 0 where
  pub parts : List Part
  pub reads : (rest : List Word) → all_from (part_first relative) (words ++ rest) ≡ option_map (λ more. parts ++ more) (all_from (part_first relative) rest)
  pub written : list_all is_written parts ≡ true
  pub entries : entries_of parts ≡ es

same_more : (o : Option (List Part)) → o ≡ option_map (λ (more : List Part). more) o
same_more None = refl
same_more (Some x) = refl

more_more : (xs ys : List Part) (o : Option (List Part)) → option_map (λ more. xs ++ more) (option_map (λ more. ys ++ more) o) ≡ option_map (λ more. (xs ++ ys) ++ more) o
more_more xs ys None = refl
more_more xs ys (Some zs) = ap Some (sym (append_assoc xs ys zs))

entries-append : (xs ys : List Part) → entries_of (xs ++ ys) ≡ entries_of xs ++ entries_of ys
entries-append [] ys = refl
entries-append (part.Written count body ∷ xs) ys = ap (λ (es : List Entry). times count body ++ es) (entries-append xs ys) ∙ sym (append_assoc (times count body) (entries_of xs) (entries_of ys))
entries-append (part.Automatic filling body ∷ xs) ys = entries-append xs ys

no_parts : (relative : Bool) → HasParts relative [] []
no_parts relative = record { parts = []; reads = λ rest. same_more (all_from (part_first relative) rest); written = refl; entries = refl }

pub both_parts : (relative : Bool) (ws vs : List Word) (es fs : List Entry) → HasParts relative ws es → HasParts relative vs fs → HasParts relative (ws ++ vs) (es ++ fs)
both_parts relative ws vs es fs h k = record {
  parts = h.parts ++ k.parts;
  reads = λ rest.
      ap (all_from (part_first relative)) (append_assoc ws vs rest) ∙ h.reads (vs ++ rest) ∙ ap (option_map (λ (more : List Part). h.parts ++ more)) (k.reads rest) ∙ more_more h.parts k.parts (all_from (part_first relative) rest);
  written = list_all-append is_written h.parts k.parts ∙ and_from (list_all is_written h.parts) (list_all is_written k.parts) h.written k.written;
  entries = entries-append h.parts k.parts ∙ ap (λ (xs : List Entry). xs ++ entries_of k.parts) h.entries ∙ ap (λ (xs : List Entry). es ++ xs) k.entries;
}

one_part : (relative : Bool) (words : List Word) (count : ℕ) (body : List Entry) → ((rest : List Word) → front (part_first relative) (words ++ rest) ≡ Some (part.Written count body, rest)) → HasParts relative words (times count body)
one_part relative words count body h = record {
  parts = part.Written count body ∷ [];
  reads = λ rest. all_next (part_first relative) (words ++ rest) rest (part.Written count body) (h rest);
  written = refl;
  entries = append-nil (times count body);
}

times_one : (body : List Entry) → times 1 body ≡ body
times_one body = append-nil body

set_parts : (relative : Bool) (names : List Word) → list_all is_line_name names ≡ true → HasParts relative (set_words names) (map entry.Named names)
set_parts relative names h = subst (HasParts relative (set_words names)) (times_one (map entry.Named names)) (one_part relative (set_words names) 1 (map entry.Named names)
    (λ rest. at_once relative (codes "[") ((names ++ codes "]" ∷ []) ++ rest) refl ∙ ap (option_map once) (front_set relative names rest h)))

shown_parts : (relative : Bool) (names : List Word) → list_all is_line_name names ≡ true → HasParts relative (shown_set names) (map entry.Named names)
shown_parts relative [] h = no_parts relative
shown_parts relative (name ∷ names) h = set_parts relative (name ∷ names) h

front_part : (relative : Bool) (t : Track) (rest : List Word) → IsTrack relative t → front (part_first relative) (track_words t ++ rest) ≡ Some (part.Written 1 (entry.Track t ∷ []), rest)
front_part relative t rest h =
    let b : BeginsTrack (track_words t) = begins_track relative t h in
    ap (λ (ws : List Word). front (part_first relative) (ws ++ rest)) b.is
    ∙ at_once relative b.word (b.after ++ rest) b.no_repeat
    ∙ ap (λ (ws : List Word). option_map once (front (entry_first relative) (ws ++ rest))) (sym b.is)
    ∙ ap (option_map once) (front_track relative t rest h)

times_track : (count : ℕ) (t : Track) → times count (entry.Track t ∷ []) ≡ replicate count (entry.Track t)
times_track zero t = refl
times_track (suc count) t = ap (λ (es : List Entry). entry.Track t ∷ es) (times_track count t)

pub count_small : (count : ℕ) → count ≤ 10000 → unsigned_abs (pos count) / 1 < 2 ^ 64
count_small count h = omega (arith, h, div-le_self count 1)

pub count_read : (count : ℕ) → 1 ≤ count → count ≤ 10000 → count_of (integer (pos count)) ≡ Some count
count_read count some few =
    ap (λ (o : Option ℤ). bind o count_or_none) (integer_back (pos count) (omega (arith, few)))
    ∙ ap (λ (b : Bool). if b then Some count else None) (and_from (nat_le 1 count) (nat_le count 10000) (le-leb 1 count some) (le-leb count 10000 few))

often_read : (count : ℕ) → 1 ≤ count → count ≤ 10000 → often_of (integer (pos count)) ≡ Some (often.Times count)
often_read count some few =
    let w : Word = integer (pos count) in
    let s : starts w ≡ true = number_starts 1 (pos count) (count_small count few) in
    ap (λ (b : Bool). if b then Some (often.Automatic filling.Fill) else if bytes_eq w (codes "auto-fit") then Some (often.Automatic filling.Fit) else option_map often.Times (count_of w)) (starts_not w (codes "auto-fill") s refl)
    ∙ ap (λ (b : Bool). if b then Some (often.Automatic filling.Fit) else option_map often.Times (count_of w)) (starts_not w (codes "auto-fit") s refl)
    ∙ ap (option_map often.Times) (count_read count some few)

-- ---- runs

run_parts : (relative : Bool) (t : Track) (count : ℕ) → IsTrack relative t → 1 ≤ count → count ≤ 10000 → HasParts relative (repeated count (track_words t)) (replicate count (entry.Track t))
run_parts relative t count h some few = by_test (count == 1) refl where
  shape : (ws rest : List Word) → (repeat_words (integer (pos count)) ++ (ws ++ codes ")" ∷ [])) ++ rest ≡ repeat_words (integer (pos count)) ++ (ws ++ codes ")" ∷ rest)
  shape ws rest = append_assoc (repeat_words (integer (pos count))) (ws ++ codes ")" ∷ []) rest ∙ ap (λ (vs : List Word). repeat_words (integer (pos count)) ++ vs) (append_assoc ws (codes ")" ∷ []) rest)

  by_test : (b : Bool) → (count == 1) ≡ b → HasParts relative (if b then track_words t else repeat_words (integer (pos count)) ++ (track_words t ++ codes ")" ∷ [])) (replicate count (entry.Track t))
  by_test true e =
      subst (HasParts relative (track_words t)) (times_track 1 t ∙ ap (λ (n : ℕ). replicate n (entry.Track t)) (sym (eqb-true count 1 e)))
      (one_part relative (track_words t) 1 (entry.Track t ∷ []) (λ rest. front_part relative t rest h))
  by_test false e =
      subst (HasParts relative (repeat_words (integer (pos count)) ++ (track_words t ++ codes ")" ∷ []))) (times_track count t)
      (one_part relative (repeat_words (integer (pos count)) ++ (track_words t ++ codes ")" ∷ [])) count (entry.Track t ∷ [])
      (λ rest. ap (front (part_first relative)) (shape (track_words t) rest) ∙ repeat_read relative (integer (pos count)) (track_words t) rest (often.Times count) (entry.Track t ∷ []) (often_read count some few) (track_entries relative t h) refl))

same_fit_is : (a b : Option Side) → same_fit a b ≡ true → a ≡ b
same_fit_is None None h = refl
same_fit_is None (Some b) h = absurd (true≢false (sym h))
same_fit_is (Some a) None h = absurd (true≢false (sym h))
same_fit_is (Some a) (Some b) h = ap Some (same_side_is a b h)

abbrev track_with : Side → Side → Option Side → Track
track_with least most fit = record { least = least; most = most; fit = fit }

same_track_is : (a b : Track) → same_track a b ≡ true → a ≡ b
same_track_is a b h =
    let first = and_parts (same_side a.least b.least) (same_side a.most b.most && same_fit a.fit b.fit) h in
    let second = and_parts (same_side a.most b.most) (same_fit a.fit b.fit) first.1 in
    ap (λ (s : Side). track_with s a.most a.fit) (same_side_is a.least b.least first.0)
    ∙ ap (λ (s : Side). track_with b.least s a.fit) (same_side_is a.most b.most second.0)
    ∙ ap (track_with b.least b.most) (same_fit_is a.fit b.fit second.1)

empty_is : (names : List Word) → is_empty names ≡ true → names ≡ []
empty_is [] h = refl
empty_is (name ∷ names) h = absurd (true≢false (sym h))

one_longer : (count : ℕ) (t : Track) (es : List Entry) → replicate (count + 1) (entry.Track t) ++ es ≡ replicate count (entry.Track t) ++ entry.Track t ∷ es
one_longer zero t es = refl
one_longer (suc count) t es =
    ap (λ (n : ℕ). replicate n (entry.Track t) ++ es) (let e : suc count + 1 ≡ suc (count + 1) = omega arith in e)
    ∙ ap (λ (fs : List Entry). entry.Track t ∷ fs) (one_longer count t es)

runs_parts : (relative : Bool) (t : Track) (count : ℕ) (lines : List (List Word)) (tracks : List Track) → IsTrack relative t → 1 ≤ count → count ≤ 10000 → AreSets lines → AllHold (IsTrack relative) tracks
    → HasParts relative (run_words t count lines tracks) (replicate count (entry.Track t) ++ list_entries lines tracks)
runs_parts relative t count lines [] h some few s a =
    both_parts relative (repeated count (track_words t)) (shown_set (first_set lines)) (replicate count (entry.Track t)) (map entry.Named (first_set lines)) (run_parts relative t count h some few) (shown_parts relative (first_set lines) (first_names lines s))
runs_parts relative t count lines (next ∷ tracks) h some few s a =
    by_test (goes_on t count (first_set lines) next) refl
    (λ more. runs_parts relative t (count + 1) (drop 1 lines) tracks h (omega arith) (omega (arith, more)) (rest_sets lines s) a.1)
    (runs_parts relative next 1 (drop 1 lines) tracks a.0 (omega arith) (omega arith) (rest_sets lines s) a.1) where
      after : List Entry
      after = list_entries (drop 1 lines) tracks

      by_test : (b : Bool) → goes_on t count (first_set lines) next ≡ b
          → (count < 10000 → HasParts relative (run_words t (count + 1) (drop 1 lines) tracks) (replicate (count + 1) (entry.Track t) ++ after))
          → HasParts relative (run_words next 1 (drop 1 lines) tracks) (replicate 1 (entry.Track next) ++ after)
          → HasParts relative (if b then run_words t (count + 1) (drop 1 lines) tracks else repeated count (track_words t) ++ (shown_set (first_set lines) ++ run_words next 1 (drop 1 lines) tracks))
          (replicate count (entry.Track t) ++ (map entry.Named (first_set lines) ++ entry.Track next ∷ after))
      by_test true e more rest =
          let room = and_parts (has_room count) (is_empty (first_set lines) && same_track t next) e in
          let same = and_parts (is_empty (first_set lines)) (same_track t next) room.1 in
          subst (HasParts relative (run_words t (count + 1) (drop 1 lines) tracks))
          (one_longer count t after
          ∙ ap (λ (n : Track). replicate count (entry.Track t) ++ entry.Track n ∷ after) (same_track_is t next same.1)
          ∙ ap (λ (names : List Word). replicate count (entry.Track t) ++ (map entry.Named names ++ entry.Track next ∷ after)) (sym (empty_is (first_set lines) same.0)))
          (more (ltb-true count 10000 room.0))
      by_test false e more rest =
          both_parts relative (repeated count (track_words t)) (shown_set (first_set lines) ++ run_words next 1 (drop 1 lines) tracks) (replicate count (entry.Track t)) (map entry.Named (first_set lines) ++ entry.Track next ∷ after) (run_parts relative t count h some few)
          (both_parts relative (shown_set (first_set lines)) (run_words next 1 (drop 1 lines) tracks) (map entry.Named (first_set lines)) (entry.Track next ∷ after) (shown_parts relative (first_set lines) (first_names lines s)) rest)

-- tracks with their sets, as they are written, stand for their entries
pub list_parts : (relative : Bool) (lines : List (List Word)) (tracks : List Track) → AreSets lines → AllHold (IsTrack relative) tracks → HasParts relative (tracks_words lines tracks) (list_entries lines tracks)
list_parts relative lines [] s a = shown_parts relative (first_set lines) (first_names lines s)
list_parts relative lines (t ∷ tracks) s a =
    both_parts relative (shown_set (first_set lines)) (run_words t 1 (drop 1 lines) tracks) (map entry.Named (first_set lines)) (entry.Track t ∷ list_entries (drop 1 lines) tracks) (shown_parts relative (first_set lines) (first_names lines s))
    (runs_parts relative t 1 (drop 1 lines) tracks a.0 (omega arith) (omega arith) (rest_sets lines s) a.1)

-- an automatic repeat
pub automatic_read : (relative : Bool) (fit : Bool) (f : Filling) (lines : List (List Word)) (tracks : List Track) (rest : List Word) → often_of (filling_word fit) ≡ Some (often.Automatic f) → AreSets lines → AllHold (IsTrack relative) tracks → has_track (list_entries lines tracks) ≡ true
    → front (part_first relative) ((repeat_words (filling_word fit) ++ (plain_words lines tracks ++ codes ")" ∷ [])) ++ rest) ≡ Some (part.Automatic f (list_entries lines tracks), rest)
automatic_read relative fit f lines tracks rest e s a t =
    ap (front (part_first relative)) (append_assoc (repeat_words (filling_word fit)) (plain_words lines tracks ++ codes ")" ∷ []) rest ∙ ap (λ (vs : List Word). repeat_words (filling_word fit) ++ vs) (append_assoc (plain_words lines tracks) (codes ")" ∷ []) rest))
    ∙ repeat_read relative (filling_word fit) (plain_words lines tracks) rest (often.Automatic f) (list_entries lines tracks) e (plain_entries relative lines tracks s a) t
