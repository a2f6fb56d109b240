-- The plain text of a track list reads back as the list.
use Rattle.std.proofs.Common.{◌≡◌, ℕ, ◌+◌, ◌≤◌, ◌==◌, nat_le, Bool, true, false, not, ◌&&◌, ◌||◌, List, [], ◌∷◌, ◌++◌, map, take, length, ap, refl, sym, ◌∙◌, arith, if◌then◌else◌, subst, Option, Some, None, is_some, codes, Ok, Err}
use Rattle.std.proofs.lemmas.List.{append-nil, append_assoc}
use Rattle.std.proofs.lemmas.Bool.{true≢false, eqb-true}
use Rattle.std.proofs.lemmas.Slice.Eq.{bytes_eq-Decides}
use Rattle.std.specs.List.{list_all, list_any}
use Rattle.std.specs.Option.{option_map}
use Rattle.std.specs.Str.{bytes_eq}
use Rattle.lunit.specs.Names.{between, is_name, begins_name, continues_name}
use Rattle.text_scan.specs.Tokens.{is_separator, is_mark, is_space}
use Rattle.track_text.specs.declared.side.Side.{Side}
use Rattle.track_text.specs.declared.side.Side.TheVariants as side
use Rattle.track_text.specs.declared.side.Track.{Track}
use Rattle.track_text.specs.declared.side.ReadRepeat.{ReadRepeat}
use Rattle.track_text.specs.declared.side.ReadList.{ReadList}
use Rattle.track_text.specs.declared.entry.Entry.{Entry}
use Rattle.track_text.specs.declared.entry.Entry.TheVariants as entry
use Rattle.track_text.specs.declared.entry.Part.{Part}
use Rattle.track_text.specs.declared.entry.Part.TheVariants as part
use Rattle.track_text.specs.Words.{Word, bind, front, rest_up_to, all_from, with_first, words_of}
use Rattle.track_text.specs.Values.{is_relative}
use Rattle.track_text.specs.TrackSizes.{breadth_of, length_or_percentage, minmax, fit_to, track_first}
use Rattle.track_text.specs.NameSets.{is_line_name, is_reserved, name_first, distinct}
use Rattle.track_text.specs.Repeats.{named, one_track, once, part_first, has_track}
use Rattle.track_text.specs.Templates.{tracks_of, onto_first_line, lines_of, kept_tracks, kept_names, list_of, track_list, tracks_value, template_of}
use Rattle.track_text.specs.Kept.{is_written, entries_of}
use Rattle.track_text.specs.PlainText.{spaced, set_text, sides_text, size_text, pieces, plain_text, is_word, Spells, SpellsFit, IsNoFactor, HasText, AllHaveText, AreSets, IsPlain}
use Rattle.text_scan.specs.declared.line.Place.{Place}
use Rattle.track_text.specs.Words.{begins_with}
use Rattle.track_text.specs.Unsupported.{outside, is_one_of, is_measured, wide_keywords, functions, is_masonry, is_unsupported}
use Rattle.track_text.specs.Gives.{fault_at, or_bad, reading_of}
use Rattle.track_text.proofs.Scans.{found, here, IsQuiet, quiet_word, quiet_names, not_here, all_left, none_left}
use Rattle.track_text.proofs.Suffixes.{breadth_not, argument_not}
use Rattle.track_text.proofs.Cuts.{cuts, words_are, cut_word}
use Rattle.track_text.proofs.Rests.{at_close, at_name, nothing_before}
use Rattle.track_text.specs.Gives.{behind}
use Rattle.track_text.proofs.Fronts.{at_minmax, at_fit, at_set, at_track, at_once}
use Rattle.track_text.proofs.Joins.{next_of_all}
use Rattle.track_text.proofs.TrackLists.{list-parts, list-plain}
use Rattle.track_text.proofs.SubgridSets.{take-few}

no_answer : {A : Type 0} (b : Bool) → b ≡ true → b ≡ false → A
no_answer b t f = elim (true≢false (sym t ∙ f)) [ ]

and_first : (a b : Bool) → (a && b) ≡ true → a ≡ true
and_first true b h = refl
and_first false b h = h

and_second : (a b : Bool) → (a && b) ≡ true → b ≡ true
and_second true b h = h
and_second false b h = elim (true≢false (sym h)) [ ]

-- ---- names are words

no_mark_goes_on : (byte : ℕ) (marks : List ℕ) → list_all (λ m. not (continues_name m)) marks ≡ true → list_any (λ mark. byte == mark) marks ≡ true → continues_name byte ≡ false
no_mark_goes_on byte [] a h = elim (true≢false (sym h)) [ ]
no_mark_goes_on byte (mark ∷ marks) a h = by_test (byte == mark) refl (no_mark_goes_on byte marks (and_second (not (continues_name mark)) (list_all (λ m. not (continues_name m)) marks) a)) where
  not_true : (b : Bool) → not b ≡ true → b ≡ false
  not_true true h = sym h
  not_true false h = refl

  by_test : (b : Bool) → (byte == mark) ≡ b → (list_any (λ mark. byte == mark) marks ≡ true → continues_name byte ≡ false) → continues_name byte ≡ false
  by_test true e more = ap continues_name (eqb-true byte mark e) ∙ not_true (continues_name mark) (and_first (not (continues_name mark)) (list_all (λ m. not (continues_name m)) marks) a)
  by_test false e more = more (ap (λ (b : Bool). b || list_any (λ mark. byte == mark) marks) (sym e) ∙ h)

space_ends : (byte : ℕ) → is_space byte ≡ true → continues_name byte ≡ false
space_ends byte h = ap continues_name (eqb-true byte 32 h)

separator_ends : (byte : ℕ) → is_separator byte ≡ true → continues_name byte ≡ false
separator_ends byte h = by_space (is_space byte) refl where
  by_space : (b : Bool) → is_space byte ≡ b → continues_name byte ≡ false
  by_space true e = space_ends byte e
  by_space false e = no_mark_goes_on byte (codes "{}()[]:;,/") refl (ap (λ (b : Bool). b || is_mark byte) (sym e) ∙ h)

goes_on_inside : (byte : ℕ) → continues_name byte ≡ true → not (is_separator byte) ≡ true
goes_on_inside byte h = by_test (is_separator byte) refl where
  by_test : (b : Bool) → is_separator byte ≡ b → not b ≡ true
  by_test true e = no_answer (continues_name byte) h (separator_ends byte e)
  by_test false e = refl

both : (a b : Bool) → a ≡ true → b ≡ true → (a && b) ≡ true
both true b h k = k
both false b h k = h

all_inside : (bytes : List ℕ) → list_all continues_name bytes ≡ true → list_all (λ b. not (is_separator b)) bytes ≡ true
all_inside [] h = refl
all_inside (byte ∷ bytes) h = both (not (is_separator byte)) (list_all (λ b. not (is_separator b)) bytes) (goes_on_inside byte (and_first (continues_name byte) (list_all continues_name bytes) h)) (all_inside bytes (and_second (continues_name byte) (list_all continues_name bytes) h))

begins_goes_on : (byte : ℕ) → begins_name byte ≡ true → continues_name byte ≡ true
begins_goes_on byte h = ap (λ (b : Bool). b || (between 48 57 byte || byte == 45)) h

name_is_word : (name : Word) → is_line_name name ≡ true → is_word name ≡ true
name_is_word [] h = elim (true≢false (sym h)) [ ]
name_is_word (byte ∷ bytes) h =
    let a : is_name (byte ∷ bytes) ≡ true = and_first (is_name (byte ∷ bytes)) (not (is_reserved (byte ∷ bytes))) h in
    let b : (begins_name byte && list_all continues_name bytes) ≡ true = and_first (begins_name byte && list_all continues_name bytes) (nat_le (length (byte ∷ bytes)) 58) a in
    all_inside (byte ∷ bytes) (both (continues_name byte) (list_all continues_name bytes) (begins_goes_on byte (and_first (begins_name byte) (list_all continues_name bytes) b)) (and_second (begins_name byte) (list_all continues_name bytes) b))

-- ---- the words of sets and sizes

abbrev set_words : List Word → List Word → List Word
set_words names rest = (91 ∷ []) ∷ (names ++ (93 ∷ []) ∷ rest)

abbrev sides_words : (Side → Word) → Track → Option Side → List Word → List Word
sides_words spell track None rest = codes "minmax" ∷ codes "(" ∷ spell track.least ∷ codes "," ∷ spell track.most ∷ codes ")" ∷ rest
sides_words spell track (Some argument) rest = codes "fit-content" ∷ codes "(" ∷ spell argument ∷ codes ")" ∷ rest

abbrev list_words : (Side → Word) → List Track → List (List Word) → List Word
list_words spell sizes [] = []
list_words spell [] (names ∷ lines) = set_words names []
list_words spell (size ∷ sizes) (names ∷ lines) = set_words names (sides_words spell size size.fit (list_words spell sizes lines))

cut_names : (names : List Word) (rest : List ℕ) → list_all is_line_name names ≡ true → cuts (spaced names ++ 93 ∷ rest) ≡ names ++ (93 ∷ []) ∷ cuts rest
cut_names [] rest h = refl
cut_names (name ∷ []) rest h = cut_word name (93 ∷ rest) (name_is_word name (and_first (is_line_name name) true h)) refl
cut_names (name ∷ next ∷ names) rest h =
    ap cuts (append_assoc name (32 ∷ spaced (next ∷ names)) (93 ∷ rest))
    ∙ cut_word name (32 ∷ (spaced (next ∷ names) ++ 93 ∷ rest)) (name_is_word name (and_first (is_line_name name) (list_all is_line_name (next ∷ names)) h)) refl
    ∙ ap (λ (words : List Word). name ∷ words) (cut_names (next ∷ names) rest (and_second (is_line_name name) (list_all is_line_name (next ∷ names)) h))

cut_set : (names : List Word) (rest : List ℕ) → list_all is_line_name names ≡ true → cuts (set_text names ++ rest) ≡ set_words names (cuts rest)
cut_set names rest h = ap (λ (text : List ℕ). cuts (91 ∷ text)) (append_assoc (spaced names) (93 ∷ []) rest) ∙ ap (λ (words : List Word). (91 ∷ []) ∷ words) (cut_names names rest h)

cut_sides : (relative : Bool) (spell : Side → Word) (track : Track) (fit : Option Side) (rest : List ℕ) → HasText relative spell track fit → cuts (sides_text spell track fit ++ rest) ≡ sides_words spell track fit (cuts rest)
cut_sides relative spell track None rest h =
    ap cuts (ap (λ (text : List ℕ). codes "minmax(" ++ text) (append_assoc (spell track.least) (codes ", " ++ (spell track.most ++ codes ")")) rest
    ∙ ap (λ (text : List ℕ). spell track.least ++ (codes ", " ++ text)) (append_assoc (spell track.most) (codes ")") rest)))
    ∙ ap (λ (words : List Word). codes "minmax" ∷ codes "(" ∷ words) (cut_word (spell track.least) (codes ", " ++ (spell track.most ++ (codes ")" ++ rest))) h.1.word refl
    ∙ ap (λ (words : List Word). spell track.least ∷ codes "," ∷ words) (cut_word (spell track.most) (codes ")" ++ rest) (h.2).word refl))
cut_sides relative spell track (Some argument) rest h =
    ap cuts (ap (λ (text : List ℕ). codes "fit-content(" ++ text) (append_assoc (spell argument) (codes ")") rest))
    ∙ ap (λ (words : List Word). codes "fit-content" ∷ codes "(" ∷ words) (cut_word (spell argument) (codes ")" ++ rest) (h.2).word refl)

-- ---- the words of the text

set_piece : (names : List Word) (texts : List (List ℕ)) → list_all is_line_name names ≡ true → cuts (spaced (set_text names ∷ texts)) ≡ set_words names (cuts (spaced texts))
set_piece names [] h = ap cuts (sym (append-nil (set_text names))) ∙ cut_set names [] h
set_piece names (text ∷ texts) h = cut_set names (32 ∷ spaced (text ∷ texts)) h

size_piece : (relative : Bool) (spell : Side → Word) (track : Track) (texts : List (List ℕ)) → HasText relative spell track track.fit → cuts (spaced (size_text spell track ∷ texts)) ≡ sides_words spell track track.fit (cuts (spaced texts))
size_piece relative spell track [] h = ap cuts (sym (append-nil (size_text spell track))) ∙ cut_sides relative spell track track.fit [] h
size_piece relative spell track (text ∷ texts) h = cut_sides relative spell track track.fit (32 ∷ spaced (text ∷ texts)) h

cut_pieces : (relative : Bool) (spell : Side → Word) (sizes : List Track) (lines : List (List Word)) → AllHaveText relative spell sizes → AreSets lines → cuts (spaced (pieces spell sizes lines)) ≡ list_words spell sizes lines
cut_pieces relative spell [] [] h s = refl
cut_pieces relative spell (size ∷ sizes) [] h s = refl
cut_pieces relative spell [] (names ∷ lines) h s = set_piece names [] s.0
cut_pieces relative spell (size ∷ sizes) (names ∷ lines) h s =
    set_piece names (size_text spell size ∷ pieces spell sizes lines) s.0
    ∙ ap (set_words names) (size_piece relative spell size (pieces spell sizes lines) h.0 ∙ ap (sides_words spell size size.fit) (cut_pieces relative spell sizes lines h.1 (s.2)))

-- ---- the parts of the words

no_close : (name : Word) → is_line_name name ≡ true → bytes_eq name (codes "]") ≡ false
no_close name h = by_test (bytes_eq name (codes "]")) refl where
  by_test : (b : Bool) → bytes_eq name (codes "]") ≡ b → b ≡ false
  by_test true e = no_answer (is_line_name name) h (ap is_line_name ((bytes_eq-Decides name (codes "]")).0 e))
  by_test false e = refl

names_read : (held names rest : List Word) → list_all is_line_name names ≡ true → option_map (behind held) (rest_up_to (codes "]") name_first (names ++ (93 ∷ []) ∷ rest)) ≡ Some (held ++ names, rest)
names_read held [] rest h = at_close held (codes "]") name_first (93 ∷ []) rest refl ∙ ap (λ (names : List Word). Some (names, rest)) (sym (append-nil held))
names_read held (name ∷ names) rest h =
    let here : is_line_name name ≡ true = and_first (is_line_name name) (list_all is_line_name names) h in
    at_name held name (names ++ (93 ∷ []) ∷ rest) name (no_close name here) (ap (λ (b : Bool). if b then Some name else None) here)
    ∙ names_read (held ++ name ∷ []) names rest (and_second (is_line_name name) (list_all is_line_name names) h)
    ∙ ap (λ (names : List Word). Some (names, rest)) (append_assoc held (name ∷ []) names)

abbrev set_part : List Word → Part
set_part names = part.Written 1 (map entry.Named names)

abbrev size_part : Track → Part
size_part size = part.Written 1 (entry.Track size ∷ [])

front_set : (relative : Bool) (names rest : List Word) → list_all is_line_name names ≡ true → front (part_first relative) (set_words names rest) ≡ Some (set_part names, rest)
front_set relative names rest h =
    at_once relative (91 ∷ []) (names ++ (93 ∷ []) ∷ rest) refl
    ∙ ap (option_map once) (at_set relative (91 ∷ []) (names ++ (93 ∷ []) ∷ rest) refl
    ∙ ap (option_map named) (sym (nothing_before (rest_up_to (codes "]") name_first (names ++ (93 ∷ []) ∷ rest))) ∙ names_read [] names rest h))

sides_kept : (least most : Side) → IsNoFactor least → minmax least most ≡ Some (record { least = least; most = most; fit = None })
sides_kept (side.Flex factor) most h = elim h [ ]
sides_kept (side.Length px unit) most h = refl
sides_kept (side.Percent thousandths) most h = refl
sides_kept side.Auto most h = refl
sides_kept side.MinContent most h = refl
sides_kept side.MaxContent most h = refl

abbrev track_with : Track → Option Side → Track
track_with track fit = record { least = track.least; most = track.most; fit = fit }

abbrev fitted : Side → Side → Side → Track
fitted least most argument = record { least = least; most = most; fit = Some argument }

read_sides : (relative : Bool) (spell : Side → Word) (track : Track) (fit : Option Side) (rest : List Word) → HasText relative spell track fit → front (track_first relative) (sides_words spell track fit rest) ≡ Some (track_with track fit, rest)
read_sides relative spell track None rest h =
    at_minmax relative (codes "minmax") (codes "(" ∷ spell track.least ∷ codes "," ∷ spell track.most ∷ codes ")" ∷ rest) refl
    ∙ ap (option_map (λ (t : Track). (t, rest)))
    (ap (λ (least : Option Side). bind least (λ least. bind (breadth_of relative (spell track.most)) (λ most. minmax least most))) h.1.stands
    ∙ ap (λ (most : Option Side). bind most (λ most. minmax track.least most)) (h.2).stands
    ∙ sides_kept track.least track.most h.0)
read_sides relative spell track (Some argument) rest h =
    at_fit relative (codes "fit-content") (codes "(" ∷ spell argument ∷ codes ")" ∷ rest) refl refl
    ∙ ap (option_map (λ (t : Track). (t, rest))) (ap (option_map fit_to) (h.2).stands)
    ∙ ap (λ (least : Side). Some (fitted least side.MaxContent argument, rest)) (sym h.0)
    ∙ ap (λ (most : Side). Some (fitted track.least most argument, rest)) (sym (h.1))

no_bracket : (relative : Bool) (spell : Side → Word) (track : Track) (fit : Option Side) (rest : List Word) → HasText relative spell track fit
    → front (part_first relative) (sides_words spell track fit rest) ≡ option_map once (option_map one_track (front (track_first relative) (sides_words spell track fit rest)))
no_bracket relative spell track None rest h =
    at_once relative (codes "minmax") (codes "(" ∷ spell track.least ∷ codes "," ∷ spell track.most ∷ codes ")" ∷ rest) refl
    ∙ ap (option_map once) (at_track relative (codes "minmax") (codes "(" ∷ spell track.least ∷ codes "," ∷ spell track.most ∷ codes ")" ∷ rest) refl)
no_bracket relative spell track (Some argument) rest h =
    at_once relative (codes "fit-content") (codes "(" ∷ spell argument ∷ codes ")" ∷ rest) refl
    ∙ ap (option_map once) (at_track relative (codes "fit-content") (codes "(" ∷ spell argument ∷ codes ")" ∷ rest) refl)

front_size : (relative : Bool) (spell : Side → Word) (track : Track) (rest : List Word) → HasText relative spell track track.fit → front (part_first relative) (sides_words spell track track.fit rest) ≡ Some (size_part track, rest)
front_size relative spell track rest h =
    no_bracket relative spell track track.fit rest h
    ∙ ap (λ (read : Option (Track × List Word)). option_map once (option_map one_track read)) (read_sides relative spell track track.fit rest h)

abbrev list_parts : List Track → List (List Word) → List Part
list_parts sizes [] = []
list_parts [] (names ∷ lines) = set_part names ∷ []
list_parts (size ∷ sizes) (names ∷ lines) = set_part names ∷ size_part size ∷ list_parts sizes lines

one_part : (relative : Bool) (word : Word) (words rest : List Word) (x : Part) → front (part_first relative) (word ∷ words) ≡ Some (x, rest) → all_from (part_first relative) (word ∷ words) ≡ option_map (with_first x) (all_from (part_first relative) rest)
one_part relative word words rest x e = next_of_all (part_first relative) word words ∙ ap (λ (read : Option (Part × List Word)). bind read (λ read. option_map (with_first read.0) (all_from (part_first relative) read.1))) e

size_then : (relative : Bool) (spell : Side → Word) (track : Track) (fit : Option Side) (rest : List Word) (x : Part) → front (part_first relative) (sides_words spell track fit rest) ≡ Some (x, rest)
    → all_from (part_first relative) (sides_words spell track fit rest) ≡ option_map (with_first x) (all_from (part_first relative) rest)
size_then relative spell track None rest x e = one_part relative (codes "minmax") (codes "(" ∷ spell track.least ∷ codes "," ∷ spell track.most ∷ codes ")" ∷ rest) rest x e
size_then relative spell track (Some argument) rest x e = one_part relative (codes "fit-content") (codes "(" ∷ spell argument ∷ codes ")" ∷ rest) rest x e

no_parts : (relative : Bool) → all_from (part_first relative) [] ≡ Some []
unfolding all_from
no_parts relative = refl

all_parts : (relative : Bool) (spell : Side → Word) (sizes : List Track) (lines : List (List Word)) → AllHaveText relative spell sizes → AreSets lines → all_from (part_first relative) (list_words spell sizes lines) ≡ Some (list_parts sizes lines)
all_parts relative spell [] [] h s = no_parts relative
all_parts relative spell (size ∷ sizes) [] h s = no_parts relative
all_parts relative spell [] (names ∷ lines) h s =
    one_part relative (91 ∷ []) (names ++ (93 ∷ []) ∷ []) [] (set_part names) (front_set relative names [] s.0) ∙ ap (option_map (with_first (set_part names))) (no_parts relative)
all_parts relative spell (size ∷ sizes) (names ∷ lines) h s =
    let rest = list_words spell sizes lines in
    one_part relative (91 ∷ []) (names ++ (93 ∷ []) ∷ sides_words spell size size.fit rest) (sides_words spell size size.fit rest) (set_part names) (front_set relative names (sides_words spell size size.fit rest) s.0)
    ∙ ap (option_map (with_first (set_part names))) (size_then relative spell size size.fit rest (size_part size) (front_size relative spell size rest h.0)
    ∙ ap (option_map (with_first (size_part size))) (all_parts relative spell sizes lines h.1 (s.2)))

-- ---- the list of the parts

all_written : (sizes : List Track) (lines : List (List Word)) → list_all is_written (list_parts sizes lines) ≡ true
all_written [] [] = refl
all_written (size ∷ sizes) [] = refl
all_written [] (names ∷ lines) = refl
all_written (size ∷ sizes) (names ∷ lines) = all_written sizes lines

names_then_tracks : (names : List Word) (more : List Entry) → tracks_of ((map entry.Named names ++ []) ++ more) ≡ tracks_of more
names_then_tracks [] more = refl
names_then_tracks (name ∷ names) more = names_then_tracks names more

names_then_lines : (names first : List Word) (lines : List (List Word)) (more : List Entry) → lines_of more ≡ first ∷ lines → lines_of ((map entry.Named names ++ []) ++ more) ≡ (names ++ first) ∷ lines
names_then_lines [] first lines more e = e
names_then_lines (name ∷ names) first lines more e = ap (onto_first_line name) (names_then_lines names first lines more e)

the_tracks : (sizes : List Track) (lines : List (List Word)) → length lines ≡ length sizes + 1 → tracks_of (entries_of (list_parts sizes lines)) ≡ sizes
the_tracks [] [] n = refl
the_tracks (size ∷ sizes) [] n = let wrong : ⊥ = omega arith in elim wrong [ ]
the_tracks [] (names ∷ lines) n = names_then_tracks names []
the_tracks (size ∷ sizes) (names ∷ lines) n = names_then_tracks names (entry.Track size ∷ entries_of (list_parts sizes lines)) ∙ ap (λ (xs : List Track). size ∷ xs) (the_tracks sizes lines (omega arith))

the_lines : (sizes : List Track) (lines : List (List Word)) → length lines ≡ length sizes + 1 → lines_of (entries_of (list_parts sizes lines)) ≡ lines
the_lines [] [] n = let wrong : ⊥ = omega arith in elim wrong [ ]
the_lines (size ∷ sizes) [] n = let wrong : ⊥ = omega arith in elim wrong [ ]
the_lines [] (names ∷ []) n = names_then_lines names [] [] [] refl ∙ ap (λ (xs : List Word). xs ∷ []) (append-nil names)
the_lines [] (names ∷ more ∷ lines) n = let wrong : ⊥ = omega arith in elim wrong [ ]
the_lines (size ∷ sizes) (names ∷ lines) n =
    names_then_lines names [] (lines_of (entries_of (list_parts sizes lines))) (entry.Track size ∷ entries_of (list_parts sizes lines)) refl
    ∙ ap (λ (xs : List Word). xs ∷ lines_of (entries_of (list_parts sizes lines))) (append-nil names)
    ∙ ap (λ (xs : List (List Word)). names ∷ xs) (the_lines sizes lines (omega arith))

sets_distinct : (lines : List (List Word)) → AreSets lines → map distinct lines ≡ lines
sets_distinct [] s = refl
sets_distinct (names ∷ lines) s = ap (λ (xs : List Word). xs ∷ map distinct lines) (s.1) ∙ ap (λ (xs : List (List Word)). names ∷ xs) (sets_distinct lines (s.2))

some_track : (es : List Entry) → 1 ≤ length (tracks_of es) → has_track es ≡ true
some_track [] h = let wrong : ⊥ = omega arith in elim wrong [ ]
some_track (entry.Track size ∷ es) h = refl
some_track (entry.Named name ∷ es) h = some_track es h

abbrev without_repeat : List Track → List (List Word) → ReadList
without_repeat sizes names = record { sizes = sizes; names = names; repeat = None }

-- what the words of a list stand for
the_list : (relative : Bool) (spell : Side → Word) (list : ReadList) → IsPlain relative spell list → track_list relative (list_words spell list.sizes list.names) ≡ Some (without_repeat list.sizes list.names)
the_list relative spell list p =
    let entries = entries_of (list_parts list.sizes list.names) in
    let tracks : tracks_of entries ≡ list.sizes = the_tracks list.sizes list.names p.lines in
    let lines : lines_of entries ≡ list.names = the_lines list.sizes list.names p.lines in
    let kept : kept_tracks entries ≡ list.sizes = ap (take 10000) tracks ∙ take-few 10000 list.sizes p.few in
    let names : kept_names entries ≡ list.names = ap (λ (xs : List (List Word)). map distinct (take 10001 xs)) lines ∙ ap (map distinct) (take-few 10001 list.names (omega (arith, p.lines, p.few))) ∙ sets_distinct list.names p.names in
    let some : has_track entries ≡ true = some_track entries (subst (λ (xs : List Track). 1 ≤ length xs) (sym tracks) p.some) in
    list-parts relative (list_words spell list.sizes list.names)
    ∙ ap (λ (parts : Option (List Part)). bind parts (list_of [])) (all_parts relative spell list.sizes list.names p.sizes p.names)
    ∙ list-plain [] (list_parts list.sizes list.names) (all_written list.sizes list.names)
    ∙ ap (λ (b : Bool). if b then Some (without_repeat (kept_tracks entries) (kept_names entries)) else None) some
    ∙ ap (λ (xs : List Track). Some (without_repeat xs (kept_names entries))) kept
    ∙ ap (λ (xs : List (List Word)). Some (without_repeat list.sizes xs)) names

a_list : (relative : Bool) (spell : Side → Word) (sizes : List Track) (lines : List (List Word)) → length lines ≡ length sizes + 1 → template_of relative (list_words spell sizes lines) ≡ option_map tracks_value (track_list relative (list_words spell sizes lines))
a_list relative spell sizes [] n = let wrong : ⊥ = omega arith in elim wrong [ ]
a_list relative spell [] (names ∷ lines) n = by_names names where
  by_names : (names : List Word) → template_of relative (set_words names []) ≡ option_map tracks_value (track_list relative (set_words names []))
  by_names [] = refl
  by_names (name ∷ names) = refl
a_list relative spell (size ∷ sizes) (names ∷ lines) n = by_names names where
  by_names : (names : List Word) → template_of relative (set_words names (sides_words spell size size.fit (list_words spell sizes lines))) ≡ option_map tracks_value (track_list relative (set_words names (sides_words spell size size.fit (list_words spell sizes lines))))
  by_names [] = refl
  by_names (name ∷ names) = refl

pub reads_back : (relative : Bool) (spell : Side → Word) (list : ReadList) → IsPlain relative spell list → template_of relative (words_of (plain_text spell list)) ≡ Some (tracks_value list)
reads_back relative spell list p =
    ap (template_of relative) (words_are (plain_text spell list) ∙ cut_pieces relative spell list.sizes list.names p.sizes p.names)
    ∙ a_list relative spell list.sizes list.names p.lines
    ∙ ap (option_map tracks_value) (the_list relative spell list p)
    ∙ ap (λ (repeat : Option ReadRepeat). Some (tracks_value (record { sizes = list.sizes; names = list.names; repeat = repeat }))) (sym p.no_repeat)

-- ---- none of the words is unsupported

none_left_to_find : (relative : Bool) → found relative false (outside false []) ≡ false
none_left_to_find relative = none_left relative false false

none_closes : (names : List Word) → list_all is_line_name names ≡ true → list_any (λ name. bytes_eq name (codes "]")) names ≡ false
none_closes [] h = refl
none_closes (name ∷ names) h = ap (λ (b : Bool). b || list_any (λ name. bytes_eq name (codes "]")) names) (no_close name (and_first (is_line_name name) (list_all is_line_name names) h)) ∙ none_closes names (and_second (is_line_name name) (list_all is_line_name names) h)

-- a word that gives an answer is none of those that give none
no_such : {A : Type 0} (read : Word → Option A) (word due : Word) (x : A) → read word ≡ Some x → read due ≡ None → bytes_eq word due ≡ false
no_such read word due x s n = by_test (bytes_eq word due) refl where
  some_is_none : (o : Option _) → o ≡ Some x → o ≡ None → ⊥
  some_is_none o s n = true≢false (sym (ap is_some s) ∙ ap is_some n)

  by_test : (b : Bool) → bytes_eq word due ≡ b → b ≡ false
  by_test true e = elim (some_is_none (read word) s (ap read ((bytes_eq-Decides word due).0 e) ∙ n)) [ ]
  by_test false e = refl

abbrev AreNone : {A : Type 0} → (Word → Option A) → List Word → Type 0
AreNone read [] = Unit {0}
AreNone read (due ∷ more) = (read due ≡ None) × AreNone read more

none_of : {A : Type 0} (read : Word → Option A) (word : Word) (x : A) (dues : List Word) → read word ≡ Some x → AreNone read dues → is_one_of dues word ≡ false
none_of read word x [] s n = refl
none_of read word x (due ∷ dues) s n = ap (λ (b : Bool). b || list_any (bytes_eq word) dues) (no_such read word due x s n.0) ∙ none_of read word x dues s n.1

quiet_by : (wide measured function masonry next : Bool) → wide ≡ false → measured ≡ false → function ≡ false → masonry ≡ false → ((wide || (measured || (function && next))) || (masonry || false)) ≡ false
quiet_by wide measured function masonry next w m f y = rw (w, m, f, y) refl

quiet_breadth : (relative : Bool) {A : Type 0} (read : Word → Option A) (word : Word) (x : A) (words : List Word) → read word ≡ Some x → is_measured relative word ≡ false
    → AreNone read wide_keywords → AreNone read functions → read (codes "masonry") ≡ None → read (codes "subgrid") ≡ None → read (codes "[") ≡ None → IsQuiet relative word words
quiet_breadth relative read word x words s m w f y g b = record {
  here_not = quiet_by (is_one_of wide_keywords word) (is_measured relative word) (is_one_of functions word) (is_masonry word) (begins_with (codes "(") words)
      (none_of read word x wide_keywords s w) m (none_of read word x functions s f) (no_such read word (codes "masonry") x s y);
  not_subgrid = no_such read word (codes "subgrid") x s g;
  not_bracket = no_such read word (codes "[") x s b;
}

-- none of the words that are looked for is read so
abbrev NoneRead : {A : Type 0} → (Word → Option A) → Type 0
NoneRead read = AreNone read wide_keywords × AreNone read functions × (read (codes "masonry") ≡ None) × (read (codes "subgrid") ≡ None) × (read (codes "[") ≡ None)

no_breadth : (relative : Bool) → NoneRead (breadth_of relative)
no_breadth true = ((refl, (refl, (refl, (refl, tt)))), (refl, (refl, (refl, (refl, tt)))), refl, refl, refl)
no_breadth false = ((refl, (refl, (refl, (refl, tt)))), (refl, (refl, (refl, (refl, tt)))), refl, refl, refl)

no_argument : (relative : Bool) → NoneRead (length_or_percentage relative true)
no_argument true = ((refl, (refl, (refl, (refl, tt)))), (refl, (refl, (refl, (refl, tt)))), refl, refl, refl)
no_argument false = ((refl, (refl, (refl, (refl, tt)))), (refl, (refl, (refl, (refl, tt)))), refl, refl, refl)

quiet_spelled : (relative : Bool) (spell : Side → Word) (b : Side) (words : List Word) → Spells relative spell b → IsQuiet relative (spell b) words
quiet_spelled relative spell b words s =
    let n = no_breadth relative in
    quiet_breadth relative (breadth_of relative) (spell b) b words s.stands (breadth_not relative (spell b) b s.stands) n.0 n.1 n.2 n.3 n.4

quiet_fit : (relative : Bool) (spell : Side → Word) (b : Side) (words : List Word) → SpellsFit relative spell b → IsQuiet relative (spell b) words
quiet_fit relative spell b words s =
    let n = no_argument relative in
    quiet_breadth relative (length_or_percentage relative true) (spell b) b words s.stands (argument_not relative true (spell b) b s.stands) n.0 n.1 n.2 n.3 n.4

quiet_minmax : (relative : Bool) (words : List Word) → IsQuiet relative (codes "minmax") words
quiet_minmax true words = record { here_not = refl; not_subgrid = refl; not_bracket = refl }
quiet_minmax false words = record { here_not = refl; not_subgrid = refl; not_bracket = refl }

quiet_content : (relative : Bool) (words : List Word) → IsQuiet relative (codes "fit-content") words
quiet_content true words = record { here_not = refl; not_subgrid = refl; not_bracket = refl }
quiet_content false words = record { here_not = refl; not_subgrid = refl; not_bracket = refl }

quiet_opening : (relative : Bool) (words : List Word) → IsQuiet relative (codes "(") words
quiet_opening true words = record { here_not = refl; not_subgrid = refl; not_bracket = refl }
quiet_opening false words = record { here_not = refl; not_subgrid = refl; not_bracket = refl }

quiet_comma : (relative : Bool) (words : List Word) → IsQuiet relative (codes ",") words
quiet_comma true words = record { here_not = refl; not_subgrid = refl; not_bracket = refl }
quiet_comma false words = record { here_not = refl; not_subgrid = refl; not_bracket = refl }

quiet_closing : (relative : Bool) (words : List Word) → IsQuiet relative (codes ")") words
quiet_closing true words = record { here_not = refl; not_subgrid = refl; not_bracket = refl }
quiet_closing false words = record { here_not = refl; not_subgrid = refl; not_bracket = refl }

bracket_not : (relative : Bool) (words : List Word) → here relative false (codes "[") words ≡ false
bracket_not true words = refl
bracket_not false words = refl

quiet_sides : (relative : Bool) (spell : Side → Word) (track : Track) (fit : Option Side) (rest : List Word) → HasText relative spell track fit → found relative false (outside false (sides_words spell track fit rest)) ≡ found relative false (outside false rest)
quiet_sides relative spell track None rest h =
    let after = codes "," ∷ spell track.most ∷ codes ")" ∷ rest in
    quiet_word relative (codes "minmax") (codes "(" ∷ spell track.least ∷ after) (quiet_minmax relative (codes "(" ∷ spell track.least ∷ after))
    ∙ quiet_word relative (codes "(") (spell track.least ∷ after) (quiet_opening relative (spell track.least ∷ after))
    ∙ quiet_word relative (spell track.least) after (quiet_spelled relative spell track.least after h.1)
    ∙ quiet_word relative (codes ",") (spell track.most ∷ codes ")" ∷ rest) (quiet_comma relative (spell track.most ∷ codes ")" ∷ rest))
    ∙ quiet_word relative (spell track.most) (codes ")" ∷ rest) (quiet_spelled relative spell track.most (codes ")" ∷ rest) (h.2))
    ∙ quiet_word relative (codes ")") rest (quiet_closing relative rest)
quiet_sides relative spell track (Some argument) rest h =
    quiet_word relative (codes "fit-content") (codes "(" ∷ spell argument ∷ codes ")" ∷ rest) (quiet_content relative (codes "(" ∷ spell argument ∷ codes ")" ∷ rest))
    ∙ quiet_word relative (codes "(") (spell argument ∷ codes ")" ∷ rest) (quiet_opening relative (spell argument ∷ codes ")" ∷ rest))
    ∙ quiet_word relative (spell argument) (codes ")" ∷ rest) (quiet_fit relative spell argument (codes ")" ∷ rest) (h.2))
    ∙ quiet_word relative (codes ")") rest (quiet_closing relative rest)

quiet_set : (relative : Bool) (names rest : List Word) → list_all is_line_name names ≡ true → found relative false (outside false (set_words names rest)) ≡ found relative false (outside false rest)
quiet_set relative names rest h = not_here relative false (codes "[") (names ++ codes "]" ∷ rest) (bracket_not relative (names ++ codes "]" ∷ rest)) ∙ quiet_names relative names rest (none_closes names h)

quiet_list : (relative : Bool) (spell : Side → Word) (sizes : List Track) (lines : List (List Word)) → AllHaveText relative spell sizes → AreSets lines → found relative false (outside false (list_words spell sizes lines)) ≡ false
quiet_list relative spell [] [] h s = none_left_to_find relative
quiet_list relative spell (size ∷ sizes) [] h s = none_left_to_find relative
quiet_list relative spell [] (names ∷ lines) h s = quiet_set relative names [] s.0 ∙ none_left_to_find relative
quiet_list relative spell (size ∷ sizes) (names ∷ lines) h s =
    quiet_set relative names (sides_words spell size size.fit (list_words spell sizes lines)) s.0
    ∙ quiet_sides relative spell size size.fit (list_words spell sizes lines) h.0
    ∙ quiet_list relative spell sizes lines h.1 (s.2)

pub read_again : (version : ℕ) (spell : Side → Word) (list : ReadList) (at : Place) → IsPlain (is_relative version) spell list → reading_of version at (words_of (plain_text spell list)) ≡ Ok (tracks_value list)
read_again version spell list at p =
    let relative = is_relative version in
    let words : words_of (plain_text spell list) ≡ list_words spell list.sizes list.names = words_are (plain_text spell list) ∙ cut_pieces relative spell list.sizes list.names p.sizes p.names in
    let quiet : is_unsupported relative (words_of (plain_text spell list)) ≡ false = ap (is_unsupported relative) words ∙ sym (all_left relative (list_words spell list.sizes list.names)) ∙ quiet_list relative spell list.sizes list.names p.sizes p.names in
    ap (λ (b : Bool). if b then Err (fault_at 11 at) else or_bad at (template_of relative (words_of (plain_text spell list)))) quiet
    ∙ ap (or_bad at) (reads_back relative spell list p)
