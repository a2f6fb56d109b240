-- The lines of a document as they are written, read again.
use Rattle.std.proofs.Common.{◌≡◌, ℕ, suc, ℤ, ◌+◌, ◌*◌, ◌/◌, ◌%◌, ◌≤◌, ◌==◌, Bool, true, false, not, ◌&&◌, List, [], ◌∷◌, ◌++◌, length, refl, ap, sym, subst, ◌∙◌, arith, if◌then◌else◌, Option, Some, None, Result, Ok, Err, codes, inl, inr, ◌⊎◌, add-one, unsigned_abs}
use Rattle.std.specs.Prelude.{⊤, nat_le, nat_lt}
use Rattle.std.specs.Fmt.{digits}
use Rattle.std.specs.List.{list_all, position_or_len}
use Rattle.std.specs.Str.{bytes_eq}
use Rattle.std.specs.FinMap as map
use Rattle.std.proofs.lemmas.Bool.{and_parts, and_from, true≢false, not-true, eqb-true, ltb-false, le-ltb, le-leb}
use Rattle.std.proofs.lemmas.List.{append-nil, append_assoc, take_all}
use Rattle.std.proofs.lemmas.List.Folds.{list_all-append}
use Rattle.std.proofs.Math.Nat.{mul-mod_right, mul-div_cancel_left}
use Rattle.lunit.specs.Names.{is_name}
use Rattle.text_scan.specs.declared.line.Fault.{Fault}
use Rattle.text_scan.specs.declared.line.Line.{Line}
use Rattle.text_scan.specs.declared.line.Place.{Place}
use Rattle.text_scan.specs.Lines.{is_line_feed, is_printable, onto_first, split_lines, bad_byte, too_long, least_fault, line_fault, line_of as scanned, numbered, lines_of}
use Rattle.text_scan.specs.Tokens.{is_space, is_comment_mark, is_skipped, word_goes_on}
use Rattle.track_text.specs.Words.{Word, bind}
use Rattle.track_text.specs.Gives.{fault_at}
use Rattle.plain_tree.specs.Trees.{Trees, leafless, tree, EachLabel}
use Rattle.doc_text.specs.declared.document.Doc.{Doc}
use Rattle.doc_text.specs.declared.kind.Kind.{Kind}
use Rattle.doc_text.specs.Documents.{from_counted, version_in, sizes_in, viewport_in, header, is_indent, label_with, standing, node_on, node_of, nodes_of, rooted, sized, headed, document_of}
use Rattle.doc_text.specs.Edits.{tree_of, are_too_many}
use Rattle.doc_text.specs.Growth.{open_levels, alone, put_last}
use Rattle.doc_text.specs.Label.{Label, DeclaredMap}
use Rattle.doc_text.specs.NodeText.{node_text}
use Rattle.doc_text.specs.Texts.{Text, past, spaces_of, first_word, word_place, after_word, is_empty, trimmed, text_of, ◌>>=◌, due}
use Rattle.doc_text.specs.Tokens.{name_of, name_first, size_of_word}
use Rattle.doc_text.specs.Valid.{IsToldLabel, IsVersion, IsValid}
use Rattle.doc_writer.specs.Documents.{NodeLine, indent, kind_words, style_words, node_line, line_of, lines_of as node_lines, longest, ended, with_lines, version_words, viewport_words, header as header_text, canonical}
use Rattle.doc_writer.specs.Numbers.{number, px_number}
use Rattle.doc_writer.specs.Spaces.{gap, last_or, words_after, words_text}
use Rattle.doc_writer.proofs.Kept.{last-append, after_gap, last_spaces}
use Rattle.doc_writer.proofs.Short.{after_length, number_length}
use Rattle.doc_writer.proofs.WordsBack.{is_plain, is_token, are_tokens, any_yes, IsMarkWord, token_cases, words_end, is_written, words_written, spaces_written, before_none}
use Rattle.doc_writer.proofs.TextsBack.{Begins, not_space, spaces_before, first_is, after_is, no_word, trimmed_same}
use Rattle.doc_writer.proofs.SidesBack.{AllHold}
use Rattle.doc_writer.proofs.ValuesBack.{name_plain, name_some, plain_token}
use Rattle.doc_writer.proofs.DeclarationsBack.{value_token_is}
use Rattle.doc_writer.proofs.TreesBack.{join_last, put_is, join_none, join_more, join_below}
use Rattle.doc_writer.proofs.NodesBack.{IsPx, size_told, px_back, px_token, small_px, Holds, word_first, word_after}
use Rattle.doc_writer.proofs.KindsBack.{node_tokens, node_back}
use Rattle.doc_writer.proofs.GrowthBack.{Fits, stands, fits_below, fits_after, times_one}

-- ---- the last byte of words

plain_solid : (byte : ℕ) → is_plain byte ≡ true → is_space byte ≡ false
plain_solid byte p = by_space (is_space byte) refl where
  by_space : (b : Bool) → is_space byte ≡ b → b ≡ false
  by_space true e = absurd (true≢false (sym p ∙ ap is_plain (eqb-true byte 32 e)))
  by_space false e = refl

last_plain : (byte : ℕ) (bytes : List ℕ) → is_space byte ≡ false → list_all is_plain bytes ≡ true → is_space (last_or byte bytes) ≡ false
last_plain byte [] s h = s
last_plain byte (next ∷ bytes) s h =
    let parts = and_parts (is_plain next) (list_all is_plain bytes) h in
    last_plain next bytes (plain_solid next parts.0) parts.1

token_ends : (last : ℕ) (word : Word) → is_token word ≡ true → is_space (last_or last word) ≡ false
token_ends last word t = by_case (token_cases word t) where
  of_plain : (word : Word) → is_token word ≡ true → list_all is_plain word ≡ true → is_space (last_or last word) ≡ false
  of_plain [] t p = absurd (true≢false (sym t))
  of_plain (byte ∷ bytes) t p =
      let parts = and_parts (is_plain byte) (list_all is_plain bytes) p in
      last_plain byte bytes (plain_solid byte parts.0) parts.1

  by_case : IsMarkWord word ⊎ (list_all is_plain word ≡ true) → is_space (last_or last word) ≡ false
  by_case (inl m) = ap (λ (w : Word). is_space (last_or last w)) m.is ∙ not-true (is_space m.byte) (any_yes m.byte (λ b. not (is_space b)) (codes "{}()[]:;,/") refl m.mark)
  by_case (inr p) = of_plain word t p

-- words after a byte that is no space
more_last : (last : ℕ) (words : List Word) → are_tokens words ≡ true → is_space last ≡ false → is_space (last_or last (words_after last words)) ≡ false
more_last last [] t e = e
more_last last (word ∷ words) t e =
    let parts = and_parts (is_token word) (are_tokens words) t in
    let rest : List ℕ = words_after (last_or last word) words in
    ap is_space (last-append last (gap last word) (word ++ rest) ∙ last-append (last_or last (gap last word)) word rest ∙ ap (λ (byte : ℕ). last_or byte rest) (after_gap last word))
    ∙ more_last (last_or last word) words parts.1 (token_ends last word parts.0)

words_last : (last : ℕ) (word : Word) (words : List Word) → are_tokens (word ∷ words) ≡ true → is_space (last_or last (words_after last (word ∷ words))) ≡ false
words_last last word words t =
    let parts = and_parts (is_token word) (are_tokens words) t in
    let rest : List ℕ = words_after (last_or last word) words in
    ap is_space (last-append last (gap last word) (word ++ rest) ∙ last-append (last_or last (gap last word)) word rest ∙ ap (λ (byte : ℕ). last_or byte rest) (after_gap last word))
    ∙ more_last (last_or last word) words parts.1 (token_ends last word parts.0)

-- ---- lines

-- bytes of a line that has no fault, no comment and no space at its end
pub record IsWhole (bytes : List ℕ) : Type 0 where
  pub written : list_all is_written bytes ≡ true
  pub ends : is_space (last_or 32 bytes) ≡ false
  pub short : length bytes ≤ 65536

whole_words : (level : ℕ) (word : Word) (words : List Word) → are_tokens (word ∷ words) ≡ true → length (indent level ++ words_text (word ∷ words)) ≤ 65536 → IsWhole (indent level ++ words_text (word ∷ words))
whole_words level word words t h = record {
  written =
      list_all-append is_written (indent level) (words_text (word ∷ words))
      ∙ and_from (list_all is_written (indent level)) (list_all is_written (words_text (word ∷ words))) (spaces_written (2 * level)) (words_written 32 (word ∷ words) t);
  ends =
      ap is_space (last-append 32 (indent level) (words_text (word ∷ words)) ∙ ap (λ (byte : ℕ). last_or byte (words_text (word ∷ words))) (last_spaces (2 * level)))
      ∙ words_last 32 word words t;
  short = h;
}

-- a line without a fault
abbrev good : ℕ → List ℕ → Line
good at bytes = record { number = at; bytes = bytes; fault = None }

no_bad : (bytes : List ℕ) → list_all is_written bytes ≡ true → position_or_len (λ byte. not (is_printable byte)) bytes ≡ length bytes
no_bad [] h = refl
no_bad (byte ∷ bytes) h =
    let parts = and_parts (is_written byte) (list_all is_written bytes) h in
    let printable : is_printable byte ≡ true = (and_parts (not (is_comment_mark byte)) (is_printable byte) parts.0).1 in
    ap (λ (b : Bool). if not (not b) then 1 + position_or_len (λ byte. not (is_printable byte)) bytes else 0) printable ∙ omega (arith, no_bad bytes parts.1)

no_bad_byte : (at : ℕ) (bytes : List ℕ) → list_all is_written bytes ≡ true → bad_byte at bytes ≡ None
no_bad_byte at bytes h = rw (le-ltb (position_or_len (λ byte. not (is_printable byte)) bytes) (length bytes) (omega (arith, no_bad bytes h))) refl

not_long : (at : ℕ) (bytes : List ℕ) → length bytes ≤ 65536 → too_long at bytes ≡ None
not_long at bytes h = rw (le-ltb 65536 (length bytes) h) refl

scanned_good : (at : ℕ) (bytes : List ℕ) → IsWhole bytes → scanned at bytes ≡ good at bytes
scanned_good at bytes w =
    let none : line_fault at bytes ≡ None = ap (λ (f : Option Fault). least_fault f (too_long at bytes)) (no_bad_byte at bytes w.written) ∙ ap (least_fault None) (not_long at bytes w.short) in
    ap (λ (bs : List ℕ). record { number = at; bytes = bs; fault = line_fault at bytes }) (take_all 65536 bytes w.short)
    ∙ ap (λ (f : Option Fault). record { number = at; bytes = bytes; fault = f }) none

and_false : (b c : Bool) → c ≡ false → (b && c) ≡ false
and_false true c e = e
and_false false c e = refl

some_solid : (byte : ℕ) (bytes : List ℕ) → is_space (last_or byte bytes) ≡ false → list_all is_space (byte ∷ bytes) ≡ false
some_solid byte [] e = ap (λ (b : Bool). b && true) e
some_solid byte (next ∷ bytes) e = and_false (is_space byte) (list_all is_space (next ∷ bytes)) (some_solid next bytes e)

not_all_spaces : (bytes : List ℕ) → is_space (last_or 32 bytes) ≡ false → list_all is_space bytes ≡ false
not_all_spaces [] e = absurd (true≢false e)
not_all_spaces (byte ∷ bytes) e = some_solid byte bytes e

not_skipped : (at : ℕ) (bytes : List ℕ) → IsWhole bytes → is_skipped (good at bytes) ≡ false
not_skipped at bytes w = ap (list_all is_space) (before_none bytes w.written) ∙ not_all_spaces bytes w.ends

own_text : (bytes : List ℕ) → is_space (last_or 32 bytes) ≡ false → trimmed bytes ≡ bytes
own_text [] e = refl
own_text (byte ∷ bytes) e = trimmed_same byte bytes e

line_text : (at : ℕ) (bytes : List ℕ) → IsWhole bytes → (text_of (good at bytes)).bytes ≡ bytes
unfolding text_of
line_text at bytes w = ap trimmed (before_none bytes w.written) ∙ own_text bytes w.ends

-- ---- the line of a node

name_token : (name : Word) → is_name name ≡ true → is_token name ≡ true
name_token name h = value_token_is name (plain_token name (name_some name h) (name_plain name h))

no_gap : (word : Word) → gap 32 word ≡ []
no_gap [] = refl
no_gap (byte ∷ word) = refl

module _ (version level : ℕ) (x : Label) (told : IsToldLabel version x) (short : length (node_line level x.name x.kind (map.get x.style)) ≤ 65536) where
  abbrev behind : List Word
  behind = kind_words x.kind ++ style_words (map.get x.style)

  abbrev bytes_of : List ℕ
  bytes_of = node_line level x.name x.kind (map.get x.style)

  name_is : is_token x.name ≡ true
  name_is = name_token x.name told.named

  rest_is : are_tokens behind ≡ true
  rest_is = node_tokens version x.kind x.style told.kind told.style

  pub whole_node : IsWhole bytes_of
  whole_node = whole_words level x.name behind (and_from (is_token x.name) (are_tokens behind) name_is rest_is) short

  module _ (at : ℕ) where
    abbrev here : Text
    here = text_of (good at bytes_of)

    begun : Begins here x.name (words_after (last_or 32 x.name) behind)
    begun = record {
      spaces = 2 * level;
      bytes = line_text at bytes_of whole_node ∙ ap (λ (gap : List ℕ). indent level ++ (gap ++ (x.name ++ words_after (last_or 32 x.name) behind))) (no_gap x.name);
      token = name_is;
      ends = (λ w. ap word_goes_on (sym (append-nil (words_after (last_or 32 x.name) behind))) ∙ words_end 32 x.name behind [] rest_is refl w);
    }

    indented : spaces_of here.bytes ≡ 2 * level
    unfolding begun
    indented = ap spaces_of begun.bytes ∙ spaces_before (2 * level) (x.name ++ words_after (last_or 32 x.name) behind) (not_space x.name (words_after (last_or 32 x.name) behind) name_is)

    name_back : name_first here ≡ Ok (x.name, after_word here)
    name_back =
        ap (λ (w : Word). due 5 here (name_of w)) (first_is here x.name (words_after (last_or 32 x.name) behind) begun)
        ∙ ap (λ (b : Bool). due 5 here (if b then Some x.name else None)) told.named

    node_on_back : (trees : Trees Label) → ((place : Place) → standing version level x.name place trees ≡ Ok tt) → node_on version level here trees ≡ Ok (put_last level x trees)
    node_on_back trees stand =
        ap (λ (r : Result (Word × Text) Fault). r >>= (λ name. standing version level name.0 (word_place here) trees >>= (λ _. node_text version name.1 >>= (λ node. Ok (put_last level (label_with name.0 node) trees))))) name_back
        ∙ ap (λ (r : Result (Unit {0}) Fault). r >>= (λ _. node_text version (after_word here) >>= (λ node. Ok (put_last level (label_with x.name node) trees)))) (stand (word_place here))
        ∙ ap (λ (r : Result (Kind × DeclaredMap) Fault). r >>= (λ node. Ok (put_last level (label_with x.name node) trees))) (node_back version (after_word here) (last_or 32 x.name) x.kind x.style told.kind told.style (after_is here x.name (words_after (last_or 32 x.name) behind) begun))

    pub node_of_back : (trees : Trees Label) → level ≤ open_levels trees → ((place : Place) → standing version level x.name place trees ≡ Ok tt) → node_of version (good at bytes_of) trees ≡ Ok (put_last level x trees)
    node_of_back trees opens stand =
        let even : (2 * level % 2 == 0) ≡ true = ap (λ (n : ℕ). n == 0) (mul-mod_right 2 level) in
        let half : 2 * level / 2 ≡ level = mul-div_cancel_left level (omega arith) in
        ap (λ (n : ℕ). if is_indent (open_levels trees) n then node_on version (n / 2) here trees else Err (fault_at 4 (word_place here))) indented
        ∙ ap (λ (b : Bool). if b && nat_le (2 * level / 2) (open_levels trees) then node_on version (2 * level / 2) here trees else Err (fault_at 4 (word_place here))) even
        ∙ ap (λ (n : ℕ). if nat_le n (open_levels trees) then node_on version n here trees else Err (fault_at 4 (word_place here))) half
        ∙ ap (λ (b : Bool). if b then node_on version level here trees else Err (fault_at 4 (word_place here))) (le-leb level (open_levels trees) opens)
        ∙ node_on_back trees stand

-- ---- the lines of nodes

-- lines, numbered from this one on, before others
abbrev lines_before : ℕ → List NodeLine → List Line → List Line
lines_before at [] more = more
lines_before at (line ∷ lines) more = scanned at line.text ∷ lines_before (at + 1) lines more

before_append : (at : ℕ) (lines after : List NodeLine) (more : List Line) → lines_before at (lines ++ after) more ≡ lines_before at lines (lines_before (at + length lines) after more)
before_append at [] after more = ap (λ (n : ℕ). lines_before n after more) (let e : at ≡ at + 0 = omega arith in e)
before_append at (line ∷ lines) after more =
    ap (λ (ls : List Line). scanned at line.text ∷ ls)
    (before_append (at + 1) lines after more ∙ ap (λ (n : ℕ). lines_before (at + 1) lines (lines_before n after more)) (let e : at + 1 + length lines ≡ at + suc (length lines) = omega arith in e))

abbrev IsShortLine : NodeLine → Type 0
IsShortLine line = length line.text ≤ 65536

all_parts : {A : Type 0} (P : A → Type 0) (xs ys : List A) → AllHold P (xs ++ ys) → AllHold P xs × AllHold P ys
all_parts P [] ys h = (tt, h)
all_parts P (x ∷ xs) ys h = let parts = all_parts P xs ys h.1 in ((h.0, parts.0), parts.1)

all_joined : {A : Type 0} (P : A → Type 0) (xs ys : List A) → AllHold P xs → AllHold P ys → AllHold P (xs ++ ys)
all_joined P [] ys h k = k
all_joined P (x ∷ xs) ys h k = (h.0, all_joined P xs ys h.1 k)

one_node : (version level at : ℕ) (x : Label) (below after trees : Trees Label) (lines : List Line) → Fits version level (tree x below after) trees → IsToldLabel version x → IsShortLine (line_of level x)
    → nodes_of version (scanned at (line_of level x).text ∷ lines) trees ≡ nodes_of version lines (join_last level (alone x) trees)
one_node version level at x below after trees lines f told short =
    let bytes : List ℕ = (line_of level x).text in
    let whole : IsWhole bytes = whole_node version level x told short in
    ap (λ (line : Line). if is_skipped line then nodes_of version lines trees else node_of version line trees >>= nodes_of version lines) (scanned_good at bytes whole)
    ∙ ap (λ (b : Bool). if b then nodes_of version lines trees else node_of version (good at bytes) trees >>= nodes_of version lines) (not_skipped at bytes whole)
    ∙ ap (λ (r : Result (Trees Label) Fault). r >>= nodes_of version lines) (node_of_back version level x told short at trees f.opens (stands version level x below after trees f))
    ∙ ap (nodes_of version lines) (put_is level x trees)

nodes_back : (version level : ℕ) (new : Trees Label) (at : ℕ) (trees : Trees Label) (more : List Line) → Fits version level new trees → EachLabel (IsToldLabel version) new → AllHold IsShortLine (node_lines level new)
    → nodes_of version (lines_before at (node_lines level new) more) trees ≡ nodes_of version more (join_last level new trees)
nodes_back version level leafless at trees more f told short = ap (nodes_of version more) (sym (join_none level trees))
nodes_back version level (tree x below after) at trees more f told short =
    let inner : List NodeLine = node_lines (level + 1) below in
    let outer : List NodeLine = node_lines level after in
    let parts = all_parts IsShortLine inner outer short.1 in
    let made : Trees Label = join_last level (alone x) trees in
    let whole : Trees Label = join_last level (tree x below leafless) trees in
    let back : List Line = lines_before (at + 1 + length inner) outer more in
    let grown : join_last (level + 1) below made ≡ whole = ap (λ (n : ℕ). join_last n below made) (add-one level) ∙ join_below level x below trees in
    one_node version level at x below after trees (lines_before (at + 1) (inner ++ outer) more) f told.0 short.0
    ∙ ap (λ (lines : List Line). nodes_of version lines made) (before_append (at + 1) inner outer more)
    ∙ nodes_back version (level + 1) below (at + 1) made back (fits_below version level x below after trees f) told.1.0 parts.0
    ∙ ap (nodes_of version back) grown
    ∙ nodes_back version level after (at + 1 + length inner) whole more (fits_after version level x below after trees f) told.1.1 parts.1
    ∙ ap (nodes_of version more) (join_more level (tree x below leafless) after trees)

-- ---- the lines of a text

printable_goes_on : (byte : ℕ) → is_written byte ≡ true → is_line_feed byte ≡ false
printable_goes_on byte h = by_feed (is_line_feed byte) refl where
  by_feed : (b : Bool) → is_line_feed byte ≡ b → b ≡ false
  by_feed true e = absurd (true≢false (sym h ∙ ap is_written (eqb-true byte 10 e)))
  by_feed false e = refl

split_ended : (line rest : List ℕ) → list_all is_written line ≡ true → split_lines (line ++ 10 ∷ rest) ≡ line ∷ split_lines rest
split_ended [] rest h = refl
split_ended (byte ∷ line) rest h =
    let parts = and_parts (is_written byte) (list_all is_written line) h in
    ap (λ (b : Bool). if b then [] ∷ split_lines (line ++ 10 ∷ rest) else onto_first byte (split_lines (line ++ 10 ∷ rest))) (printable_goes_on byte parts.0)
    ∙ ap (onto_first byte) (split_ended line rest parts.1)

split_line : (line rest : List ℕ) → list_all is_written line ≡ true → split_lines (ended line ++ rest) ≡ line ∷ split_lines rest
split_line line rest h = ap split_lines (append_assoc line (10 ∷ []) rest) ∙ split_ended line rest h

abbrev all_ended : List NodeLine → List ℕ
all_ended [] = []
all_ended (line ∷ lines) = ended line.text ++ all_ended lines

abbrev IsWrittenLine : NodeLine → Type 0
IsWrittenLine line = list_all is_written line.text ≡ true

numbered_back : (at : ℕ) (lines : List NodeLine) → AllHold IsWrittenLine lines → numbered at (split_lines (all_ended lines)) ≡ lines_before at lines []
numbered_back at [] h = refl
numbered_back at (line ∷ lines) h = ap (numbered at) (split_line line.text (all_ended lines) h.0) ∙ ap (λ (ls : List Line). scanned at line.text ∷ ls) (numbered_back (at + 1) lines h.1)

lines_written : (version level : ℕ) (trees : Trees Label) → EachLabel (IsToldLabel version) trees → AllHold IsShortLine (node_lines level trees) → AllHold IsWrittenLine (node_lines level trees)
lines_written version level leafless told short = tt
lines_written version level (tree x below after) told short =
    let parts = all_parts IsShortLine (node_lines (level + 1) below) (node_lines level after) short.1 in (
      (whole_node version level x told.0 short.0).written,
      all_joined IsWrittenLine (node_lines (level + 1) below) (node_lines level after) (lines_written version (level + 1) below told.1.0 parts.0) (lines_written version level after told.1.1 parts.1),
    )

-- what a text that is written has for lines
record AreAll (text : List ℕ) (lines : List NodeLine) (due : List ℕ) : Type 0 where
  pub short : AllHold IsShortLine lines
  pub is : due ≡ text ++ all_ended lines

abbrev IsOkay : Result (List ℕ) Word → Type 0
IsOkay (Ok text) = ⊤
IsOkay (Err name) = ⊥

abbrev text_or : List ℕ → Result (List ℕ) Word → List ℕ
text_or other (Ok text) = text
text_or other (Err name) = other

all_written : (text : List ℕ) (lines : List NodeLine) (due : List ℕ) → with_lines text lines ≡ Ok due → AreAll text lines due
all_written text [] due e = record { short = tt; is = sym (ap (text_or []) e) ∙ sym (append-nil text) }
all_written text (line ∷ lines) due e = by_long (nat_lt longest (length line.text)) refl e (all_written (text ++ ended line.text) lines due) where
  by_long : (b : Bool) → nat_lt longest (length line.text) ≡ b → (if b then Err line.name else with_lines (text ++ ended line.text) lines) ≡ Ok due
      → (with_lines (text ++ ended line.text) lines ≡ Ok due → AreAll (text ++ ended line.text) lines due) → AreAll text (line ∷ lines) due
  by_long true l e more = absurd (subst IsOkay (sym e) tt)
  by_long false l e more =
      let rest = more e in
      record {
        short = (ltb-false longest (length line.text) l, rest.short);
        is = rest.is ∙ append_assoc text (ended line.text) (all_ended lines);
      }

-- ---- the two header lines

version_back : (version : ℕ) → IsVersion version → header version_in (good 1 (words_text (version_words version))) ≡ Ok version
unfolding text_of past first_word after_word number digits
version_back version (inl one) = subst (λ (v : ℕ). header version_in (good 1 (words_text (version_words v))) ≡ Ok v) (sym one) refl
version_back version (inr two) = subst (λ (v : ℕ). header version_in (good 1 (words_text (version_words v))) ≡ Ok v) (sym two) refl

version_whole : (version : ℕ) → IsVersion version → IsWhole (words_text (version_words version))
unfolding number digits
version_whole version (inl one) = subst (λ (v : ℕ). IsWhole (words_text (version_words v))) (sym one) (record { written = refl; ends = refl; short = omega arith })
version_whole version (inr two) = subst (λ (v : ℕ). IsWhole (words_text (version_words v))) (sym two) (record { written = refl; ends = refl; short = omega arith })

module _ (width height : ℤ) (w : IsPx width) (h : IsPx height) where
  abbrev sizes : List Word
  sizes = px_number width ∷ px_number height ∷ []

  high : are_tokens (px_number height ∷ []) ≡ true
  high = and_from (is_token (px_number height)) true (px_token height h) refl

  both : are_tokens sizes ≡ true
  both = and_from (is_token (px_number width)) (are_tokens (px_number height ∷ [])) (px_token width w) high

  viewport_whole : IsWhole (words_text (viewport_words width height))
  viewport_whole =
      whole_words 0 (codes "viewport") sizes both
      (omega (arith, after_length 32 (viewport_words width height), number_length 64 width (small_px (unsigned_abs width) w.0), number_length 64 height (small_px (unsigned_abs height) h.0)))

  module _ (at : ℕ) where
    abbrev a : Text
    a = text_of (good at (words_text (viewport_words width height)))

    abbrev b : Text
    b = after_word a

    abbrev c : Text
    c = after_word b

    abbrev d : Text
    d = after_word c

    abbrev last_b : ℕ
    last_b = last_or 32 (codes "viewport")

    abbrev last_c : ℕ
    last_c = last_or last_b (px_number width)

    ea : Holds a 32 (viewport_words width height)
    ea = line_text at (words_text (viewport_words width height)) viewport_whole

    eb : Holds b last_b sizes
    eb = word_after a 32 (codes "viewport") sizes ea both

    ec : Holds c last_c (px_number height ∷ [])
    ec = word_after b last_b (px_number width) (px_number height ∷ []) eb both

    ed : Holds d (last_or last_c (px_number height)) []
    ed = word_after c last_c (px_number height) [] ec high

    viewport_back : header viewport_in (good at (words_text (viewport_words width height))) ≡ Ok (width, height)
    viewport_back =
        ap (λ (o : Option (ℤ × ℤ)). elim o [ Some read ↦ Ok read | None ↦ Err (fault_at 3 (word_place a)) ])
        (ap (λ (v : Word). if bytes_eq v (codes "viewport") then sizes_in b else None) (word_first a 32 (codes "viewport") sizes ea both)
        ∙ ap (λ (v : Word). bind (size_of_word v) (λ x. bind (size_of_word (first_word c)) (λ y. if is_empty (first_word d) then Some (x, y) else None))) (word_first b last_b (px_number width) (px_number height ∷ []) eb both)
        ∙ ap (λ (o : Option ℤ). bind o (λ x. bind (size_of_word (first_word c)) (λ y. if is_empty (first_word d) then Some (x, y) else None))) (px_back width w)
        ∙ ap (λ (v : Word). bind (size_of_word v) (λ y. if is_empty (first_word d) then Some (width, y) else None)) (word_first c last_c (px_number height) [] ec high)
        ∙ ap (λ (o : Option ℤ). bind o (λ y. if is_empty (first_word d) then Some (width, y) else None)) (px_back height h)
        ∙ ap (λ (v : Word). if is_empty v then Some (width, height) else None) (no_word d ed))

-- ---- the document

few_roots : (version : ℕ) → are_too_many version 1 ≡ false
few_roots version = by_version (version == 2) where
  by_version : (b : Bool) → (b && nat_lt 65536 1) ≡ false
  by_version true = refl
  by_version false = refl

all_fits : (doc : Doc) → IsValid doc → Fits doc.version 0 (tree_of doc) leafless
all_fits doc v = record {
  opens = omega arith;
  names = (λ name. omega (arith, times_one name (tree_of doc) v.shaped.distinct));
  nodes = omega (arith, v.shaped.nodes);
  levels = omega (arith, v.shaped.levels);
  containers = v.shaped.containers;
  children = v.shaped.children;
  upper = (λ _. refl);
  few = few_roots doc.version;
  root = (λ _. omega arith);
}

counted : (at : ℕ) (bytes : List ℕ) (lines : List Line) → IsWhole bytes → from_counted (scanned at bytes ∷ lines) ≡ good at bytes ∷ lines
counted at bytes lines w =
    ap (λ (line : Line). if is_skipped line then from_counted lines else line ∷ lines) (scanned_good at bytes w)
    ∙ ap (λ (b : Bool). if b then from_counted lines else good at bytes ∷ lines) (not_skipped at bytes w)

module _ (doc : Doc) (text : List ℕ) (end : Place) (v : IsValid doc) (e : canonical doc ≡ Ok text) where
  abbrev version_line : List ℕ
  version_line = words_text (version_words doc.version)

  abbrev viewport_line : List ℕ
  viewport_line = words_text (viewport_words doc.width doc.height)

  abbrev lines : List NodeLine
  lines = node_lines 0 (tree_of doc)

  wide : IsPx doc.width
  wide = size_told doc.width v.width

  tall : IsPx doc.height
  tall = size_told doc.height v.height

  whole_version : IsWhole version_line
  whole_version = version_whole doc.version v.version

  whole_viewport : IsWhole viewport_line
  whole_viewport = viewport_whole doc.width doc.height wide tall

  all : AreAll (header_text doc.version doc.width doc.height) lines text
  all = all_written (header_text doc.version doc.width doc.height) lines text e

  split : lines_of text ≡ scanned 1 version_line ∷ scanned 2 viewport_line ∷ lines_before 3 lines []
  split =
      ap lines_of (all.is ∙ append_assoc (ended version_line) (ended viewport_line) (all_ended lines))
      ∙ ap (numbered 1) (split_line version_line (ended viewport_line ++ all_ended lines) whole_version.written ∙ ap (λ (ls : List (List ℕ)). version_line ∷ ls) (split_line viewport_line (all_ended lines) whole_viewport.written))
      ∙ ap (λ (ls : List Line). scanned 1 version_line ∷ scanned 2 viewport_line ∷ ls) (numbered_back 3 lines (lines_written doc.version 0 (tree_of doc) v.labels all.short))

  -- the lines of a canonical text read as the document that was written
  pub document_back : document_of (lines_of text) end ≡ Ok doc
  document_back =
      ap (λ (lines : List Line). headed end (from_counted lines)) split
      ∙ ap (headed end) (counted 1 version_line (scanned 2 viewport_line ∷ lines_before 3 lines []) whole_version)
      ∙ ap (λ (r : Result ℕ Fault). r >>= (λ version. sized version end (from_counted (scanned 2 viewport_line ∷ lines_before 3 lines [])))) (version_back doc.version v.version)
      ∙ ap (sized doc.version end) (counted 2 viewport_line (lines_before 3 lines []) whole_viewport)
      ∙ ap (λ (r : Result (ℤ × ℤ) Fault). r >>= (λ size. nodes_of doc.version (lines_before 3 lines []) leafless >>= rooted doc.version size end)) (viewport_back doc.width doc.height wide tall 2)
      ∙ ap (λ (r : Result (Trees Label) Fault). r >>= rooted doc.version (doc.width, doc.height) end) (nodes_back doc.version 0 (tree_of doc) 3 leafless [] (all_fits doc v) v.labels all.short)

abbrev doc_or : Doc → Result Doc Fault → Doc
doc_or other (Ok doc) = doc
doc_or other (Err fault) = other

-- the document that is read back is written as the same text
pub written_again : (doc again : Doc) (text : List ℕ) (end : Place) → IsValid doc → canonical doc ≡ Ok text → document_of (lines_of text) end ≡ Ok again → canonical again ≡ Ok text
written_again doc again text end v e r = subst (λ (d : Doc). canonical d ≡ Ok text) (ap (doc_or doc) (sym (document_back doc text end v e) ∙ r)) e
