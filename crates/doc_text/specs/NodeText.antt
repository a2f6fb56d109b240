-- What stands after the name of a node: its kind with its numbers, and its declarations (own rule).
use Rattle.std.specs.Prelude.{ℕ, ℤ, ◌==◌, Bool, ◌||◌, List, [], ◌∷◌, ◌++◌, if◌then◌else◌, Option, Some, None, Result, Ok, Err, codes}
use Rattle.std.specs.Str.{bytes_eq}
use Rattle.std.specs.List.{list_any, position_or_len}
use Rattle.std.specs.FinMap as map
use Rattle.text_scan.specs.declared.line.Fault.{Fault}
use Rattle.text_scan.specs.declared.line.Place.{Place}
use Rattle.text_scan.specs.declared.token.Token.{Token}
use Rattle.text_scan.specs.Tokens.{tokens_from}
use Rattle.part_rules.specs.declared.content.Content.TheVariants as content
use Rattle.track_text.specs.Words.{word_at}
use Rattle.track_text.specs.Gives.{fault_at}
use Rattle.value_text.specs.Declarations.{place_after, declaration}
use Rattle.value_text.specs.ValueText.{Settings}
use Rattle.doc_text.specs.declared.kind.Kind.{Kind}
use Rattle.doc_text.specs.declared.kind.Kind.TheVariants as kind
use Rattle.doc_text.specs.Label.{DeclaredMap}
use Rattle.doc_text.specs.Texts.{Word, Text, text_at, end_place, past, up_to, first_word, word_place, after_word, is_word, is_ended, ◌>>=◌, end_of}
use Rattle.doc_text.specs.Tokens.{size_of_word, size_first}

-- ---- the kind

-- `leaf W H`
abbrev pub fixed_first : Text → Result (Kind × Text) Fault
fixed_first text =
    size_first text >>= λ width.
    size_first width.1 >>= λ height.
    Ok (kind.Leaf (content.Fixed width.0 height.0), height.1)

abbrev pub is_brace : ℕ → Bool
is_brace byte = byte == 123

abbrev pub width_at : Place → Option ℤ → Result ℤ Fault
width_at at None = Err (fault_at 9 at)
width_at at (Some width) = Ok width

-- the widths of the words at these tokens; 9 at the first that is none
abbrev pub widths_of : Text → List Token → Result (List ℤ) Fault
widths_of text [] = Ok []
widths_of text (token ∷ tokens) =
    width_at (place_after text.at token.start) (size_of_word (word_at text.bytes token)) >>= λ width.
    widths_of text tokens >>= λ widths.
    Ok (width ∷ widths)

abbrev pub all_widths : Text → Result (List ℤ) Fault
all_widths text = widths_of text (tokens_from 0 text.bytes)

-- the widths up to `{` or the end of the text, and the text from there on
abbrev pub widths_first : Text → Result (List ℤ × Text) Fault
widths_first text =
    let stop = position_or_len is_brace text.bytes in
    all_widths (up_to stop text) >>= λ widths.
    Ok (widths, past stop text)

-- `words LINE SPACE w1 w2 ..`
abbrev pub words_first : Text → Result (Kind × Text) Fault
words_first text =
    size_first text >>= λ line.
    size_first line.1 >>= λ space.
    widths_first space.1 >>= λ widths.
    Ok (kind.Leaf (content.Words line.0 space.0 widths.0), widths.1)

-- the content of a leaf by its first word, the place of that, and the text after it; 7, `unknown-kind`, where it is neither
-- of two words
abbrev pub content_by : Word → Place → Text → Result (Kind × Text) Fault
content_by word at rest =
    if bytes_eq word (codes "leaf") then fixed_first rest
    else if bytes_eq word (codes "words") then words_first rest
    else Err (fault_at 7 at)

-- the content of a leaf
abbrev pub content_first : Text → Result (Kind × Text) Fault
content_first text = content_by (first_word text) (word_place text) (after_word text)

-- the kind of a node
abbrev pub kind_first : Text → Result (Kind × Text) Fault
kind_first text =
    if is_word (codes "grid") text then Ok (kind.Grid, after_word text)
    else if is_word (codes "flex") text then Ok (kind.Flex, after_word text)
    else content_first text

-- ---- the declarations

abbrev pub is_semicolon : ℕ → Bool
is_semicolon byte = byte == 59

abbrev pub is_close : ℕ → Bool
is_close byte = byte == 125

-- what ends a declaration in braces
abbrev pub ends_declaration : ℕ → Bool
ends_declaration byte = is_close byte || is_semicolon byte

-- what stands in braces: the texts between `;`, and the text after `}`; or 9 at the end of the line, where `}` is missing
pub record Braces : Type 0 where
  pub texts : List Text
  pub close : Result Text Fault

abbrev pub one_text : Place → Result Text Fault → Braces
one_text at close = record { texts = text_at at [] ∷ []; close = close }

abbrev pub with_text : Place → Braces → Braces
with_text at braces = record { texts = text_at at [] ∷ braces.texts; close = braces.close }

abbrev pub onto_texts : Place → ℕ → List Text → List Text
onto_texts at byte [] = text_at at (byte ∷ []) ∷ []
onto_texts at byte (text ∷ texts) = text_at at (byte ∷ text.bytes) ∷ texts

abbrev pub onto_first : Place → ℕ → Braces → Braces
onto_first at byte braces = record { texts = onto_texts at byte braces.texts; close = braces.close }

-- from the text after `{` on
abbrev pub braces_of : Place → List ℕ → Braces
braces_of at [] = one_text at (Err (fault_at 9 (end_place (text_at at []))))
braces_of at (byte ∷ bytes) =
    if is_close byte then one_text at (Ok (text_at (place_after at 1) bytes))
    else if is_semicolon byte then with_text at (braces_of (place_after at 1) bytes)
    else onto_first at byte (braces_of (place_after at 1) bytes)

-- the properties are set one after another, and a later value counts
abbrev pub with_settings : Settings → DeclaredMap → DeclaredMap
with_settings [] style = style
with_settings (setting ∷ settings) style = with_settings settings (map.insert style setting.0 setting.1)

abbrev pub is_among : List Word → Word → Bool
is_among names name = list_any (λ held. bytes_eq held name) names

-- a declaration that begins with this word at this place, which is none of these names: 10, `duplicate-property`, where it is
-- (own rule)
abbrev pub declaration_by : ℕ → List Word → Word → Place → Text → Result Settings Fault
declaration_by version names word at text =
    if is_among names word then Err (fault_at 10 at)
    else declaration version text.at text.bytes

-- a declaration of a property whose name is none of these
abbrev pub declaration_of : ℕ → List Word → Text → Result Settings Fault
declaration_of version names text = declaration_by version names (first_word text) (word_place text) text

-- the names so far, and what is declared so far
abbrev pub SoFar : Type 0
SoFar = List Word × DeclaredMap

abbrev pub one_more : Text → SoFar → Settings → SoFar
one_more text made settings = (made.0 ++ first_word text ∷ [], with_settings settings made.1)

-- the names and what is declared with one declaration more; an empty one sets nothing
abbrev pub one_declared : ℕ → Text → SoFar → Result SoFar Fault
one_declared version text made =
    if is_ended text then Ok made
    else declaration_of version made.0 text >>= λ settings. Ok (one_more text made settings)

abbrev pub all_declared : ℕ → List Text → SoFar → Result SoFar Fault
all_declared version [] made = Ok made
all_declared version (text ∷ texts) made = one_declared version text made >>= all_declared version texts

-- the declarations in braces, then their close
abbrev pub with_braces : ℕ → Braces → SoFar → Result (DeclaredMap × Text) Fault
with_braces version braces made =
    all_declared version braces.texts made >>= λ made.
    braces.close >>= λ rest.
    Ok (made.1, rest)

abbrev pub braces_in : Text → Braces
braces_in text = braces_of text.at text.bytes

-- the braces may be left out
abbrev pub style_first : ℕ → Text → Result (DeclaredMap × Text) Fault
style_first version text =
    if is_word (codes "{") text then with_braces version (braces_in (after_word text)) ([], map.empty) else Ok (map.empty, text)

-- ---- both, up to the end of the line

abbrev pub node_text : ℕ → Text → Result (Kind × DeclaredMap) Fault
node_text version text =
    kind_first text >>= λ kind.
    style_first version kind.1 >>= λ style.
    end_of style.1 >>= λ _.
    Ok (kind.0, style.0)
