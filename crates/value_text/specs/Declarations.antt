-- A declaration: `property: value` (own rule).
use Rattle.std.specs.Prelude.{ℕ, ◌+◌, min, Bool, List, [], ◌∷◌, map, length, if◌then◌else◌, Option, Some, None, Result, Err, codes}
use Rattle.std.specs.Str.{bytes_eq}
use Rattle.text_scan.specs.declared.line.Fault.{Fault}
use Rattle.text_scan.specs.declared.line.Place.{Place}
use Rattle.text_scan.specs.declared.token.Token.{Token}
use Rattle.text_scan.specs.Tokens.{tokens_from}
use Rattle.track_text.specs.Words.{Word, word_at}
use Rattle.track_text.specs.Values.{is_relative}
use Rattle.track_text.specs.Gives.{fault_at, or_bad}
use Rattle.value_text.specs.declared.form.Refused.{Refused}
use Rattle.value_text.specs.declared.form.Refused.TheVariants as refused
use Rattle.value_text.specs.declared.property.Property.{Property}
use Rattle.value_text.specs.declared.property.Property.TheVariants as property
use Rattle.value_text.specs.Properties.{property_of}
use Rattle.value_text.specs.Forms.{refused_by_prop, refused_by_shorthand}
use Rattle.value_text.specs.Refusals.{is_refused}
use Rattle.value_text.specs.ValueText.{Settings, settings_of}

-- the place of so many bytes after a place; a column ends at 2^32 - 1
abbrev pub place_after : Place → ℕ → Place
place_after at bytes = record { line = at.line; column = min 4294967295 (at.column + bytes) }

abbrev pub refused_by : Property → Refused
refused_by (property.Longhand p) = refused_by_prop p
refused_by (property.Shorthand s) = refused_by_shorthand s
refused_by property.Unsupported = refused.Nothing

-- the words of a value that begins here: 11 where it holds a word that is unsupported in it, and else 9 where it has
-- none of the forms of the property
abbrev pub value_reading : Place → Bool → Property → List Word → Result Settings Fault
value_reading at relative p words =
    if is_refused relative (refused_by p) words then Err (fault_at 11 at)
    else or_bad at (settings_of relative p words)

-- the value at these tokens of the text; 9 at the end of the text where there is none
abbrev pub value_at : Place → Bool → List ℕ → Property → List Token → Result Settings Fault
value_at at relative text p [] = Err (fault_at 9 (place_after at (length text)))
value_at at relative text p (token ∷ tokens) = value_reading (place_after at token.start) relative p (map (word_at text) (token ∷ tokens))

-- after the property a `:` is due; 9 at what stands there in its place
abbrev pub after_property : Place → Bool → List ℕ → Property → List Token → Result Settings Fault
after_property at relative text p [] = Err (fault_at 9 (place_after at (length text)))
after_property at relative text p (token ∷ tokens) =
    if bytes_eq (word_at text token) (codes ":") then value_at at relative text p tokens
    else Err (fault_at 9 (place_after at token.start))

-- a property that is in no table is 8, one that is unsupported is 11
abbrev pub by_property : Place → Bool → List ℕ → Token → List Token → Option Property → Result Settings Fault
by_property at relative text token tokens None = Err (fault_at 8 (place_after at token.start))
by_property at relative text token tokens (Some property.Unsupported) = Err (fault_at 11 (place_after at token.start))
by_property at relative text token tokens (Some p) = after_property at relative text p tokens

abbrev pub tokens_reading : Place → Bool → List ℕ → List Token → Result Settings Fault
tokens_reading at relative text [] = Err (fault_at 8 (place_after at (length text)))
tokens_reading at relative text (token ∷ tokens) = by_property at relative text token tokens (property_of relative (word_at text token))

-- what a declaration sets in a version of the language, or its fault. The text has no comment and ends before the mark
-- that ends the declaration; what is missing in it is missing at its end
abbrev pub declaration : ℕ → Place → List ℕ → Result Settings Fault
declaration version at text = tokens_reading at (is_relative version) text (tokens_from 0 text)
