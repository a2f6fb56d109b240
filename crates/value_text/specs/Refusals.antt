-- Words that make a value unsupported (own rule).
use Rattle.std.specs.Prelude.{Bool, true, false, not, is_none, ◌||◌, List, [], ◌∷◌, codes}
use Rattle.std.specs.Str.{bytes_eq}
use Rattle.track_text.specs.Words.{Word}
use Rattle.track_text.specs.Values.{percentage_of}
use Rattle.track_text.specs.Unsupported.{is_one_of, is_unsupported_before, is_unsupported}
use Rattle.value_text.specs.declared.form.Refused.{Refused}
use Rattle.value_text.specs.declared.form.Refused.TheVariants as refused

abbrev pub baselines : List Word
baselines = codes "baseline" ∷ codes "left" ∷ codes "right" ∷ []

abbrev pub contents : List Word
contents = codes "min-content" ∷ codes "max-content" ∷ codes "fit-content" ∷ []

abbrev pub reversed : List Word
reversed = codes "row-reverse" ∷ codes "column-reverse" ∷ codes "wrap-reverse" ∷ []

abbrev pub is_percentage : Word → Bool
is_percentage word = not (is_none (percentage_of word))

-- the word is one that the property refuses beside those that every property does
abbrev pub refuses : Refused → Word → Bool
refuses refused.Nothing word = false
refuses refused.Template word = false
refuses refused.Baselines word = is_one_of baselines word
refuses refused.Contents word = is_one_of contents word
refuses refused.Percentages word = is_percentage word
refuses refused.Reversed word = is_one_of reversed word

-- the word, before these, makes the value unsupported
abbrev pub refused_before : Bool → Refused → Word → List Word → Bool
refused_before relative r word words = is_unsupported_before relative word words || refuses r word

-- among the words outside square brackets is one that makes the value unsupported; the first argument says whether a
-- bracket is open. Brackets do not nest: each `[` goes up to the next `]`
abbrev pub holds_refused : Bool → Bool → Refused → List Word → Bool
holds_refused within relative r [] = false
holds_refused true relative r (word ∷ words) = holds_refused (not (bytes_eq word (codes "]"))) relative r words
holds_refused false relative r (word ∷ words) = refused_before relative r word words || holds_refused (bytes_eq word (codes "[")) relative r words

-- the value is unsupported
abbrev pub is_refused : Bool → Refused → List Word → Bool
is_refused relative refused.Template words = is_unsupported relative words
is_refused relative r words = holds_refused false relative r words
