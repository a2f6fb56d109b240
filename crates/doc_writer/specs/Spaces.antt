-- The words of a line, and the spaces between them (own rule): one space between two words, but none after `(` and `[`,
-- and none before `(`, `)`, `]`, `,`, `:` and `;`.
use Rattle.std.specs.Prelude.{◌≡◌, refl, ℕ, Bool, ◌==◌, ◌||◌, List, [], ◌∷◌, ◌++◌, take, if◌then◌else◌, codes}
use Rattle.std.specs.List.{list_any}
use Rattle.track_text.specs.Words.{Word}

-- no space stands after this byte
abbrev pub ends_joined : ℕ → Bool
ends_joined byte = list_any (λ mark. byte == mark) (codes " ([")

-- no space stands before this byte
abbrev pub begins_joined : ℕ → Bool
begins_joined byte = list_any (λ mark. byte == mark) (codes "()],:;")

-- what stands between a text that ends with this byte and a word
abbrev pub gap : ℕ → Word → List ℕ
gap last [] = []
gap last (byte ∷ word) = if ends_joined last || begins_joined byte then [] else 32 ∷ []

-- the last byte of a text, or this one where the text has none
abbrev pub last_or : ℕ → List ℕ → ℕ
last_or byte [] = byte
last_or byte (next ∷ bytes) = last_or next bytes

-- words after a text that ends with this byte
abbrev pub words_after : ℕ → List Word → List ℕ
words_after last [] = []
words_after last (word ∷ words) = gap last word ++ (word ++ words_after (last_or last word) words)

-- the text of words at the start of a line, or behind its indentation
abbrev pub words_text : List Word → List ℕ
words_text words = words_after 32 words

-- the text with the words after it, as much as is kept of a line: one byte more than a line may have
unfoldable pub put : List ℕ → List Word → List ℕ
put text [] = text
put text (word ∷ words) = take 65537 (text ++ words_after (last_or 32 text) (word ∷ words))

-- ---- examples, which hold by computation

size_text : words_text
    (codes "minmax" ∷ codes "(" ∷ codes "1px" ∷ codes "," ∷ codes "1fr" ∷ codes ")" ∷ codes "[" ∷ codes "a" ∷ codes "b" ∷ codes "]" ∷ codes "[" ∷
    codes "]" ∷ [])
    ≡ codes "minmax(1px, 1fr) [a b] []"
size_text = refl

node_text : words_text
    (codes "a" ∷ codes "grid" ∷ codes "{" ∷ codes "width" ∷ codes ":" ∷ codes "1px" ∷ codes ";" ∷ codes "order" ∷ codes ":" ∷ codes "2" ∷
    codes "}" ∷ [])
    ≡ codes "a grid { width: 1px; order: 2 }"
node_text = refl
