-- The text of a track list without repeats: its sets and sizes, one after another with one space between (own rule).
use Rattle.std.specs.Prelude.{◌≡◌, refl, ℕ, ◌+◌, ◌≤◌, Bool, true, false, not, List, [], ◌∷◌, ◌++◌, length, Option, Some, None, codes}
use Rattle.std.specs.List.{list_all}
use Rattle.text_scan.specs.Tokens.{is_separator}
use Rattle.track_text.specs.declared.side.Side.{Side}
use Rattle.track_text.specs.declared.side.Side.TheVariants as side
use Rattle.track_text.specs.declared.side.Track.{Track}
use Rattle.track_text.specs.declared.side.ReadList.{ReadList}
use Rattle.track_text.specs.Words.{Word}
use Rattle.track_text.specs.TrackSizes.{breadth_of, length_or_percentage}
use Rattle.track_text.specs.NameSets.{is_line_name, distinct}

-- texts with one space between
abbrev pub spaced : List (List ℕ) → List ℕ
spaced [] = []
spaced (text ∷ []) = text
spaced (text ∷ next ∷ texts) = text ++ 32 ∷ spaced (next ∷ texts)

abbrev pub set_text : List Word → List ℕ
set_text names = 91 ∷ (spaced names ++ 93 ∷ [])

-- `minmax(least, most)`, or `fit-content(argument)`, where each breadth is spelled as this says
abbrev pub sides_text : (Side → Word) → Track → Option Side → List ℕ
sides_text spell track None = codes "minmax(" ++ (spell track.least ++ (codes ", " ++ (spell track.most ++ codes ")")))
sides_text spell track (Some argument) = codes "fit-content(" ++ (spell argument ++ codes ")")

abbrev pub size_text : (Side → Word) → Track → List ℕ
size_text spell track = sides_text spell track track.fit

-- the set of each line, and the sizes between
abbrev pub pieces : (Side → Word) → List Track → List (List Word) → List (List ℕ)
pieces spell sizes [] = []
pieces spell [] (names ∷ lines) = set_text names ∷ []
pieces spell (size ∷ sizes) (names ∷ lines) = set_text names ∷ size_text spell size ∷ pieces spell sizes lines

abbrev pub plain_text : (Side → Word) → ReadList → List ℕ
plain_text spell list = spaced (pieces spell list.sizes list.names)

-- ---- which lists have such a text

-- a word of a text: bytes that are neither spaces nor marks
abbrev pub is_word : Word → Bool
is_word [] = false
is_word (byte ∷ bytes) = list_all (λ b. not (is_separator b)) (byte ∷ bytes)

-- the word stands for the breadth
pub record Spells (relative : Bool) (spell : Side → Word) (b : Side) : Type 0 where
  pub word : is_word (spell b) ≡ true
  pub stands : breadth_of relative (spell b) ≡ Some b

-- the word stands for the argument of `fit-content`
pub record SpellsFit (relative : Bool) (spell : Side → Word) (b : Side) : Type 0 where
  pub word : is_word (spell b) ≡ true
  pub stands : length_or_percentage relative true (spell b) ≡ Some b

abbrev pub IsNoFactor : Side → Type 0
IsNoFactor (side.Flex factor) = ⊥
IsNoFactor b = Unit {0}

-- the sides of the size can be written
abbrev pub HasText : Bool → (Side → Word) → Track → Option Side → Type 0
HasText relative spell track None = IsNoFactor track.least × Spells relative spell track.least × Spells relative spell track.most
HasText relative spell track (Some argument) = (track.least ≡ side.Auto) × (track.most ≡ side.MaxContent) × SpellsFit relative spell argument

abbrev pub AllHaveText : Bool → (Side → Word) → List Track → Type 0
AllHaveText relative spell [] = Unit {0}
AllHaveText relative spell (size ∷ sizes) = HasText relative spell size size.fit × AllHaveText relative spell sizes

-- each name is a name of a line, and stands once in its set
abbrev pub AreSets : List (List Word) → Type 0
AreSets [] = Unit {0}
AreSets (names ∷ lines) = (list_all is_line_name names ≡ true) × (distinct names ≡ names) × AreSets lines

-- a list without repeats that a value can be: from 1 to 10,000 sizes, and a set for each line
pub record IsPlain (relative : Bool) (spell : Side → Word) (list : ReadList) : Type 0 where
  pub sizes : AllHaveText relative spell list.sizes
  pub some : 1 ≤ length list.sizes
  pub few : length list.sizes ≤ 10000
  pub names : AreSets list.names
  pub lines : length list.names ≡ length list.sizes + 1
  pub no_repeat : list.repeat ≡ None

-- ---- examples, which hold by computation

example : plain_text (λ b. codes "1px")
    (record
    { sizes = record { least = side.Auto; most = side.Auto; fit = None } ∷ []; names = (codes "a" ∷ codes "b" ∷ []) ∷ [] ∷ []; repeat = None })
    ≡ codes "[a b] minmax(1px, 1px) []"
example = refl

fitted_example : plain_text (λ b. codes "5%")
    (record {
      sizes = record { least = side.Auto; most = side.MaxContent; fit = Some (side.Percent 5000) } ∷ [];
      names = [] ∷ (codes "c" ∷ []) ∷
          [];
      repeat = None;
    })
    ≡ codes "[] fit-content(5%) [c]"
fitted_example = refl
