-- A search of the words of a template for one that is unsupported, one word after another.
use Rattle.std.proofs.Common.{◌≡◌, Bool, true, false, not, ◌||◌, ◌&&◌, List, [], ◌∷◌, ◌++◌, if◌then◌else◌, refl, ap, sym, ◌∙◌, codes}
use Rattle.std.proofs.lemmas.Bool.{true≢false}
use Rattle.std.specs.List.{list_any}
use Rattle.std.specs.Str.{bytes_eq}
use Rattle.std.proofs.lemmas.Slice.Eq.{bytes_eq-Decides}
use Rattle.track_text.specs.Words.{Word, begins_with}
use Rattle.track_text.specs.Unsupported.{outside, is_one_of, is_measured, wide_keywords, functions, is_unsupported_before, some_unsupported, automatic_counts, repeats_subgrid, is_masonry, is_unsupported}

-- what is left to find, `subgrid` having stood before where the first argument is true
unfoldable pub found : Bool → Bool → List Word → Bool
found relative after_subgrid words = some_unsupported relative words || (list_any is_masonry words || (if after_subgrid then list_any (is_one_of automatic_counts) words else repeats_subgrid words))

abbrev pub here : Bool → Bool → Word → List Word → Bool
here relative after_subgrid word words = is_unsupported_before relative word words || (is_masonry word || (after_subgrid && is_one_of automatic_counts word))

pub all_left : (relative : Bool) (words : List Word) → found relative false (outside false words) ≡ is_unsupported relative words
unfolding found
all_left relative words = refl

pub none_left : (relative : Bool) (after_subgrid within : Bool) → found relative after_subgrid (outside within []) ≡ false
unfolding found
none_left relative true within = refl
none_left relative false within = refl

pub in_brackets : (relative : Bool) (after_subgrid : Bool) (word : Word) (words : List Word) → found relative after_subgrid (outside true (word ∷ words)) ≡ found relative after_subgrid (outside (not (bytes_eq word (codes "]"))) words)
in_brackets relative after_subgrid word words = refl

-- ---- the word that stands next

next_is : (due : Word) (words : List Word) → begins_with due (outside false words) ≡ begins_with due words
next_is due [] = refl
next_is due (word ∷ words) = refl

no_function : (word : Word) → bytes_eq word (codes "[") ≡ true → is_one_of functions word ≡ false
no_function word h = ap (is_one_of functions) ((bytes_eq-Decides word (codes "[")).0 h)

before_by : (w m f b c : Bool) → (f ≡ true → b ≡ c) → (w || (m || (f && b))) ≡ (w || (m || (f && c)))
before_by w m true b c h = ap (λ (x : Bool). w || (m || x)) (h refl)
before_by w m false b c h = refl

next_after : (due word : Word) (words : List Word) (b : Bool) → bytes_eq word (codes "[") ≡ b → is_one_of functions word ≡ true → begins_with due (outside b words) ≡ begins_with due words
next_after due word words false e f = next_is due words
next_after due word words true e f = elim (false_true (sym (no_function word e) ∙ f)) [ ] where
  false_true : false ≡ true → ⊥
  false_true h = true≢false (sym h)

before_outside : (relative : Bool) (word : Word) (words : List Word) → is_unsupported_before relative word (outside (bytes_eq word (codes "[")) words) ≡ is_unsupported_before relative word words
before_outside relative word words = before_by (is_one_of wide_keywords word) (is_measured relative word) (is_one_of functions word) (begins_with (codes "(") (outside (bytes_eq word (codes "[")) words)) (begins_with (codes "(") words)
    (next_after (codes "(") word words (bytes_eq word (codes "[")) refl)

-- ---- one word outside brackets

or_true_end : (a : Bool) → (a || true) ≡ true
or_true_end true = refl
or_true_end false = refl

-- in order: the word, those after it; unsupported, masonry, counts
by_parts : (a s m n p r : Bool) → ((a || s) || ((m || n) || (p || r))) ≡ ((a || (m || p)) || (s || (n || r)))
by_parts true s m n p r = refl
by_parts false s true n p r = or_true_end s
by_parts false s false n true r = (ap (λ (x : Bool). s || x) (or_true_end n)) ∙ or_true_end s
by_parts false s false n false r = refl

one_after : (relative : Bool) (word : Word) (words : List Word) → found relative true (word ∷ words) ≡ (here relative true word words || found relative true words)
unfolding found
one_after relative word words = by_parts (is_unsupported_before relative word words) (some_unsupported relative words) (is_masonry word) (list_any is_masonry words) (is_one_of automatic_counts word) (list_any (is_one_of automatic_counts) words)

one_before_by : (relative : Bool) (word : Word) (words : List Word) (b : Bool) → ((is_unsupported_before relative word words || some_unsupported relative words) || ((is_masonry word || list_any is_masonry words) || (if b then list_any (is_one_of automatic_counts) words else repeats_subgrid words)))
    ≡ (here relative false word words || found relative b words)
unfolding found
one_before_by relative word words b = by_parts (is_unsupported_before relative word words) (some_unsupported relative words) (is_masonry word) (list_any is_masonry words) false (if b then list_any (is_one_of automatic_counts) words else repeats_subgrid words)

one_before : (relative : Bool) (word : Word) (words : List Word) → found relative false (word ∷ words) ≡ (here relative false word words || found relative (bytes_eq word (codes "subgrid")) words)
unfolding found
one_before relative word words = one_before_by relative word words (bytes_eq word (codes "subgrid"))

one_word : (relative : Bool) (after_subgrid : Bool) (word : Word) (words : List Word) → found relative after_subgrid (word ∷ words) ≡ (here relative after_subgrid word words || found relative (after_subgrid || bytes_eq word (codes "subgrid")) words)
one_word relative true word words = one_after relative word words
one_word relative false word words = one_before relative word words

pub outside_brackets : (relative : Bool) (after_subgrid : Bool) (word : Word) (words : List Word)
    → found relative after_subgrid (outside false (word ∷ words)) ≡ (here relative after_subgrid word words || found relative (after_subgrid || bytes_eq word (codes "subgrid")) (outside (bytes_eq word (codes "[")) words))
outside_brackets relative after_subgrid word words =
    one_word relative after_subgrid word (outside (bytes_eq word (codes "[")) words)
    ∙ ap (λ (b : Bool). (b || (is_masonry word || (after_subgrid && is_one_of automatic_counts word))) || found relative (after_subgrid || bytes_eq word (codes "subgrid")) (outside (bytes_eq word (codes "[")) words)) (before_outside relative word words)

pub found_here : (relative : Bool) (after_subgrid : Bool) (word : Word) (words : List Word) → here relative after_subgrid word words ≡ true → found relative after_subgrid (outside false (word ∷ words)) ≡ true
found_here relative after_subgrid word words h = outside_brackets relative after_subgrid word words ∙ ap (λ (b : Bool). b || found relative (after_subgrid || bytes_eq word (codes "subgrid")) (outside (bytes_eq word (codes "[")) words)) h

pub not_here : (relative : Bool) (after_subgrid : Bool) (word : Word) (words : List Word) → here relative after_subgrid word words ≡ false
    → found relative after_subgrid (outside false (word ∷ words)) ≡ found relative (after_subgrid || bytes_eq word (codes "subgrid")) (outside (bytes_eq word (codes "[")) words)
not_here relative after_subgrid word words h = outside_brackets relative after_subgrid word words ∙ ap (λ (b : Bool). b || found relative (after_subgrid || bytes_eq word (codes "subgrid")) (outside (bytes_eq word (codes "[")) words)) h

pub or_same : (s x : Bool) → s ≡ true → s ≡ (s || x)
or_same true x h = refl
or_same false x h = elim (true≢false (sym h)) [ ]

pub or_other : (s x y : Bool) → s ≡ false → y ≡ x → y ≡ (s || x)
or_other false x y h e = e
or_other true x y h e = elim (true≢false h) [ ]

-- ---- words that are passed over

-- a word outside brackets of which nothing is to be said
pub record IsQuiet (relative : Bool) (word : Word) (words : List Word) : Type 0 where
  pub here_not : here relative false word words ≡ false
  pub not_subgrid : bytes_eq word (codes "subgrid") ≡ false
  pub not_bracket : bytes_eq word (codes "[") ≡ false

pub quiet_word : (relative : Bool) (word : Word) (words : List Word) → IsQuiet relative word words → found relative false (outside false (word ∷ words)) ≡ found relative false (outside false words)
quiet_word relative word words q =
    not_here relative false word words q.here_not
    ∙ ap (λ (b : Bool). found relative b (outside (bytes_eq word (codes "[")) words)) q.not_subgrid
    ∙ ap (λ (b : Bool). found relative false (outside b words)) q.not_bracket

-- a mark or a word that is none of those looked for
pub quiet_names : (relative : Bool) (names rest : List Word) → list_any (λ name. bytes_eq name (codes "]")) names ≡ false → found relative false (outside true (names ++ codes "]" ∷ rest)) ≡ found relative false (outside false rest)
quiet_names relative [] rest h = refl
quiet_names relative (name ∷ names) rest h = by_name (bytes_eq name (codes "]")) refl (quiet_names relative names rest) where
  by_name : (b : Bool) → bytes_eq name (codes "]") ≡ b → (list_any (λ name. bytes_eq name (codes "]")) names ≡ false → found relative false (outside true (names ++ codes "]" ∷ rest)) ≡ found relative false (outside false rest))
      → found relative false (outside true (name ∷ (names ++ codes "]" ∷ rest))) ≡ found relative false (outside false rest)
  by_name true e more = elim (true≢false (sym (ap (λ (b : Bool). b || list_any (λ name. bytes_eq name (codes "]")) names) e) ∙ h)) [ ]
  by_name false e more = ap (λ (b : Bool). found relative false (outside (not b) (names ++ codes "]" ∷ rest))) e ∙ more (sym (ap (λ (b : Bool). b || list_any (λ name. bytes_eq name (codes "]")) names) e) ∙ h)
