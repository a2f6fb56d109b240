-- A size that words read as is in range.
use Rattle.std.proofs.Common.{◌≡◌, refl, arith, pos, ℕ, ℤ, Bool, true, false, ◌&&◌, List, [], ◌∷◌, Option, Some, None, if◌then◌else◌}
use Rattle.std.specs.Prelude.{IfSome, codes, ⊤}
use Rattle.std.specs.Option.{option_map}
use Rattle.std.specs.Str.{bytes_eq}
use Rattle.std.proofs.lemmas.Int.{ints}
use Rattle.style_types.specs.declared.unit.Unit.{Unit}
use Rattle.style_types.specs.declared.unit.Unit.TheVariants as unit
use Rattle.style_types.specs.declared.value.Size.{Size}
use Rattle.style_types.specs.declared.value.Size.TheVariants as size
use Rattle.tree_rules.specs.Labels.{length_of, length_or_zero}
use Rattle.track_text.specs.Words.{Word, ended, is_alone}
use Rattle.track_text.specs.Values.{ends_in, factor_of, length_in, percentage_of}
use Rattle.value_text.specs.declared.flex.Flex.{Flex}
use Rattle.value_text.specs.declared.size.Measured.{Measured}
use Rattle.value_text.specs.declared.size.SizeForm.{SizeForm}
use Rattle.value_text.specs.Forms.{basis_form}
use Rattle.value_text.specs.FlexText.{flex, no_basis, basis_of, with_basis, after_shrink, shrink_or_basis, after_grow, grow_or_basis, factors_of, flex_of}
use Rattle.value_text.specs.Sizes.{plain_size, keyword_size, length_size, measured_size, or_measured, size_of, units_of, size_first, size_or, if_ended, one_size, second_after, two_sizes, Sides, left_after, bottom_after, right_after, side_sizes}
use Rattle.placing.specs.Ranges.{IsEdge, IsMargin, IsSize}
use Rattle.page_tree.specs.Ranges.{size_units}
use Rattle.page_tree.proofs.ToldOptions.{some_if, some_map, some_bind, some_weaker, some_any}
use Rattle.page_tree.proofs.ToldLengths.{IsLength, length_read}

-- a size with its unit, where its length may be below 0, and where not
pub record IsSizeIn (below_zero : Bool) (m : Measured) : Type 0 where
  pub margin : IsMargin (length_of m.size)
  pub size : below_zero ≡ false → IsSize m.size
  pub edge : below_zero ≡ false → IsEdge (length_or_zero (length_of m.size))
  pub units : below_zero ≡ false → size_units m.size (units_of m.unit) ≡ true

abbrev IsNoLength : Size → Type 0
IsNoLength (size.Length x) = ⊥
IsNoLength s = ⊤

no_edge : IsEdge (pos 0)
no_edge = record { low = omega (arith, ints); high = omega (arith, ints) }

plain_in : (below_zero : Bool) (s : Size) → IsNoLength s → IsSizeIn below_zero (plain_size s)
plain_in below_zero size.Auto h = record { margin = tt; size = λ none. tt; edge = λ none. no_edge; units = λ none. refl }
plain_in below_zero size.Absent h = record { margin = tt; size = λ none. tt; edge = λ none. no_edge; units = λ none. refl }
plain_in below_zero size.Normal h = record { margin = tt; size = λ none. tt; edge = λ none. no_edge; units = λ none. refl }
plain_in below_zero size.Content h = record { margin = tt; size = λ none. tt; edge = λ none. no_edge; units = λ none. refl }
plain_in below_zero (size.Percent t) h = record { margin = tt; size = λ none. tt; edge = λ none. no_edge; units = λ none. refl }
plain_in below_zero (size.Length x) h = absurd h

length_in_size : (below_zero : Bool) (read : ℤ × Unit) → IsLength below_zero read → IsSizeIn below_zero (length_size read)
length_in_size below_zero read h = record { margin = h.offset; size = h.edge; edge = h.edge; units = h.unit }

keyword_in : (form : SizeForm) (word : Word) → IfSome (keyword_size form word) IsNoLength
keyword_in form word =
    by_tests (form.auto && bytes_eq word (codes "auto")) (form.none && bytes_eq word (codes "none")) (form.normal && bytes_eq word (codes "normal")) (form.content && bytes_eq word (codes "content"))
  where
    by_tests : (a b c d : Bool) → IfSome (if a then Some size.Auto else if b then Some size.Absent else if c then Some size.Normal else if d then Some size.Content else None) IsNoLength
    by_tests true b c d = tt
    by_tests false true c d = tt
    by_tests false false true d = tt
    by_tests false false false true = tt
    by_tests false false false false = tt

measured_in : (relative : Bool) (form : SizeForm) (word : Word) → IfSome (measured_size relative form word) (IsSizeIn form.below_zero)
measured_in relative form word =
    some_if (IsSizeIn form.below_zero) (form.percent && ends_in (codes "%") word) (option_map (λ t. plain_size (size.Percent t)) (percentage_of word)) (option_map length_size (length_in relative form.below_zero word))
    (some_map (IsSizeIn form.below_zero) (λ t. plain_size (size.Percent t)) (percentage_of word) (some_any (λ t. IsSizeIn form.below_zero (plain_size (size.Percent t))) (percentage_of word) (λ t. plain_in form.below_zero (size.Percent t) tt)))
    (some_map (IsSizeIn form.below_zero) length_size (length_in relative form.below_zero word)
    (some_weaker (IsLength form.below_zero) (λ read. IsSizeIn form.below_zero (length_size read)) (length_in relative form.below_zero word) (length_in_size form.below_zero) (length_read relative form.below_zero word)))

or_in : (below_zero : Bool) (o : Option Size) (measured : Option Measured) → IfSome o IsNoLength → IfSome measured (IsSizeIn below_zero) → IfSome (or_measured o measured) (IsSizeIn below_zero)
or_in below_zero None measured h k = k
or_in below_zero (Some s) measured h k = plain_in below_zero s h

pub size_read : (relative : Bool) (form : SizeForm) (word : Word) → IfSome (size_of relative form word) (IsSizeIn form.below_zero)
unfolding size_of
size_read relative form word = or_in form.below_zero (keyword_size form word) (measured_size relative form word) (keyword_in form word) (measured_in relative form word)

-- ---- lists of sizes

abbrev IsFirst : SizeForm → Measured × List Word → Type 0
IsFirst form read = IsSizeIn form.below_zero read.0

first_in : (relative : Bool) (form : SizeForm) (words : List Word) → IfSome (size_first relative form words) (IsFirst form)
first_in relative form [] = tt
first_in relative form (word ∷ words) = some_map (IsFirst form) (λ measured. (measured, words)) (size_of relative form word) (size_read relative form word)

next_in : (relative : Bool) (form : SizeForm) (default : Measured) (words : List Word) → IsSizeIn form.below_zero default → IfSome (size_or relative form default words) (IsFirst form)
next_in relative form default [] h = h
next_in relative form default (word ∷ words) h = first_in relative form (word ∷ words)

pub ended_in : {A : Type 0} (P : A → Type 0) (words : List Word) (x : A) → P x → IfSome (if_ended words x) P
ended_in P words x h = some_if P (ended words) (Some x) None h tt

pub one_read : (relative : Bool) (form : SizeForm) (words : List Word) → IfSome (one_size relative form words) (IsSizeIn form.below_zero)
one_read relative form words =
    some_bind (IsSizeIn form.below_zero) (size_first relative form words) (λ read. if_ended read.1 read.0)
    (some_weaker (IsFirst form) (λ read. IfSome (if_ended read.1 read.0) (IsSizeIn form.below_zero)) (size_first relative form words) (λ read h. ended_in (IsSizeIn form.below_zero) read.1 read.0 h) (first_in relative form words))

pub record AreTwoSizes (form : SizeForm) (read : Measured × Measured) : Type 0 where
  pub first : IsSizeIn form.below_zero read.0
  pub second : IsSizeIn form.below_zero read.1

second_in : (relative : Bool) (form : SizeForm) (first : Measured) (words : List Word) → IsSizeIn form.below_zero first → IfSome (second_after relative form first words) (AreTwoSizes form)
second_in relative form first words h =
    some_bind (AreTwoSizes form) (size_or relative form first words) (λ second. if_ended second.1 (first, second.0))
    (some_weaker (IsFirst form) (λ second. IfSome (if_ended second.1 (first, second.0)) (AreTwoSizes form)) (size_or relative form first words)
    (λ second k. ended_in (AreTwoSizes form) second.1 (first, second.0) (record { first = h; second = k })) (next_in relative form first words h))

pub two_read : (relative : Bool) (form : SizeForm) (words : List Word) → IfSome (two_sizes relative form words) (AreTwoSizes form)
two_read relative form words =
    some_bind (AreTwoSizes form) (size_first relative form words) (λ first. second_after relative form first.0 first.1)
    (some_weaker (IsFirst form) (λ first. IfSome (second_after relative form first.0 first.1) (AreTwoSizes form)) (size_first relative form words)
    (λ first h. second_in relative form first.0 first.1 h) (first_in relative form words))

pub record AreSides (form : SizeForm) (read : Sides) : Type 0 where
  pub top : IsSizeIn form.below_zero read.0
  pub right : IsSizeIn form.below_zero read.1
  pub bottom : IsSizeIn form.below_zero read.2
  pub left : IsSizeIn form.below_zero read.3

left_in : (relative : Bool) (form : SizeForm) (top right bottom : Measured) (words : List Word) → IsSizeIn form.below_zero top → IsSizeIn form.below_zero right → IsSizeIn form.below_zero bottom
    → IfSome (left_after relative form top right bottom words) (AreSides form)
left_in relative form top right bottom words t r b =
    some_bind (AreSides form) (size_or relative form right words) (λ left. if_ended left.1 (top, right, bottom, left.0))
    (some_weaker (IsFirst form) (λ left. IfSome (if_ended left.1 (top, right, bottom, left.0)) (AreSides form)) (size_or relative form right words)
    (λ left l. ended_in (AreSides form) left.1 (top, right, bottom, left.0) (record { top = t; right = r; bottom = b; left = l })) (next_in relative form right words r))

bottom_in : (relative : Bool) (form : SizeForm) (top right : Measured) (words : List Word) → IsSizeIn form.below_zero top → IsSizeIn form.below_zero right → IfSome (bottom_after relative form top right words) (AreSides form)
bottom_in relative form top right words t r =
    some_bind (AreSides form) (size_or relative form top words) (λ bottom. left_after relative form top right bottom.0 bottom.1)
    (some_weaker (IsFirst form) (λ bottom. IfSome (left_after relative form top right bottom.0 bottom.1) (AreSides form)) (size_or relative form top words)
    (λ bottom b. left_in relative form top right bottom.0 bottom.1 t r b) (next_in relative form top words t))

right_in : (relative : Bool) (form : SizeForm) (top : Measured) (words : List Word) → IsSizeIn form.below_zero top → IfSome (right_after relative form top words) (AreSides form)
right_in relative form top words t =
    some_bind (AreSides form) (size_or relative form top words) (λ right. bottom_after relative form top right.0 right.1)
    (some_weaker (IsFirst form) (λ right. IfSome (bottom_after relative form top right.0 right.1) (AreSides form)) (size_or relative form top words)
    (λ right r. bottom_in relative form top right.0 right.1 t r) (next_in relative form top words t))

pub sides_read : (relative : Bool) (form : SizeForm) (words : List Word) → IfSome (side_sizes relative form words) (AreSides form)
sides_read relative form words =
    some_bind (AreSides form) (size_first relative form words) (λ top. right_after relative form top.0 top.1)
    (some_weaker (IsFirst form) (λ top. IfSome (right_after relative form top.0 top.1) (AreSides form)) (size_first relative form words)
    (λ top t. right_in relative form top.0 top.1 t) (first_in relative form words))

-- ---- the basis of `flex`

abbrev pub IsFlex : Flex → Type 0
IsFlex f = IsSizeIn false f.basis

no_basis_in : IsSizeIn false no_basis
no_basis_in = length_in_size false (pos 0, unit.Px) (record { offset = record { low = omega (arith, ints); high = omega (arith, ints) }; edge = λ none. no_edge; unit = λ none. refl })

with_basis_in : (relative : Bool) (grow shrink : ℕ) (word : Word) (words : List Word) → IfSome (with_basis relative grow shrink word words) IsFlex
with_basis_in relative grow shrink word words =
    some_bind IsFlex (basis_of relative word) (λ basis. if_ended words (flex grow shrink basis))
    (some_weaker (IsSizeIn false) (λ basis. IfSome (if_ended words (flex grow shrink basis)) IsFlex) (basis_of relative word)
    (λ basis h. ended_in IsFlex words (flex grow shrink basis) h) (size_read relative basis_form word))

after_shrink_in : (relative : Bool) (grow shrink : ℕ) (words : List Word) → IfSome (after_shrink relative grow shrink words) IsFlex
after_shrink_in relative grow shrink [] = no_basis_in
after_shrink_in relative grow shrink (word ∷ words) = with_basis_in relative grow shrink word words

after_grow_in : (relative : Bool) (grow : ℕ) (words : List Word) → IfSome (after_grow relative grow words) IsFlex
after_grow_in relative grow [] = no_basis_in
after_grow_in relative grow (word ∷ words) = by_factor (factor_of word)
  where
    by_factor : (o : Option ℕ) → IfSome (shrink_or_basis relative grow o word words) IsFlex
    by_factor (Some shrink) = after_shrink_in relative grow shrink words
    by_factor None = with_basis_in relative grow 1000 word words

factors_in : (relative : Bool) (words : List Word) → IfSome (factors_of relative words) IsFlex
factors_in relative [] = tt
factors_in relative (word ∷ words) = by_factor (factor_of word)
  where
    by_factor : (o : Option ℕ) → IfSome (grow_or_basis relative o word words) IsFlex
    by_factor (Some grow) = after_grow_in relative grow words
    by_factor None = with_basis_in relative 1000 1000 word words

pub flex_read : (relative : Bool) (words : List Word) → IfSome (flex_of relative words) IsFlex
flex_read relative words = some_if IsFlex (is_alone (codes "none") words) (Some (flex 0 0 (plain_size size.Auto))) (factors_of relative words) (plain_in false size.Auto tt) (factors_in relative words)
