-- The value of `flex` (CSS Flexbox 1, 7.1).
use Rattle.std.specs.Prelude.{ℕ, pos, Bool, List, [], ◌∷◌, if◌then◌else◌, Option, Some, None, codes}
use Rattle.style_types.specs.declared.unit.Unit.TheVariants as unit
use Rattle.style_types.specs.declared.value.Size.TheVariants as size
use Rattle.track_text.specs.Words.{Word, bind, is_alone}
use Rattle.track_text.specs.Values.{factor_of}
use Rattle.value_text.specs.declared.size.Measured.{Measured}
use Rattle.value_text.specs.Sizes.{size_of, plain_size, if_ended}
use Rattle.value_text.specs.declared.flex.Flex.{Flex}
use Rattle.value_text.specs.Forms.{basis_form}

abbrev pub flex : ℕ → ℕ → Measured → Flex
flex grow shrink basis = record { grow = grow; shrink = shrink; basis = basis }

-- the basis where factors stand alone: 0px
abbrev pub no_basis : Measured
no_basis = record { size = size.Length (pos 0); unit = Some unit.Px }

abbrev pub basis_of : Bool → Word → Option Measured
basis_of relative word = size_of relative basis_form word

-- a basis, after which no words are left
abbrev pub with_basis : Bool → ℕ → ℕ → Word → List Word → Option Flex
with_basis relative grow shrink word words = bind (basis_of relative word) (λ basis. if_ended words (flex grow shrink basis))

-- after two factors: nothing or a basis
abbrev pub after_shrink : Bool → ℕ → ℕ → List Word → Option Flex
after_shrink relative grow shrink [] = Some (flex grow shrink no_basis)
after_shrink relative grow shrink (word ∷ words) = with_basis relative grow shrink word words

-- a second factor and what is after it, or a basis
abbrev pub shrink_or_basis : Bool → ℕ → Option ℕ → Word → List Word → Option Flex
shrink_or_basis relative grow (Some shrink) word words = after_shrink relative grow shrink words
shrink_or_basis relative grow None word words = with_basis relative grow 1000 word words

-- after one factor: nothing, a second factor or a basis
abbrev pub after_grow : Bool → ℕ → List Word → Option Flex
after_grow relative grow [] = Some (flex grow 1000 no_basis)
after_grow relative grow (word ∷ words) = shrink_or_basis relative grow (factor_of word) word words

-- a first factor and what is after it, or a basis alone. A number without a unit is a factor in a factor's place
abbrev pub grow_or_basis : Bool → Option ℕ → Word → List Word → Option Flex
grow_or_basis relative (Some grow) word words = after_grow relative grow words
grow_or_basis relative None word words = with_basis relative 1000 1000 word words

abbrev pub factors_of : Bool → List Word → Option Flex
factors_of relative [] = None
factors_of relative (word ∷ words) = grow_or_basis relative (factor_of word) word words

-- `none` is 0 0 auto; `auto` is a basis alone
abbrev pub flex_of : Bool → List Word → Option Flex
flex_of relative words =
    if is_alone (codes "none") words then Some (flex 0 0 (plain_size size.Auto))
    else factors_of relative words
