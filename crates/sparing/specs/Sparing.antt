-- When a leaf is measured again: only where an edit reached it in between, or sixteen other widths followed (own rule).
use Rattle.std.specs.Prelude.{◌≡◌, refl, ℕ, ◌≤◌, ◌==◌, ◌&&◌, ◌||◌, Bool, true, false, List, [], ◌∷◌, ◌++◌, ◌⊎◌, length, pos, codes, if◌then◌else◌, ⊤}
use Rattle.std.specs.Str.{bytes_eq}
use Rattle.outside.specs.declared.event.Event.{Event}
use Rattle.outside.specs.declared.event.Event.TheVariants.{Begin, Measured}
use Rattle.outside.specs.declared.event.Width.{Width}
use Rattle.outside.specs.declared.event.Width.TheVariants.{Narrowest, Widest, At}

-- Which names an edit touches, by the number of its line.
abbrev pub Touches : Type 0
Touches = ℕ → List ℕ → Bool

-- one of these layouts is that of an edit that touches the name
abbrev pub is_reached : Touches → List ℕ → List Event → Bool
is_reached touches name [] = false
is_reached touches name (Begin k ∷ events) = touches k name || is_reached touches name events
is_reached touches name (Measured leaf width ∷ events) = is_reached touches name events

-- the widths at which a leaf is measured, in order
abbrev pub widths_of : List ℕ → List Event → List Width
widths_of name [] = []
widths_of name (Begin k ∷ events) = widths_of name events
widths_of name (Measured leaf width ∷ events) = if bytes_eq leaf name then width ∷ widths_of name events else widths_of name events

-- a width is one of these
abbrev pub IsOneOf : Width → List Width → Type 0
IsOneOf width [] = ⊥
IsOneOf width (other ∷ rest) = (other ≡ width) ⊎ IsOneOf width rest

-- none of these is the width
abbrev pub IsNoneOf : Width → List Width → Type 0
IsNoneOf width [] = ⊤
IsNoneOf width (other ∷ rest) = ¬ (other ≡ width) × IsNoneOf width rest

-- all of these widths differ
abbrev pub AllDiffer : List Width → Type 0
AllDiffer [] = ⊤
AllDiffer (width ∷ rest) = IsNoneOf width rest × AllDiffer rest

-- each of these is one of those
abbrev pub AreAmong : List Width → List Width → Type 0
AreAmong [] all = ⊤
AreAmong (width ∷ rest) all = IsOneOf width all × AreAmong rest all

-- a leaf is measured at sixteen other widths, or more
pub record HasOthers (name : List ℕ) (width : Width) (events : List Event) : Type 0 where
  pub widths : List Width
  pub many : 16 ≤ length widths
  pub differ : AllDiffer widths
  pub others : IsNoneOf width widths
  pub measured : AreAmong widths (widths_of name events)

-- After these events this one is no needless measuring: wherever the leaf was measured at that width before, an edit that touches
-- it was laid out since, or it was measured at sixteen other widths since.
abbrev pub IsSpared : Touches → List Event → Event → Type 0
IsSpared touches done (Begin k) = ⊤
IsSpared touches done (Measured name width) =
    (before between : List Event) → done ≡ before ++ Measured name width ∷ between → (is_reached touches name between ≡ true) ⊎ HasOthers name width between

-- each of the events that follow these is no needless measuring
abbrev pub AreSpared : Touches → List Event → List Event → Type 0
AreSpared touches done [] = ⊤
AreSpared touches done (event ∷ rest) = IsSpared touches done event × AreSpared touches (done ++ event ∷ []) rest

-- No leaf is measured again at a width unless an edit reached it or sixteen other widths followed.
abbrev pub Sparing : Touches → List Event → Type 0
Sparing touches events = AreSpared touches [] events

-- ---- worked rows

abbrev text : List ℕ
text = codes "p07"

-- the third edit touches the text
abbrev third : Touches
third k name = (k == 3) && bytes_eq name text

reached : is_reached third text (Begin 2 ∷ Measured text Narrowest ∷ Begin 3 ∷ []) ≡ true
reached = refl

not_reached : is_reached third text (Begin 2 ∷ Measured text Narrowest ∷ []) ≡ false
not_reached = refl

other_leaf : is_reached third (codes "p08") (Begin 3 ∷ []) ≡ false
other_leaf = refl

its_widths : widths_of text (Begin 0 ∷ Measured text Narrowest ∷ Measured (codes "p08") Widest ∷ Measured text (At (pos 64)) ∷ []) ≡
    Narrowest ∷ At (pos 64) ∷ []
its_widths = refl
