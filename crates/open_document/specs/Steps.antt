-- How boxes are compared with those before.
use Rattle.std.specs.Prelude.{◌≡◌, ℕ, ◌<◌, ◌≤◌, Bool, if◌then◌else◌, List, [], ◌∷◌, length, take, Option, Some, None, slice_get}
use Rattle.std.specs.Option.{option_map}
use Rattle.std.specs.Str.{bytes_eq}
use Rattle.session.specs.Printing.{Box}
use Rattle.open_document.specs.Changed.{changed_from, same_rect}

-- whether two boxes of one name have the same rectangle; none where the names differ, or a box is missing
abbrev pub compared : Option Box → Option Box → Option Bool
compared None new = None
compared (Some old) None = None
compared (Some old) (Some new) = if bytes_eq old.0 new.0 then Some (same_rect old.1 new.1) else None

abbrev pub name_of : Option Box → Option (List ℕ)
name_of box = option_map (λ (b : Box). b.0) box

-- what is noted of an index
abbrev pub noted : Bool → ℕ → List ℕ
noted same index = if same then [] else index ∷ []

-- so many of the boxes have the names of those before, one by one, and it is noted which of them changed
pub record HasStepped (before boxes : List Box) (count : ℕ) (changed : List ℕ) : Type 0 where
  pub within : count ≤ length boxes
  pub names : (k : ℕ) → k < count → name_of (slice_get boxes k) ≡ name_of (slice_get before k)
  pub noted : changed ≡ changed_from 0 before (take count boxes)
