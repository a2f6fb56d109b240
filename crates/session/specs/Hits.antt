-- The box under a point (own rule).
use Rattle.std.specs.Prelude.{◌≡◌, refl, ℕ, ℤ, pos, negsuc, if◌then◌else◌, List, [], ◌∷◌, Option, Some, None, codes}
use Rattle.hit_index.specs.Hits.{contains}
use Rattle.session.specs.Printing.{Box}

abbrev pub or_else : Option (List ℕ) → Option (List ℕ) → Option (List ℕ)
or_else None other = other
or_else (Some name) other = Some name

-- the name of the last of the boxes that contains the point; none where no box does
unfoldable pub box_under : List Box → ℤ → ℤ → Option (List ℕ)
box_under [] x y = None
box_under (box ∷ boxes) x y = or_else (box_under boxes x y) (if contains x y box.1 then Some box.0 else None)

-- ---- worked rows, in units: a page of 300 by 30 with two boxes, the second above the first

abbrev box : List ℕ → ℤ → ℤ → ℤ → ℤ → Box
box name x y width height = (name, record { x = x; y = y; width = width; height = height })

abbrev page : List Box
page =
    box (codes "main") (pos 0) (pos 0) (pos 300) (pos 30) ∷ box (codes "a") (pos 0) (pos 0) (pos 100) (pos 30) ∷
    box (codes "b") (pos 90) (negsuc 9) (pos 10) (pos 20) ∷ []

-- the last one counts
in_three : box_under page (pos 95) (pos 5) ≡ Some (codes "b")
unfolding box_under
in_three = refl

-- a box begins at its left and upper edges, also below zero, and ends before its right and lower ones
at_corner : box_under page (pos 90) (negsuc 9) ≡ Some (codes "b")
unfolding box_under
at_corner = refl

past_edge : box_under page (pos 100) (pos 5) ≡ Some (codes "main")
unfolding box_under
past_edge = refl

below_all : box_under page (pos 0) (pos 30) ≡ None
unfolding box_under
below_all = refl
