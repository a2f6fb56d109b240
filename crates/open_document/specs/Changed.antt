-- Which boxes of a layout the layout before it does not have, and the box of a name (own rule).
use Rattle.std.specs.Prelude.{◌≡◌, refl, ℕ, ◌+◌, ℤ, pos, Bool, false, ◌&&◌, ◌||◌, if◌then◌else◌, List, [], ◌∷◌, Option, Some, None, codes}
use Rattle.std.specs.Ordering.{int_eq}
use Rattle.std.specs.Str.{bytes_eq}
use Rattle.lunit.specs.declared.geometry.Rect.{Rect}
use Rattle.session.specs.Printing.{Box}

abbrev pub same_rect : Rect → Rect → Bool
same_rect a b =
    int_eq a.x b.x && (int_eq a.y b.y && (int_eq a.width b.width && int_eq a.height b.height))

-- the same name and the same rectangle
abbrev pub same_box : Box → Box → Bool
same_box a b = bytes_eq a.0 b.0 && same_rect a.1 b.1

-- a box is among boxes
abbrev pub has_box : List Box → Box → Bool
has_box [] box = false
has_box (other ∷ boxes) box = same_box other box || has_box boxes box

-- The indices, ascending, of the boxes that are not among those of before, where the first box has the index k.
abbrev pub changed_from : ℕ → List Box → List Box → List ℕ
changed_from k before [] = []
changed_from k before (box ∷ boxes) =
    if has_box before box then changed_from (k + 1) before boxes else k ∷ changed_from (k + 1) before boxes

-- what changed from one layout to the next; where there was none before, all boxes
unfoldable pub changed_in : List Box → List Box → List ℕ
changed_in before boxes = changed_from 0 before boxes

-- the rectangle of a name, which at most one of the boxes of a document has
abbrev pub rect_in : List Box → List ℕ → Option Rect
rect_in [] name = None
rect_in (box ∷ boxes) name = if bytes_eq box.0 name then Some box.1 else rect_in boxes name

-- ---- worked rows, in units

abbrev box : List ℕ → ℤ → ℤ → ℤ → ℤ → Box
box name x y width height = (name, record { x = x; y = y; width = width; height = height })

abbrev main : Box
main = box (codes "main") (pos 0) (pos 0) (pos 300) (pos 30)

abbrev before : List Box
before =
    main ∷ box (codes "a") (pos 0) (pos 0) (pos 100) (pos 30)
    ∷ box (codes "b") (pos 100) (pos 0) (pos 200) (pos 30) ∷ []

-- the second box is wider and the third one has moved
abbrev moved : List Box
moved =
    main ∷ box (codes "a") (pos 0) (pos 0) (pos 120) (pos 30)
    ∷ box (codes "b") (pos 120) (pos 0) (pos 180) (pos 30) ∷ []

wider : changed_in before moved ≡ 1 ∷ 2 ∷ []
unfolding changed_in
wider = refl

-- one node went, and another has the box that it had
abbrev exchanged : List Box
exchanged =
    main ∷ box (codes "new") (pos 0) (pos 0) (pos 100) (pos 30)
    ∷ box (codes "b") (pos 100) (pos 0) (pos 200) (pos 30) ∷ []

one_new : changed_in before exchanged ≡ 1 ∷ []
unfolding changed_in
one_new = refl

first_of_all : changed_in [] before ≡ 0 ∷ 1 ∷ 2 ∷ []
unfolding changed_in
first_of_all = refl
