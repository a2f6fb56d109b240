-- The columns that boxes reach.
use Rattle.std.proofs.Common.{arith, rules, refl, sym, ap, subst, ◌∙◌, ◌≡◌, ◌≢◌, ℕ, zero, suc, ◌+◌, ◌-◌, ◌*◌, ◌/◌, ◌%◌, ◌^◌, ◌<◌, ◌≤◌, ◌⊎◌, inl, inr, ℤ, ◌+ℤ◌, ◌-ℤ◌, ◌≤ℤ◌, ◌<ℤ◌, Bool, true, false, List, [], ◌∷◌, ◌++◌, length, get_or, length-append}
use Rattle.std.specs.Prelude.{min, nat_le, unsigned_abs}
use Rattle.std.specs.Int.{int_max}
use Rattle.std.proofs.lemmas.Bool.{cases_eq, le-leb}
use Rattle.std.proofs.lemmas.Int.{ints, clamps}
use Rattle.std.proofs.lemmas.Nat.{le-div, pow_pos}
use Rattle.std.proofs.Math.Nat.{div-mul-le_self}
use Rattle.std.proofs.lemmas.List.{get_or_read}
use Rattle.std.proofs.Math.ListN.{get_or-append}
use Rattle.std.proofs.Math.Seq.{get_or-append_seam}
use Rattle.lunit.specs.declared.geometry.Rect.{Rect}
use Rattle.hit_index.specs.Hits.{contains}
use Rattle.hit_index.specs.Columns.{column_of, reaches_column, AreRanges, IsRangeOf, TellColumn}
use Rattle.hit_index.specs.declared.columns.Grid.{Grid}
use Rattle.hit_index.specs.declared.columns.ColumnRange.{ColumnRange}
use Rattle.hit_index.proofs.Contained.{holds_from}

-- ---- columns follow each other

gap_rises : (left a b : ℤ) → a ≤ℤ b → unsigned_abs (int_max a left -ℤ left) ≤ unsigned_abs (int_max b left -ℤ left)
gap_rises left a b h = omega (arith, ints, clamps)

divided_rises : (a b k : ℕ) → a ≤ b → 0 < k → a / k ≤ b / k
divided_rises a b k h p = le-div (a / k) b k p (omega (arith, h, div-mul-le_self a k))

column_rises : (grid : Grid) (a b : ℤ) → a ≤ℤ b → column_of grid a ≤ column_of grid b
unfolding column_of
column_rises grid a b h =
    let rest : unsigned_abs (int_max a grid.left -ℤ grid.left) / 2 ^ grid.shift ≤ unsigned_abs (int_max b grid.left -ℤ grid.left) / 2 ^ grid.shift
    = divided_rises (unsigned_abs (int_max a grid.left -ℤ grid.left)) (unsigned_abs (int_max b grid.left -ℤ grid.left)) (2 ^ grid.shift) (gap_rises grid.left a b h) (pow_pos grid.shift) in
    omega arith

column_low : (grid : Grid) (x : ℤ) → column_of grid x < 256
unfolding column_of
column_low grid x = omega arith

-- ---- a column between the first and the last is reached

between : (range : ColumnRange) (column last : ℕ) → range.first ≤ column → column ≤ last → column < 256 → range.more ≡ last - range.first → reaches_column range column ≡ true
unfolding reaches_column
between range column last low high few e = le-leb ((column + (2 ^ 8 - range.first)) % 2 ^ 8) range.more (omega arith)

pub range_is : (grid : Grid) (box : Rect) (range : ColumnRange) (last : ℕ) (right : ℤ) → range.first ≡ column_of grid box.x → last ≡ column_of grid right → right ≡ (box.x +ℤ box.width) → range.more ≡ last - range.first → IsRangeOf grid box range
range_is grid box range last right f l r m = record { told = λ x y h. by x y h }
  where
    by : (x y : ℤ) → contains x y box ≡ true → reaches_column range (column_of grid x) ≡ true
    by x y h =
        let at = holds_from x y box h in
        let low : range.first ≤ column_of grid x = rw f (column_rises grid box.x x at.left) in
        let high : column_of grid x ≤ last = rw (l, r) (column_rises grid x (box.x +ℤ box.width) (omega (arith, ints))) in
        between range (column_of grid x) last low high (column_low grid x) m

-- ---- box by box

pub ranges_none : (grid : Grid) (boxes : List Rect) → AreRanges grid boxes 0 []
ranges_none grid boxes = record { counted = refl; each = λ k box d h. absurd (omega (arith, h)) }

pub ranges_next : (grid : Grid) (boxes : List Rect) (k : ℕ) (box : Rect) (now : List ColumnRange) (range : ColumnRange) → k < length boxes → box ≡ get_or boxes k box → AreRanges grid boxes k now → IsRangeOf grid box range → AreRanges grid boxes (k + 1) (now ++ range ∷ [])
ranges_next grid boxes k box now range l e a here = record {
  counted = length-append now (range ∷ []) ∙ ap (λ n. n + 1) a.counted;
  each = λ i b d h. each i b d h (cases_eq i k);
}
  where
    each : (i : ℕ) (b : Rect) (d : ColumnRange) → i < k + 1 → (i ≡ k) ⊎ (i ≢ k) → IsRangeOf grid (get_or boxes i b) (get_or (now ++ range ∷ []) i d)
    each i b d h (inl s) =
        let box_is : get_or boxes i b ≡ box = ap (λ n. get_or boxes n b) s ∙ sym (get_or_read boxes k box l e b) in
        let range_is : get_or (now ++ range ∷ []) i d ≡ range = ap (λ n. get_or (now ++ range ∷ []) n d) (s ∙ sym a.counted) ∙ get_or-append_seam now range [] d in
        rw (box_is, range_is) here
    each i b d h (inr n) = rw (get_or-append now (range ∷ []) d i (omega (arith, h, n, a.counted))) (a.each i b d (omega (arith, h, n)))

pub ruleset ranges = (ranges_none, ranges_next)

-- the column of a point's x is reached by each box that contains the point
pub column_tells : (grid : Grid) (boxes : List Rect) (ranges : List ColumnRange) (x y : ℤ) (column : ℕ) → AreRanges grid boxes (length boxes) ranges → column ≡ column_of grid x → TellColumn x y boxes ranges column
column_tells grid boxes ranges x y column a e = record { told = λ k box d h c. rw e ((a.each k box d h).told x y c) }
