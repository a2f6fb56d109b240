-- What is taken, by the places where this changes.
use Rattle.std.specs.Prelude.{◌≡◌, ℕ, zero, suc, ◌%◌, ◌==◌, ℤ, pos, negsuc, ◌+ℤ◌, ◌-ℤ◌, ◌≤ℤ◌, ◌<ℤ◌, Bool, true, false, not, Some, ◌||◌, ◌&&◌, List, [], ◌∷◌, ◌++◌, take, drop, int_le, int_lt, if◌then◌else◌}
use Rattle.std.specs.BTreeMap as tree
use Rattle.std.specs.BTreeMap.{is_at}
use Rattle.std.specs.Map.{set_value}
use Rattle.std.specs.List.{list_any}
use Rattle.std.specs.Ordering.{int_cmp, is_lt, is_le}
use Rattle.lunit.specs.declared.geometry.Area.{Area}
use Rattle.lunit.specs.declared.geometry.Span.{Span}
use Rattle.cell_index.specs.declared.columns.TakenColumns.{TakenColumns}
use Rattle.cell_index.specs.declared.bands.RowBands.{RowBands}

-- the track lies in a span
abbrev pub within : Span → ℤ → Bool
within span track = int_le span.start track && int_lt track span.end

-- whether a place is taken, where this changes at each of these lines
abbrev pub changes : Bool → List ℤ → ℤ → Bool
changes now [] place = now
changes now (edge ∷ edges) place = if int_le edge place then changes (not now) edges place else now

-- the column is taken
abbrev pub taken : List ℤ → ℤ → Bool
taken edges column = changes false edges column

-- a line where it is wanted
abbrev pub one_if : Bool → ℤ → List ℤ
one_if wanted edge = if wanted then edge ∷ [] else []

-- the lines that are left when the columns of a span are taken too, of which so many stand before it and so many up to its end
abbrev pub with_span : List ℤ → ℕ → ℕ → Span → List ℤ
with_span edges first last span = take first edges ++ (one_if (first % 2 == 0) span.start ++ (one_if (last % 2 == 0) span.end ++ drop last edges))

-- what the last change at or before a place says there
abbrev pub reads : {A : Type 0} → (A → Bool) → Bool → List (ℤ × A) → ℤ → Bool
reads says before [] place = before
reads says before (e ∷ es) place = if int_le e.0 place then reads says (says e.1) es place else reads says before es place

-- the cell is taken: what the last band that begins at or before the row says of the column
abbrev pub held : RowBands → ℤ → ℤ → Bool
held bands row column = reads (λ (columns : TakenColumns). taken columns column) false bands.bands.entries row

-- the cell lies in an area
abbrev pub holds : Area → ℤ → ℤ → Bool
holds area row column = within area.rows row && within area.columns column

-- the cell lies in one of these areas
abbrev pub any_holds : List Area → ℤ → ℤ → Bool
any_holds areas row column = list_any (λ (area : Area). holds area row column) areas

-- the place lies strictly between two others
abbrev pub strictly : ℤ → ℤ → ℤ → Bool
strictly first last place = is_lt (int_cmp first place) && not (is_le (int_cmp last place))

-- no column is taken of so many from one on
abbrev pub are_free : List ℤ → ℤ → ℕ → Bool
are_free edges first zero = true
are_free edges first (suc more) = not (taken edges first) && are_free edges (first +ℤ pos 1) more

-- how many tracks a span has
abbrev pub tracks_of : ℤ → ℕ
tracks_of (pos tracks) = tracks
tracks_of (negsuc less) = 0

-- no column of a span is taken
abbrev pub is_open : List ℤ → Span → Bool
is_open edges span = are_free edges span.start (tracks_of (span.end -ℤ span.start))

-- a cell of the area is taken
pub record HasHeld (bands : RowBands) (area : Area) : Type 0 where
  pub row : ℤ
  pub column : ℤ
  pub first_row : area.rows.start ≤ℤ row
  pub last_row : row <ℤ area.rows.end
  pub first_column : area.columns.start ≤ℤ column
  pub last_column : column <ℤ area.columns.end
  pub is : held bands row column ≡ true

-- the columns of a span are taken in the band that begins at a row, besides what was
pub record IsAddedAt (row : ℤ) (columns : Span) (old now : RowBands) : Type 0 where
  pub value : TakenColumns
  pub next : TakenColumns
  pub was : tree.get int_cmp old.bands row ≡ Some value
  pub entries : now.bands.entries ≡ set_value (is_at (int_cmp row)) old.bands.entries next
  pub added : (column : ℤ) → taken next column ≡ (taken value column || within columns column)
