-- What the blocks tell of the areas.
use Rattle.std.proofs.Common.{refl, sym, ap, ◌∙◌, ◌≡◌, ℤ, Bool, true, false, not, ◌&&◌, ◌||◌, List, [], ◌∷◌, ◌++◌}
use Rattle.std.proofs.lemmas.Bool.{and_parts, and_from}
use Rattle.std.proofs.lemmas.List.Folds.{list_any-append}
use Rattle.std.proofs.Math.Bool.{true≢false}
use Rattle.lunit.specs.Areas.{areas_overlap, is_free, HaveCell}
use Rattle.lunit.specs.declared.geometry.Area.{Area}
use Rattle.lunit.proofs.Cells.{overlap_has, has_overlap}
use Rattle.cell_index.specs.declared.blocks.Blocks.{Blocks}
use Rattle.cell_index.specs.Held.{held_in, HasTaken}
use Rattle.cell_index.specs.Taken.{any_holds, holds, within}
use Rattle.cell_index.proofs.Filled.{or_no}
use Rattle.cell_index.proofs.Spans.{to_within, within_from}

-- a cell of an area that is taken by another one
pub have_cell : (a b : Area) (row column : ℤ) → holds a row column ≡ true → holds b row column ≡ true → HaveCell a b
have_cell a b row column h k =
    let p : (within a.rows row ≡ true) × (within a.columns column ≡ true) = and_parts (within a.rows row) (within a.columns column) h in
    let q : (within b.rows row ≡ true) × (within b.columns column ≡ true) = and_parts (within b.rows row) (within b.columns column) k in
    record {
      column = column;
      row = row;
      first_column = within_from a.columns column p.1;
      first_row = within_from a.rows row p.0;
      second_column = within_from b.columns column q.1;
      second_row = within_from b.rows row q.0;
    }

-- where no cell of an area is taken, it is free
pub none_is_free : (a : Area) (areas : List Area) → ((row column : ℤ) → holds a row column ≡ true → any_holds areas row column ≡ false) → is_free a areas ≡ true
none_is_free a [] h = refl
none_is_free a (b ∷ bs) h =
    and_from (not (areas_overlap a b)) (is_free a bs) (apart (areas_overlap a b) refl) (none_is_free a bs (λ row column k. rest (holds b row column) (any_holds bs row column) (h row column k)))
  where
    rest : (u v : Bool) → (u || v) ≡ false → v ≡ false
    rest true v e = absurd (true≢false e)
    rest false v e = e

    first : (u v : Bool) → u ≡ true → (u || v) ≡ false → ⊥
    first u v e f = true≢false (sym (ap (λ t. t || v) e) ∙ f)

    apart : (o : Bool) → areas_overlap a b ≡ o → not o ≡ true
    apart false e = refl
    apart true e =
        let cell : HaveCell a b = overlap_has a b e in
        let in_a : holds a cell.row cell.column ≡ true = and_from (within a.rows cell.row) (within a.columns cell.column) (to_within a.rows cell.row cell.first_row.0 cell.first_row.1) (to_within a.columns cell.column cell.first_column.0 cell.first_column.1) in
        let in_b : holds b cell.row cell.column ≡ true = and_from (within b.rows cell.row) (within b.columns cell.column) (to_within b.rows cell.row cell.second_row.0 cell.second_row.1) (to_within b.columns cell.column cell.second_column.0 cell.second_column.1) in
        absurd (first (holds b cell.row cell.column) (any_holds bs cell.row cell.column) in_b (h cell.row cell.column in_a))

-- where a cell of it is taken, it is not
pub held_is_shut : (a : Area) (areas : List Area) (row column : ℤ) → holds a row column ≡ true → any_holds areas row column ≡ true → is_free a areas ≡ false
held_is_shut a [] row column h k = absurd (true≢false (sym k))
held_is_shut a (b ∷ bs) row column h k = by (holds b row column) refl k (λ g. held_is_shut a bs row column h g)
  where
    no : (u v : Bool) → u ≡ true → (not u && v) ≡ false
    no u v e = ap (λ t. not t && v) e

    tail : (u v : Bool) → v ≡ false → (u && v) ≡ false
    tail true v e = e
    tail false v e = refl

    by : (u : Bool) → holds b row column ≡ u → (u || any_holds bs row column) ≡ true → (any_holds bs row column ≡ true → is_free a bs ≡ false) → is_free a (b ∷ bs) ≡ false
    by true e g again = no (areas_overlap a b) (is_free a bs) (has_overlap a b (have_cell a b row column h e))
    by false e g again = tail (not (areas_overlap a b)) (is_free a bs) (again g)

free_when_told : (a : Area) (areas : List Area) (blocks : Blocks) → ((row column : ℤ) → held_in blocks row column ≡ any_holds areas row column) → ((row column : ℤ) → holds a row column ≡ true → held_in blocks row column ≡ false) → is_free a areas ≡ true
free_when_told a areas blocks told free = none_is_free a areas (λ row column h. sym (told row column) ∙ free row column h)

shut_when_told : (a : Area) (areas : List Area) (blocks : Blocks) → ((row column : ℤ) → held_in blocks row column ≡ any_holds areas row column) → HasTaken blocks a → is_free a areas ≡ false
shut_when_told a areas blocks told h =
    held_is_shut a areas h.row h.column (and_from (within a.rows h.row) (within a.columns h.column) (to_within a.rows h.row h.first_row h.last_row) (to_within a.columns h.column h.first_column h.last_column)) (sym (told h.row h.column) ∙ h.is)

pub told_more : (areas : List Area) (a : Area) (row column : ℤ) → any_holds (areas ++ a ∷ []) row column ≡ (any_holds areas row column || holds a row column)
told_more areas a row column = list_any-append (λ (b : Area). holds b row column) areas (a ∷ []) ∙ ap (λ t. any_holds areas row column || t) (or_no (holds a row column))

pub free_is_told : (result : Bool) (a : Area) (areas : List Area) (blocks : Blocks) → ((row column : ℤ) → held_in blocks row column ≡ any_holds areas row column) → (result ≡ true → (row column : ℤ) → holds a row column ≡ true → held_in blocks row column ≡ false) →
    (result ≡ false → HasTaken blocks a) → result ≡ is_free a areas
free_is_told true a areas blocks told free shut = sym (free_when_told a areas blocks told (free refl))
free_is_told false a areas blocks told free shut = sym (shut_when_told a areas blocks told (shut refl))
