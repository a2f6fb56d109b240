-- Two areas that are joined to one, and what blocks and bands tell together.
use Rattle.std.proofs.Common.{arith, rules, refl, sym, ap, ◌∙◌, ◌≡◌, ℤ, pos, ◌≤ℤ◌, Bool, true, false, ◌&&◌, ◌||◌}
use Rattle.std.specs.Cmp.{signed_Decides}
use Rattle.std.specs.Ordering.{int_eq}
use Rattle.std.proofs.lemmas.Int.{ints}
use Rattle.std.proofs.lemmas.Bool.{and_from}
use Rattle.std.proofs.Math.Bool.{true≢false}
use Rattle.lunit.specs.Areas.{areas_overlap, HaveCell}
use Rattle.lunit.specs.declared.geometry.Area.{Area}
use Rattle.lunit.specs.declared.geometry.Span.{Span}
use Rattle.lunit.proofs.Cells.{overlap_has, has_overlap}
use Rattle.cell_index.specs.declared.bands.RowBands.{RowBands}
use Rattle.cell_index.specs.declared.blocks.Blocks.{Blocks}
use Rattle.cell_index.specs.Held.{held_in, HasTaken}
use Rattle.cell_index.specs.Taken.{held, holds, within, HasHeld}
use Rattle.cell_index.proofs.Filled.{empty_span, in_turn}
use Rattle.cell_index.proofs.Spans.{to_within}
use Rattle.cell_index.proofs.Told.{have_cell}

-- ---- two areas

pub same_line : (a b : ℤ) → int_eq a b ≡ true → a ≡ b
same_line a b h = search (rules, signed_Decides)

pub span_same : (a b : Span) → a.start ≡ b.start → a.end ≡ b.end → a ≡ b
span_same a b s e = ap (λ (z : ℤ). record a { start = z }) s ∙ ap (λ (z : ℤ). record b { end = z }) e

and_apart : (r a b c : Bool) → (a || b) ≡ c → (r && c) ≡ ((r && a) || (r && b))
and_apart true a b c e = sym e
and_apart false a b c e = refl

apart_and : (r a b c : Bool) → (a || b) ≡ c → (c && r) ≡ ((a && r) || (b && r))
apart_and true a b c e = ap (λ t. t && true) (sym e) ∙ each a b
  where
    each : (u v : Bool) → ((u || v) && true) ≡ ((u && true) || (v && true))
    each true v = refl
    each false v = refl
apart_and false a b c e = no c ∙ sym (ap (λ t. t || (b && false)) (no a) ∙ no b)
  where
    no : (u : Bool) → (u && false) ≡ false
    no true = refl
    no false = refl

pub joined_span : (first second : Span) (from to track : ℤ) → from ≡ first.start → to ≡ second.end → first.end ≡ second.start → first.start ≤ℤ first.end → second.start ≤ℤ second.end → within (record { start = from; end = to }) track ≡ (within first track || within second track)
joined_span first second from to track starts ends same low high =
    ap (λ (z : ℤ). within (record { start = z; end = to }) track) starts
    ∙ ap (λ (z : ℤ). within (record { start = first.start; end = z }) track) ends
    ∙ sym (in_turn first.start first.end second.end track low (omega (arith, ints, same, high)))
    ∙ ap (λ (z : ℤ). within first track || within (record { start = z; end = second.end }) track) same

pub pair_beside : (first second : Area) (columns : Span) → first.rows ≡ second.rows → ((track : ℤ) → within columns track ≡ (within first.columns track || within second.columns track)) → (row column : ℤ) →
    holds (record { columns = columns; rows = first.rows }) row column ≡ (holds first row column || holds second row column)
pair_beside first second columns rows both row column =
    and_apart (within first.rows row) (within first.columns column) (within second.columns column) (within columns column) (sym (both column))
    ∙ ap (λ (span : Span). (within first.rows row && within first.columns column) || (within span row && within second.columns column)) rows

pub pair_below : (first second : Area) (rows : Span) → first.columns ≡ second.columns → ((track : ℤ) → within rows track ≡ (within first.rows track || within second.rows track)) → (row column : ℤ) →
    holds (record { columns = first.columns; rows = rows }) row column ≡ (holds first row column || holds second row column)
pair_below first second rows columns both row column =
    apart_and (within first.columns column) (within first.rows row) (within second.rows row) (within rows row) (sym (both row))
    ∙ ap (λ (span : Span). (within first.rows row && within first.columns column) || (within second.rows row && within span column)) columns

-- ---- what is taken

none_holds : (row column : ℤ) → holds (record { columns = record { start = pos 0; end = pos 0 }; rows = record { start = pos 0; end = pos 0 } }) row column ≡ false
none_holds row column = ap (λ t. t && within (record { start = pos 0; end = pos 0 }) column) (empty_span (pos 0) (pos 0) row (omega (arith, ints)))

pub nothing_held : (blocks : Blocks) (row column : ℤ) → held blocks.bands row column ≡ false → blocks.block ≡ record { columns = record { start = pos 0; end = pos 0 }; rows = record { start = pos 0; end = pos 0 } } →
    blocks.run ≡ record { columns = record { start = pos 0; end = pos 0 }; rows = record { start = pos 0; end = pos 0 } } → held_in blocks row column ≡ false
nothing_held blocks row column bands block run =
    ap (λ t. (t || holds blocks.block row column) || holds blocks.run row column) bands
    ∙ ap (λ t. t || holds blocks.run row column) (ap (λ area. holds area row column) block ∙ none_holds row column)
    ∙ ap (λ area. holds area row column) run ∙ none_holds row column

pub last_yes : (u v : Bool) → v ≡ true → (u || v) ≡ true
last_yes true v e = refl
last_yes false v e = e

pub first_yes : (u v : Bool) → u ≡ true → (u || v) ≡ true
first_yes u v e = ap (λ t. t || v) e

cell_in : (a b : Area) (h : HaveCell a b) → holds b h.row h.column ≡ true
cell_in a b h = and_from (within b.rows h.row) (within b.columns h.column) (to_within b.rows h.row h.second_row.0 h.second_row.1) (to_within b.columns h.column h.second_column.0 h.second_column.1)

pub run_has : (blocks : Blocks) (area : Area) → areas_overlap area blocks.run ≡ true → HasTaken blocks area
run_has blocks area e =
    let cell : HaveCell area blocks.run = overlap_has area blocks.run e in
    record {
      row = cell.row;
      column = cell.column;
      first_row = cell.first_row.0;
      last_row = cell.first_row.1;
      first_column = cell.first_column.0;
      last_column = cell.first_column.1;
      is = last_yes (held blocks.bands cell.row cell.column || holds blocks.block cell.row cell.column) (holds blocks.run cell.row cell.column) (cell_in area blocks.run cell);
    }

pub block_has : (blocks : Blocks) (area : Area) → areas_overlap area blocks.block ≡ true → HasTaken blocks area
block_has blocks area e =
    let cell : HaveCell area blocks.block = overlap_has area blocks.block e in
    record {
      row = cell.row;
      column = cell.column;
      first_row = cell.first_row.0;
      last_row = cell.first_row.1;
      first_column = cell.first_column.0;
      last_column = cell.first_column.1;
      is = first_yes (held blocks.bands cell.row cell.column || holds blocks.block cell.row cell.column) (holds blocks.run cell.row cell.column) (last_yes (held blocks.bands cell.row cell.column) (holds blocks.block cell.row cell.column) (cell_in area blocks.block cell));
    }

pub bands_have : (blocks : Blocks) (area : Area) → HasHeld blocks.bands area → HasTaken blocks area
bands_have blocks area h =
    record {
      row = h.row;
      column = h.column;
      first_row = h.first_row;
      last_row = h.last_row;
      first_column = h.first_column;
      last_column = h.last_column;
      is = first_yes (held blocks.bands h.row h.column || holds blocks.block h.row h.column) (holds blocks.run h.row h.column) (first_yes (held blocks.bands h.row h.column) (holds blocks.block h.row h.column) h.is);
    }

apart : (a b : Area) (row column : ℤ) → areas_overlap a b ≡ false → holds a row column ≡ true → holds b row column ≡ false
apart a b row column e h = by (holds b row column) refl
  where
    by : (u : Bool) → holds b row column ≡ u → u ≡ false
    by true f = absurd (true≢false (sym (has_overlap a b (have_cell a b row column h f)) ∙ e))
    by false f = refl

pub none_in : (blocks : Blocks) (area : Area) → areas_overlap area blocks.run ≡ false → areas_overlap area blocks.block ≡ false → ((row column : ℤ) → holds area row column ≡ true → held blocks.bands row column ≡ false) → (row column : ℤ) → holds area row column ≡ true →
    held_in blocks row column ≡ false
none_in blocks area run block bands row column h =
    ap (λ t. (t || holds blocks.block row column) || holds blocks.run row column) (bands row column h)
    ∙ ap (λ t. t || holds blocks.run row column) (apart area blocks.block row column block h)
    ∙ apart area blocks.run row column run h

pub none_at_all : (blocks : Blocks) (area : Area) → areas_overlap area blocks.run ≡ false → areas_overlap area blocks.block ≡ false → ((row column : ℤ) → held blocks.bands row column ≡ false) → (row column : ℤ) → holds area row column ≡ true → held_in blocks row column ≡ false
none_at_all blocks area run block bands = none_in blocks area run block (λ row column h. bands row column)

pub ruleset tells = (run_has, block_has, bands_have, none_in, none_at_all)

-- ---- what is taken besides

or_turns : (a b c : Bool) → (a || (b || c)) ≡ ((a || b) || c)
or_turns true b c = refl
or_turns false b c = refl

pub joined_moves : (old : Blocks) (bands : RowBands) (block : Area) → bands ≡ old.bands → ((row column : ℤ) → holds block row column ≡ (holds old.block row column || holds old.run row column)) → (row column : ℤ) → (held bands row column || holds block row column) ≡ held_in old row column
joined_moves old bands block e h row column = ap (λ (b : RowBands). held b row column || holds block row column) e ∙ ap (λ t. held old.bands row column || t) (h row column) ∙ or_turns (held old.bands row column) (holds old.block row column) (holds old.run row column)

pub banded_moves : (old : Blocks) (bands : RowBands) (block : Area) → ((row column : ℤ) → held bands row column ≡ (held old.bands row column || holds old.block row column)) → block ≡ old.run → (row column : ℤ) → (held bands row column || holds block row column) ≡ held_in old row column
banded_moves old bands block h e row column = ap (λ (a : Area). held bands row column || holds a row column) e ∙ ap (λ t. t || holds old.run row column) (h row column)

pub ruleset moves = (joined_moves, banded_moves)

pub joined_adds : (old now : Blocks) (area : Area) → now.bands ≡ old.bands → now.block ≡ old.block → ((row column : ℤ) → holds now.run row column ≡ (holds old.run row column || holds area row column)) → (row column : ℤ) → held_in now row column ≡ (held_in old row column || holds area row column)
joined_adds old now area bands block h row column =
    ap (λ (b : RowBands). (held b row column || holds now.block row column) || holds now.run row column) bands
    ∙ ap (λ (a : Area). (held old.bands row column || holds a row column) || holds now.run row column) block
    ∙ ap (λ t. (held old.bands row column || holds old.block row column) || t) (h row column)
    ∙ or_turns (held old.bands row column || holds old.block row column) (holds old.run row column) (holds area row column)

pub moved_adds : (old now : Blocks) (area : Area) → ((row column : ℤ) → (held now.bands row column || holds now.block row column) ≡ held_in old row column) → now.run ≡ area → (row column : ℤ) → held_in now row column ≡ (held_in old row column || holds area row column)
moved_adds old now area h e row column = ap (λ (a : Area). (held now.bands row column || holds now.block row column) || holds a row column) e ∙ ap (λ t. t || holds area row column) (h row column)

pub ruleset adds = (joined_adds, moved_adds)
