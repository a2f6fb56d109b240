use Rattle.std.proofs.Common.{arith, sym, refl, inl, ◌∙◌, ◌≡◌, true, false, ◌≤ℤ◌, ◌<ℤ◌}
use Rattle.std.proofs.lemmas.Int.{ints}
use Rattle.std.proofs.lemmas.Bool.{and_parts}
use Rattle.cell_index.specs.declared.columns.TakenColumns.{TakenColumns}
use Rattle.cell_index.specs.Taken.{is_open, taken, within}
use Rattle.cell_index.proofs.Changes.{IsChange, reads_free, shut_change}
use Rattle.cell_index.proofs.Edges.{IsShut, open_is_free, shut_has}
use Rattle.cell_index.proofs.Spans.{within_from}
use Rattle.cell_index.proofs.bands.RowBands.is_free.Goals as goal

pub returns-clause-free : goal.returns-clause-free
returns-clause-free c = λ h row column inside.
    let parts : (within c.args.area.rows row ≡ true) × (within c.args.area.columns column ≡ true) = and_parts (within c.args.area.rows row) (within c.args.area.columns column) inside in
    let rows : (c.args.area.rows.start ≤ℤ row) × (row <ℤ c.args.area.rows.end) = within_from c.args.area.rows row parts.0 in
    let columns : (c.args.area.columns.start ≤ℤ column) × (column <ℤ c.args.area.columns.end) = within_from c.args.area.columns column parts.1 in
    reads_free (λ (cs : TakenColumns). taken cs column) (λ (cs : TakenColumns). is_open cs c.args.area.columns) (λ a k. open_is_free a c.args.area.columns column k columns.0 columns.1) c.args.area.rows.start c.args.area.rows.end row rows.0 rows.1 false false
    c.args.self.now.bands.entries (c.is_open_at_start.ensures.free c.if-not-is_open_at_start.false column columns.0 columns.1) (inl refl) (sym c.is_open_between.ensures.value ∙ h)

pub returns-clause-shut : goal.returns-clause-shut
returns-clause-shut c = λ h.
    let change : IsChange (λ (cs : TakenColumns). is_open cs c.args.area.columns) c.args.area.rows.start c.args.area.rows.end c.args.self.now.bands.entries = shut_change (λ (cs : TakenColumns). is_open cs c.args.area.columns) c.args.area.rows.start c.args.area.rows.end
    c.args.self.now.bands.entries c.is_open_between.ensures.ordered (sym c.is_open_between.ensures.value ∙ h) in
    let shut : IsShut change.value c.args.area.columns.start c.args.area.columns.end = shut_has change.value c.args.area.columns c.requires.columns change.shut in
    record {
      row = change.place;
      column = shut.track;
      first_row = omega (arith, ints, change.first);
      last_row = change.last;
      first_column = shut.low;
      last_column = shut.high;
      is = change.read (λ (cs : TakenColumns). taken cs shut.track) false ∙ shut.is;
    }
