use Rattle.std.proofs.Common.{arith, ap, ◌∙◌, ◌≡◌, sym, length, take, drop, ◌++◌}
use Rattle.lunit.specs.declared.geometry.Span.{Span}
use Rattle.part_rules.specs.Placement.{columns_for, first_row}
use Rattle.grid_placement.specs.Entries.{all_seen}
use Rattle.grid_placement.specs.Wishes.{explicit_rows}
use Rattle.grid_placement.proofs.Whole.{begun_near, begun_fit, begun_room, flow_items, rest_room, rest_count, rest_fit, field_set, placed_is, written}
use Rattle.grid_placement.proofs.place_in_steps.Goals as goal

is_placed : goal.returns
is_placed g c =
    let before : all_seen c.deref_mut.result.now ≡ flow_items c.args.shape.column_flow c.args.items.now = ap all_seen c.deref_mut.ensures.value ∙ c.in_ok-entries.ensures.entries in
    let lent : take c.in_ok-entries.entries.len (c.place_rows.new.entries ++ drop (length c.place_rows.new.entries) c.in_ok-entries.entries.items) ≡ c.place_rows.new.entries =
    let l = c.in_ok-entries.entries.ok.0 in
    let n = c.place_rows.auto.entries in
    let m = ap length c.deref_mut.ensures.value in
    written _ _ _ (omega arith) (omega arith) in
    let same = c.deref.ensures.value ∙ sym c.deref-2.ensures.value in
    c.in_ok-areas.ensures
    ∙ placed_is c.args.items.now c.args.shape (all_seen c.deref_mut.result.now) (all_seen c.deref-2.result.now) (g.O.Occupancy.areas c.begin.new.cells) (g.O.Occupancy.areas c.place_rows.new.cells) c.field_of-field.result
    before c.in_ok-entries.ensures.cells (ap all_seen (c.deref-2.ensures.value ∙ lent) ∙ c.in_ok-place_rows.ensures.entries) c.in_ok-place_rows.ensures.cells
    (c.field_of-field.ensures.columns ∙ (λ i. columns_for (c.explicit_columns.ensures i) (all_seen (same i))))
    (c.field_of-field.ensures.row (explicit_rows c.args.shape.column_flow c.args.shape) ∙ (λ i. first_row (explicit_rows c.args.shape.column_flow c.args.shape) (all_seen (same i))))
    c.field_of-field.ensures.dense

pub place_rows-requires-clause-near : goal.place_rows-requires-clause-near
place_rows-requires-clause-near g c = begun_near c.args.shape.column_flow c.args.items.now _ c.requires.spans c.in_ok-entries.ensures.cells

pub place_rows-requires-clause-room : goal.place_rows-requires-clause-room
place_rows-requires-clause-room g c =
    let before : all_seen c.deref_mut.result.now ≡ flow_items c.args.shape.column_flow c.args.items.now = ap all_seen c.deref_mut.ensures.value ∙ c.in_ok-entries.ensures.entries in
    let n = begun_room c.args.shape.column_flow c.args.items.now (all_seen c.deref_mut.result.now) (g.O.Occupancy.areas c.begin.new.cells) c.requires.count before c.in_ok-entries.ensures.cells in
    omega (arith, n)

pub place_rows-requires-clause-fit : goal.place_rows-requires-clause-fit
place_rows-requires-clause-fit g c = begun_fit c.args.shape.column_flow c.args.items.now (all_seen c.deref_mut.result.now) c.requires.spans (ap all_seen c.deref_mut.ensures.value ∙ c.in_ok-entries.ensures.entries)

pub place_rest-requires-clause-fit : goal.place_rest-requires-clause-fit
place_rest-requires-clause-fit g c =
    let before : all_seen c.deref_mut.result.now ≡ flow_items c.args.shape.column_flow c.args.items.now = ap all_seen c.deref_mut.ensures.value ∙ c.in_ok-entries.ensures.entries in
    let lent : take c.in_ok-entries.entries.len (c.place_rows.new.entries ++ drop (length c.place_rows.new.entries) c.in_ok-entries.entries.items) ≡ c.place_rows.new.entries =
    let l = c.in_ok-entries.entries.ok.0 in
    let n = c.place_rows.auto.entries in
    let m = ap length c.deref_mut.ensures.value in
    written _ _ _ (omega arith) (omega arith) in
    rest_fit c.args.shape.dense (all_seen c.deref_mut.result.now) _ (g.O.Occupancy.areas c.begin.new.cells)
    (begun_fit c.args.shape.column_flow c.args.items.now (all_seen c.deref_mut.result.now) c.requires.spans before)
    (ap all_seen (c.deref-2.ensures.value ∙ lent) ∙ c.in_ok-place_rows.ensures.entries)

pub place_rest-requires-clause-count : goal.place_rest-requires-clause-count
place_rest-requires-clause-count g c =
    let before : all_seen c.deref_mut.result.now ≡ flow_items c.args.shape.column_flow c.args.items.now = ap all_seen c.deref_mut.ensures.value ∙ c.in_ok-entries.ensures.entries in
    let lent : take c.in_ok-entries.entries.len (c.place_rows.new.entries ++ drop (length c.place_rows.new.entries) c.in_ok-entries.entries.items) ≡ c.place_rows.new.entries =
    let l = c.in_ok-entries.entries.ok.0 in
    let n = c.place_rows.auto.entries in
    let m = ap length c.deref_mut.ensures.value in
    written _ _ _ (omega arith) (omega arith) in
    rest_count c.args.shape.dense (all_seen c.deref_mut.result.now) _ (g.O.Occupancy.areas c.begin.new.cells) _
    (begun_room c.args.shape.column_flow c.args.items.now (all_seen c.deref_mut.result.now) (g.O.Occupancy.areas c.begin.new.cells) c.requires.count before c.in_ok-entries.ensures.cells)
    (ap all_seen (c.deref-2.ensures.value ∙ lent) ∙ c.in_ok-place_rows.ensures.entries) c.in_ok-place_rows.ensures.cells

pub place_rest-requires-clause-room : goal.place_rest-requires-clause-room
place_rest-requires-clause-room g c =
    let before : all_seen c.deref_mut.result.now ≡ flow_items c.args.shape.column_flow c.args.items.now = ap all_seen c.deref_mut.ensures.value ∙ c.in_ok-entries.ensures.entries in
    let lent : take c.in_ok-entries.entries.len (c.place_rows.new.entries ++ drop (length c.place_rows.new.entries) c.in_ok-entries.entries.items) ≡ c.place_rows.new.entries =
    let l = c.in_ok-entries.entries.ok.0 in
    let n = c.place_rows.auto.entries in
    let m = ap length c.deref_mut.ensures.value in
    written _ _ _ (omega arith) (omega arith) in
    rest_room c.args.shape.column_flow c.args.shape.dense c.explicit_columns.result c.args.items.now (all_seen c.deref_mut.result.now) _ (g.O.Occupancy.areas c.begin.new.cells) c.field_of-field.result before
    (ap all_seen (c.deref-2.ensures.value ∙ lent) ∙ c.in_ok-place_rows.ensures.entries)
    (c.field_of-field.ensures.columns ∙ ap (λ es. columns_for c.explicit_columns.result (all_seen es)) (c.deref.ensures.value ∙ sym c.deref-2.ensures.value))

pub place_rest-requires-clause-set : goal.place_rest-requires-clause-set
place_rest-requires-clause-set g c = λ start sc sr.
    field_set c.explicit_columns.result 0 (all_seen c.deref.result.now) (g.O.Occupancy.areas c.place_rows.new.cells) c.field_of-field.result start c.in_ok-place_rows.ensures.near
    (ap (λ (s : Span). s.start) c.field_of-field.ensures.columns) (c.field_of-field.ensures.row 0) sc sr

pub returns : goal.returns
returns g c = is_placed g c
