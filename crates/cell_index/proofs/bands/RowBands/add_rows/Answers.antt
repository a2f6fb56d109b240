use Rattle.std.proofs.Common.{arith, rules, sym, ap, subst, ◌∙◌, ◌≡◌, ℤ, ◌&&◌, ◌||◌, to_z, of_z, w32, SFits}
use Rattle.std.specs.Prelude.{IsSome}
use Rattle.std.specs.BTreeMap as tree
use Rattle.std.specs.Ordering.{int_cmp}
use Rattle.std.proofs.lemmas.Int.{ints, to_z-of_z}
use Rattle.cell_index.specs.Taken.{held, within}
use Rattle.cell_index.proofs.Filled.{empty_span, in_turn, or_no, spread}
use Rattle.cell_index.proofs.bands.RowBands.add_rows.Goals as goal

pub loop-row-init : goal.loop-row-init
loop-row-init c =
    let fits : SFits w32 c.args.area.rows.start = search rules in
    let e : to_z w32 (of_z w32 c.args.area.rows.start) ≡ c.args.area.rows.start = to_z-of_z w32 c.args.area.rows.start fits in
    let P : ℤ → Type 0 = λ z. IsSome (tree.get int_cmp c.args.self.now.bands z) in
    record {
      begins = subst P (sym e) c.requires.first;
      ends = c.requires.last;
      low = omega (arith, ints, e);
      high = omega (arith, ints, e, c.requires.some);
      added = λ row column. sym (ap (λ b. held c.args.self.now row column || (b && within c.args.area.columns column)) (empty_span c.args.area.rows.start (to_z w32 (of_z w32 c.args.area.rows.start)) row (omega (arith, ints, e))) ∙ or_no (held c.args.self.now row column));
    }

pub loop-row-preserved : goal.loop-row-preserved
loop-row-preserved c =
    let fits : SFits w32 c.next-next.result = search rules in
    let e : to_z w32 (of_z w32 c.next-next.result) ≡ c.next-next.result = to_z-of_z w32 c.next-next.result fits in
    let r : to_z w32 c.loop-row.row-bits ≡ c.loop-row.row = c.loop-row.row-is in
    let P : ℤ → Type 0 = λ z. IsSome (tree.get int_cmp c.fill_band.new.self.bands z) in
    record {
      begins = subst P (sym e) (c.in_ok-fill_band.ensures.kept c.next-next.result c.next-next.ensures.later c.next-next.ensures.begins);
      ends = c.in_ok-fill_band.ensures.kept c.args.area.rows.end (omega (arith, ints, c.next-next.ensures.later, c.next-next.ensures.within)) c.loop-row.invariant.ends;
      low = omega (arith, ints, e, c.next-next.ensures.later, r, c.loop-row.invariant.low);
      high = omega (arith, ints, e, c.next-next.ensures.within);
      added = λ row column.
          let turn : (within (record { start = c.args.area.rows.start; end = to_z w32 c.loop-row.row-bits }) row || within (record { start = to_z w32 c.loop-row.row-bits; end = to_z w32 (of_z w32 c.next-next.result) }) row) ≡
          within (record { start = c.args.area.rows.start; end = to_z w32 (of_z w32 c.next-next.result) }) row = in_turn c.args.area.rows.start (to_z w32 c.loop-row.row-bits) (to_z w32 (of_z w32 c.next-next.result)) row c.loop-row.invariant.low
          (omega (arith, ints, e, c.next-next.ensures.later)) in
          c.in_ok-fill_band.ensures.added row column
          ∙ ap (λ b. b || (within (record { start = to_z w32 c.loop-row.row-bits; end = to_z w32 (of_z w32 c.next-next.result) }) row && within c.args.area.columns column)) (c.loop-row.invariant.added row column)
          ∙ spread (held c.args.self.now row column) (within (record { start = c.args.area.rows.start; end = to_z w32 c.loop-row.row-bits }) row) (within (record { start = to_z w32 c.loop-row.row-bits; end = to_z w32 (of_z w32 c.next-next.result) }) row)
          (within (record { start = c.args.area.rows.start; end = to_z w32 (of_z w32 c.next-next.result) }) row) (within c.args.area.columns column) turn;
    }
