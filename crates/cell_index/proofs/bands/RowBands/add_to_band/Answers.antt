use Rattle.std.proofs.Common.{sym, ap, ◌∙◌, w32}
use Rattle.std.specs.BTreeMap as tree
use Rattle.std.specs.BTreeMap.{is_at}
use Rattle.std.specs.Map.{set_value}
use Rattle.std.specs.Ordering.{int_cmp}
use Rattle.std.proofs.lemmas.Int.{to_z-of_z}
use Rattle.std.proofs.lemmas.Result.{on_ok_weaker}
use Rattle.cell_index.proofs.bands.RowBands.add_to_band.Goals as goal

pub returns-in-Some : goal.returns-in-Some
returns-in-Some c =
    on_ok_weaker c.add.result
    (λ added. record {
      value = c.in-Some.band.now;
      next = c.add.new.self;
      was = ap (λ z. tree.get int_cmp c.args.self.now.bands z) (sym (to_z-of_z w32 c.args.row c.ranges.row)) ∙ sym c.in-Some.ensures.value;
      entries = (c.get_mut.follows.holds c.add.new.self).0 ∙ ap (λ z. set_value (is_at (int_cmp z)) c.args.self.now.bands.entries c.add.new.self) (to_z-of_z w32 c.args.row c.ranges.row);
      added = λ column. added column;
    })
    c.add.ensures
