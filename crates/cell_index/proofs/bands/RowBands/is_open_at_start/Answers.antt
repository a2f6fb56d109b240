use Rattle.std.proofs.Common.{sym, ap, rules, ◌∙◌, w32, SFits}
use Rattle.std.proofs.lemmas.Int.{to_z-of_z}
use Rattle.cell_index.specs.Taken.{held}
use Rattle.cell_index.proofs.Edges.{IsShut, open_is_free, shut_has}
use Rattle.cell_index.proofs.bands.RowBands.is_open_at_start.Goals as goal

pub returns-in-Some-clause-free : goal.returns-in-Some-clause-free
returns-in-Some-clause-free c = λ h column low high.
    let fits : SFits w32 c.args.area.rows.start = search rules in
    ap (λ z. held c.args.self.now z column) (sym (to_z-of_z w32 c.args.area.rows.start fits)) ∙ c.in-Some.ensures.value column ∙ open_is_free c.in-Some.columns.now c.args.area.columns column (sym c.is_open.ensures ∙ h) low high

pub returns-in-Some-clause-shut : goal.returns-in-Some-clause-shut
returns-in-Some-clause-shut c = λ h some more.
    let fits : SFits w32 c.args.area.rows.start = search rules in
    let shut : IsShut c.in-Some.columns.now c.args.area.columns.start c.args.area.columns.end = shut_has c.in-Some.columns.now c.args.area.columns more (sym c.is_open.ensures ∙ h) in
    record {
      row = c.args.area.rows.start;
      column = shut.track;
      first_row = search rules;
      last_row = some;
      first_column = shut.low;
      last_column = shut.high;
      is = ap (λ z. held c.args.self.now z shut.track) (sym (to_z-of_z w32 c.args.area.rows.start fits)) ∙ c.in-Some.ensures.value shut.track ∙ shut.is;
    }
