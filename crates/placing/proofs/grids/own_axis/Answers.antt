use Rattle.std.proofs.Common.{arith, sym, ◌∙◌, subst, List, max, false}
use Rattle.std.specs.Prelude.{IsTrue, None}
use Rattle.line_names.specs.Tables.{are_areas}
use Rattle.part_rules.specs.LineNames.{NamedSpan, own_table}
use Rattle.tree_rules.specs.Labels.{grid_of}
use Rattle.tree_rules.specs.Repetitions.{gap_by}
use Rattle.placing.specs.Along.{cells_along, named_along}
use Rattle.placing.proofs.Named.{areas_more, in_cells}
use Rattle.placing.proofs.grids.own_axis.Goals as goal

pub new-requires-clause-areas : goal.new-requires-clause-areas
new-requires-clause-areas g c =
    let areas = (grid_of c.args.style.now).areas in
    subst (λ (l : List NamedSpan). IsTrue (are_areas c.max-tracks.result l)) (sym (c.deref.ensures.value ∙ c.in_ok-named.ensures))
    (areas_more (cells_along g.row.AXIS areas) c.max-tracks.result (named_along g.row.AXIS areas) (omega (arith, c.max-tracks.ensures, c.cells.ensures)) (in_cells g.row.AXIS areas c.requires.areas))

pub returns : goal.returns
returns g c =
    λ i. record {
      subgrid = false;
      table = (c.in_ok-new.ensures ∙ (λ j. own_table ((c.as_slice.ensures ∙ c.in_ok-names.ensures) j) ((c.max-tracks.ensures ∙ (λ k. max (c.written_tracks.ensures.value k) (c.cells.ensures k))) j) ((c.deref.ensures.value ∙ c.in_ok-named.ensures) j))) i;
      gap = (c.lent_gap.ensures ∙ (λ j. gap_by None (c.zero.ensures j) (c.gap.ensures j))) i;
      levels = c.new-2.ensures i;
    }
