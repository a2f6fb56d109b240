use Rattle.std.proofs.Common.{sym, ◌∙◌, subst, List}
use Rattle.std.specs.Prelude.{IsTrue}
use Rattle.line_names.specs.Tables.{are_areas}
use Rattle.part_rules.specs.LineNames.{NamedSpan}
use Rattle.tree_rules.specs.Labels.{grid_of}
use Rattle.placing.specs.Along.{cells_along, named_along}
use Rattle.placing.proofs.Named.{areas_more, few_cells, in_cells}
use Rattle.placing.proofs.grids.shared_axis.Goals as goal

pub table_under-requires-clause-areas : goal.table_under-requires-clause-areas
table_under-requires-clause-areas g c =
    let areas = (grid_of c.args.style.now).areas in
    subst (λ (l : List NamedSpan). IsTrue (are_areas 65536 l)) (sym (c.deref.ensures.value ∙ c.in_ok-named.ensures))
    (areas_more (cells_along g.row.AXIS areas) 65536 (named_along g.row.AXIS areas) (few_cells g.row.AXIS areas c.requires.style.areas) (in_cells g.row.AXIS areas c.requires.style.areas))
