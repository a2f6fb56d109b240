use Rattle.std.proofs.Common.{subst, sym, List}
use Rattle.lunit.specs.declared.geometry.Area.{Area}
use Rattle.part_rules.proofs.Apart.{no_overlap}
use Rattle.part_rules.specs.Placement.{NoOverlap}
use Rattle.grid_placement.specs.Dense.{FillsHoles}
use Rattle.grid_placement.specs.Fitting.{FitWishes}
use Rattle.grid_placement.proofs.Fills.{fills_holes}
use Rattle.grid_placement.proofs.Fitting.{placed_fit}
use Rattle.grid_placement.proofs.place.Goals as goal

pub returns-clause-fits : goal.returns-clause-fits
returns-clause-fits g c = subst (λ (areas : List Area). FitWishes c.args.items.now areas) (sym c.in_ok-areas.ensures) (placed_fit c.args.items.now c.args.shape)

pub returns-clause-apart : goal.returns-clause-apart
returns-clause-apart g c = subst (λ (areas : List Area). NoOverlap c.args.items.now areas) (sym c.in_ok-areas.ensures) (no_overlap c.args.items.now c.args.shape)

pub returns-clause-dense : goal.returns-clause-dense
returns-clause-dense g c = subst (λ (areas : List Area). FillsHoles c.args.items.now c.args.shape areas) (sym c.in_ok-areas.ensures) (fills_holes c.args.items.now c.args.shape)
