use Rattle.std.proofs.Common.{ap, sym, subst, ◌∙◌}
use Rattle.placing.specs.Ranges.{IsGridAxis}
use Rattle.tree_rules.specs.Frames.{given_box}
use Rattle.tree_rules.specs.Labels.{GridStyle}
use Rattle.box_layout.proofs.root_frame.root_given.Goals as goal

pub given_box-requires : goal.given_box-requires
given_box-requires c = subst (λ (g : GridStyle). IsGridAxis g.columns) (sym c.node_at.ensures.grid) (c.requires.readable.nodes c.args.id c.requires.live).grid.columns

pub returns : goal.returns
returns c = c.given_box.ensures ∙ ap (λ (g : GridStyle). given_box g.columns c.args.across) c.node_at.ensures.grid
