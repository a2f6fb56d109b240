use Rattle.std.proofs.Common.{sym, subst}
use Rattle.placing.specs.Ranges.{IsGridStyle}
use Rattle.box_layout.proofs.flexes.style_of.Goals as goal

pub returns-clause-has : goal.returns-clause-has
returns-clause-has c = record { grid = sym c.node_at.ensures.grid; content = sym c.node_at.ensures.content }

pub returns-clause-grid : goal.returns-clause-grid
returns-clause-grid c = subst IsGridStyle (sym c.node_at.ensures.grid) (c.requires.readable.nodes c.args.member.now.child c.requires.child.live).grid
