use Rattle.std.proofs.Common.{None, ◌∙◌, subst, sym}
use Rattle.placing.specs.Ranges.{IsGridStyle}
use Rattle.tree_rules.specs.NodeSizes.{bounds_of, contribution, margins}
use Rattle.inline_sizes.proofs.flex.told_by.Goals as goal

pub inline_contributions-requires : goal.inline_contributions-requires
inline_contributions-requires c = subst IsGridStyle (sym c.node_at.ensures.grid) (c.requires.readable.nodes c.args.last.now.member.child c.requires.live).grid

pub returns-clause-told : goal.returns-clause-told
returns-clause-told c =
    record {
      inline = c.requires.inline;
      low = c.inline_contributions.ensures.low
          ∙ (λ i. contribution (bounds_of None (c.node_at.ensures.content i).border_box (c.node_at.ensures.grid i).columns (c.node_at.ensures.content i).inline) (margins (c.node_at.ensures.grid i).columns) c.args.inline.0);
      high = c.inline_contributions.ensures.high
          ∙ (λ i. contribution (bounds_of None (c.node_at.ensures.content i).border_box (c.node_at.ensures.grid i).columns (c.node_at.ensures.content i).inline) (margins (c.node_at.ensures.grid i).columns) c.args.inline.1);
    }
