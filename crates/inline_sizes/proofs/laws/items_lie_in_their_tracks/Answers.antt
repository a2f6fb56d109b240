use Rattle.inline_sizes.proofs.FineSights.{items_in_tracks}
use Rattle.inline_sizes.proofs.laws.items_lie_in_their_tracks.Goals as goal

-- src/laws.rt:36:1
pub returns-clause-items : goal.returns-clause-items
returns-clause-items c = λ outer width. items_in_tracks c.args.tree.now.tree c.args.id outer width c.requires c.stands.ensures.numbered
