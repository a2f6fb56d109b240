use Rattle.std.proofs.Common.{length}
use Rattle.node_arena.specs.Numbers.{way_up}
use Rattle.page_tree.proofs.font.+font_at.Given as goal

abbrev pub decreases-font_at : goal.decreases-font_at
decreases-font_at l = length (way_up l.tree.now.tree l.id)
