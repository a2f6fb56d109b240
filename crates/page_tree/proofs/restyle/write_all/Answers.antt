use Rattle.std.proofs.Common.{◌∙◌}
use Rattle.page_tree.proofs.Restyled.{last_written}
use Rattle.page_tree.proofs.restyle.write_all.Goals as goal

pub loop-id-preserved : goal.loop-id-preserved
loop-id-preserved c = last_written c.loop-id.left c.pop.new.self c.in-Some.id c.in-Some.style c.loop-id.tree c.write.new.tree c.in-Some.ensures c.write.ensures ∙ c.loop-id.invariant
