use Rattle.std.proofs.Common.{◌≡◌, drop}
use Rattle.layout_cache.specs.Reach.{all_forgot}
use Rattle.layout_cache.proofs.reaching.drop_reached.Given as goal

abbrev pub invariant-loop-id : goal.invariant-loop-id
invariant-loop-id g l = all_forgot g.T.Linked.forgotten (drop l.id-index l.reached) l.tree ≡ all_forgot g.T.Linked.forgotten l.reached l.fn.tree
