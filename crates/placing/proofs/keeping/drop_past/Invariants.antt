use Rattle.std.proofs.Common.{◌≡◌, drop}
use Rattle.layout_cache.specs.Reach.{all_forgot}
use Rattle.placing.specs.Keeping.{without_past_of}
use Rattle.placing.proofs.keeping.drop_past.Given as goal

abbrev pub invariant-loop-id : goal.invariant-loop-id
invariant-loop-id l = all_forgot (without_past_of l.all) (drop l.id-index l.ids) l.tree ≡ all_forgot (without_past_of l.all) l.ids l.fn.tree
