use Rattle.std.proofs.Common.{◌≡◌}
use Rattle.layout_cache.specs.Kept.{answer_to}
use Rattle.layout_cache.proofs.kept.Kept.find_from_oldest.Given as goal

abbrev pub invariant-loop-asked : goal.invariant-loop-asked
invariant-loop-asked g l =
    (goal.iterator-loop-asked g).can_next l.asked-iterator ×
    (goal.iterator-loop-asked g).is_finite l.asked-iterator ×
    (answer_to (record { ask = l.ask; reps = l.reps; inline = l.inline; block = l.block }) l.asked-iterator ≡ answer_to (record { ask = l.ask; reps = l.reps; inline = l.inline; block = l.block }) l.self)
