use Rattle.std.proofs.Common.{inl, inr}
use Rattle.grid_placement.proofs.reached.reach_position.Goals as goal

pub returns-then-place-len : goal.returns-then-place-len
returns-then-place-len c = inr (record { place = c.told_place-place.result; is = c.put_at.ensures })

pub returns : goal.returns
returns c = inl c.in_ok-push.ensures.items
