use Rattle.std.proofs.Common.{◌≡◌, ◌<◌, map, take}
use Rattle.placing.specs.Members.{Every, IsPlace, Tells, number_of, place_of, turn_in}
use Rattle.placing.specs.Nodes.{bare, children_at, kid_at}
use Rattle.placing.specs.Told.{last_turn}
use Rattle.placing.proofs.last_members.unasked.Given as goal

abbrev pub invariant-loop-number : goal.invariant-loop-number
invariant-loop-number l =
    record {
      numbers : map number_of (map place_of l.told.items) ≡ take l.number-index l.number-items;
      children : Every (IsPlace (children_at (bare l.tree.tree) l.id)) (map place_of l.told.items);
      told : Every (λ e. turn_in e < last_turn → Tells (kid_at (bare l.tree.tree) (place_of e).1) e) l.told.items;
    }
