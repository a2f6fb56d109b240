use Rattle.std.proofs.Common.{◌≡◌, ℕ, ◌<◌, length}
use Rattle.placing.specs.Nodes.{bare, kids_at}
use Rattle.box_layout.proofs.Seating.{IsComing}
use Rattle.box_layout.proofs.child_seats.areas_by_number.Given as goal

abbrev pub invariant-loop-index : goal.invariant-loop-index
invariant-loop-index l =
    record {
      counted : length l.areas ≡ length (kids_at (bare l.tree.tree) l.id);
      coming : (number : ℕ) → number < length (kids_at (bare l.tree.tree) l.id) → IsComing (bare l.tree.tree) l.id l.placed l.areas l.index number;
    }
