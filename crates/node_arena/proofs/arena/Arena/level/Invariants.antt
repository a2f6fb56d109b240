use Rattle.std.proofs.Common.{◌≡◌, ◌+◌, length}
use Rattle.std.specs.Prelude.{IfSome, IsTrue}
use Rattle.node_arena.specs.Numbers.{way_up, way_of}
use Rattle.node_arena.specs.Plain.{is_live}
use Rattle.node_arena.proofs.arena.Arena.level.Given as goal

abbrev pub invariant-loop-next : goal.invariant-loop-next
invariant-loop-next g l =
    record {
      way : l.level + length (way_of l.self.tree l.next) ≡ length (way_up l.self.tree l.fn.id);
      live : IfSome l.next (λ number. IsTrue (is_live l.self number));
    }

abbrev pub decreases-loop-next : goal.decreases-loop-next
decreases-loop-next g l = length (way_of l.self.tree l.next)
