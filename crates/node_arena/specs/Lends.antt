-- What an arena ends as, where a `&mut` to a value is returned.
use Rattle.std.specs.Prelude.{Option}
use Rattle.std.specs.Borrow.{LendsIf, Fml, RattleType, MutBor}
use Rattle.node_arena.specs.declared.number.NodeId.{NodeId}
use Rattle.node_arena.specs.Plain.{Nodes, with_value}
use Rattle.node_arena.specs.contracts.arena.Arena.{the_row}

-- once the borrow ends, the number has the last value written through it, and at `None` nothing changed
abbrev pub lends_value : (T : RattleType) → MutBor (Nodes T.Denot) → NodeId → Option (MutBor T.Denot) → Fml
lends_value T s n r = LendsIf (the_row T) T s r (λ w. with_value n w s.now) s.now
