use Rattle.node_arena.proofs.Reading.{sound}
use Rattle.node_arena.proofs.arena.Arena.root.Goals as goal

pub returns-clause-sound : goal.returns-clause-sound
returns-clause-sound g c = rw (← c.self.view_is) (sound _ _ _ _ _ _ c.self.invariant)
