use Rattle.std.proofs.Common.{refl}
use Rattle.node_arena.proofs.First.{whole_fits_first, whole_first}
use Rattle.node_arena.proofs.arena.Arena.new.Goals as goal

pub invariant_of-arena : goal.invariant_of-arena
invariant_of-arena g c =
    whole_fits_first c.new-slots.result c.insert.new.self c.in_ok-slot.slot c.args.nodes c.args.children _ c.new-slots.ensures.empty c.in_ok-slot.ensures.updates c.in_ok-slot.ensures.len refl refl c.new.ensures.items c.requires.0

pub returns : goal.returns
returns g c =
    λ i. record {
      tree = whole_first c.new-slots.result c.insert.new.self c.in_ok-slot.slot c.args.nodes c.args.children _ c.new-slots.ensures.empty c.in_ok-slot.ensures.updates c.in_ok-slot.ensures.len refl refl c.new.ensures.items c.requires.0 i;
      made = 1;
      most_nodes = c.args.nodes;
      most_children = c.args.children;
    }
