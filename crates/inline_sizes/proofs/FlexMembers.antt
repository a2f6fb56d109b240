-- The children of a flex container, as the code holds them.
use Rattle.std.proofs.Common.{◌≡◌, refl}
use Rattle.node_arena.specs.declared.number.NodeId.{NodeId}
use Rattle.placing.specs.Nodes.{BareTrees, sight_at}
use Rattle.inline_sizes.specs.Flexes.{flex_seen}

pub flex_label : (b : BareTrees) (n : NodeId) → (sight_at b n).label ≡ (flex_seen b n).label
unfolding flex_seen
flex_label b n = refl
