use Rattle.std.proofs.Common.{◌≡◌, ◌++◌, drop}
use Rattle.block_sizes.specs.Settling.{alongs}
use Rattle.block_sizes.proofs.flex.all_along.Given as goal

abbrev pub invariant-loop-index : goal.invariant-loop-index
invariant-loop-index l = l.told ++ alongs (drop l.index l.members) (drop l.index l.sizes) (drop l.index l.blocks) (drop l.index l.items) ≡ alongs l.members l.sizes l.blocks l.items
