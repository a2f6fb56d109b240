use Rattle.std.proofs.Common.{◌≡◌, map, take}
use Rattle.placing.specs.Areas.{siblings_at}
use Rattle.placing.specs.Insides.{AreFilled}
use Rattle.placing.specs.Nodes.{bare}
use Rattle.placing.specs.Seats.{context_of}
use Rattle.placing.specs.Wishes.{wish_by}
use Rattle.placing.proofs.wishes.wishes.Given as goal

abbrev pub invariant-loop-number : goal.invariant-loop-number
invariant-loop-number l =
    record {
      value : l.wishes.items ≡ map (wish_by (context_of l.context) (siblings_at (bare l.tree.tree) l.id)) (take l.number-index l.numbers);
      filled : AreFilled l.wishes.items;
    }
