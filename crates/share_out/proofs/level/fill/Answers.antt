use Rattle.std.proofs.Common.{◌≡◌, ℕ, ◌+◌, ◌<◌, List, ◌++◌, length, take, drop, map, get_or, set, arith}
use Rattle.std.proofs.lemmas.List.{get_or_default}
use Rattle.std.proofs.lemmas.List.Edits.{map_over_more}
use Rattle.part_rules.specs.Sharing.{filled_to}
use Rattle.share_out.proofs.level.fill.Goals as goal

-- a map over one item more, for an element that is read with a default
over_more : {X : Type 0} (f : X → X) (xs ys : List X) (i : ℕ) (d : X) → i < length ys → i < length xs → ys ≡ map f (take i xs) ++ drop i xs → set ys i (f (get_or ys i d)) ≡ map f (take (i + 1) xs) ++ drop (i + 1) xs
over_more f xs ys i d g h e = map_over_more f xs ys i (get_or ys i d) h e (get_or_default ys i d _ g)

pub loop-row-preserved : goal.loop-row-preserved
loop-row-preserved c =
    rw c.filled.ensures (over_more (filled_to c.args.level) c.args.rows.now c.loop-row.rows c.loop-row.row-index _ (omega arith) (omega arith) c.loop-row.invariant)
