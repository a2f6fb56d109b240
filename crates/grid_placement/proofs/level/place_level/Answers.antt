use Rattle.std.proofs.Common.{arith, pos, to_z, of_z, w64, ◌≡◌, ◌∙◌}
use Rattle.std.specs.Int.{int_max}
use Rattle.std.proofs.lemmas.Int.{ints}
use Rattle.grid_placement.specs.Heights.{widest}
use Rattle.grid_placement.proofs.Bands.{filled_is}
use Rattle.grid_placement.proofs.level.place_level.Goals as goal

pub returns : goal.returns
returns c =
    let last = to_z w64 (of_z w64 c.last_line-last.result) in
    let same : last ≡ c.last_line-last.result = omega (arith, ints) in
    c.in_ok-areas.ensures
    ∙ filled_is c.args.items.now c.args.shape c.args.rows last c.requires.sparse c.requires.height c.requires.level
    (same ∙ c.last_line-last.ensures ∙ (λ i. int_max (pos (c.explicit_columns.ensures i)) (pos (widest c.args.shape.column_flow c.args.items.now))))
