use Rattle.std.proofs.Common.{◌≡◌, ◌+◌, ◌<◌, ◌++◌, length, map, take, drop, set, suc, sym, ap, ◌∙◌, arith}
use Rattle.gridlay_c.specs.Told.{box_told}
use Rattle.gridlay_c.proofs.Filled.{one_more}
use Rattle.gridlay_c.proofs.rooms.fill_boxes.Goals as goal

pub loop-index-preserved : goal.loop-index-preserved
loop-index-preserved c =
    let xs = c.args.boxes.now in let room = c.args.room.now in let i = c.loop-index.index in
    let within : i < length xs = omega (arith, c.loop-index-test.true, c.min-front.ensures) in
    let fits : i < length room = omega (arith, c.loop-index-test.true, c.min-front.ensures) in
    let next : i + 1 ≡ suc i = omega arith in
    ap (λ zs. set zs i c.of.result) c.loop-index.invariant
    ∙ ap (λ z. set (take i (map (λ box. box_told box.1) xs) ++ drop i room) i z) c.of.ensures
    ∙ one_more (λ box. box_told box.1) xs room i c.index-boxes-index.result within fits
    ∙ ap (λ n. take n (map (λ box. box_told box.1) xs) ++ drop n room) (sym next)
