use Rattle.std.proofs.Common.{arith, rules, ◌≡◌, to_z, of_z, w32, SFits}
use Rattle.std.proofs.lemmas.Int.{ints, to_z-of_z}
use Rattle.cell_index.proofs.BlocksPassed.{kept_in}
use Rattle.cell_index.proofs.blocks.Blocks.next_edge.Goals as goal

pub up_to-next-requires : goal.up_to-next-requires
up_to-next-requires c = let e = c.next_edge-next.ensures.later in omega (arith, ints, e)

pub returns : goal.returns
returns c =
    let fits : SFits w32 c.args.self.now.block.rows.end = search rules in
    let fits_too : SFits w32 c.args.self.now.run.rows.end = search rules in
    let row : to_z w32 (of_z w32 c.args.row) ≡ c.args.row = to_z-of_z w32 c.args.row c.ranges.row in
    let block : to_z w32 (of_z w32 c.args.self.now.block.rows.end) ≡ c.args.self.now.block.rows.end = to_z-of_z w32 c.args.self.now.block.rows.end fits in
    let run : to_z w32 (of_z w32 c.args.self.now.run.rows.end) ≡ c.args.self.now.run.rows.end = to_z-of_z w32 c.args.self.now.run.rows.end fits_too in
    kept_in c.args.self.now c.args.row _ _ _ row c.next_edge-next.ensures (omega (arith, ints, c.up_to.ensures.later, row)) (omega (arith, ints, c.up_to.ensures.next, c.up_to-next.ensures.next))
    (λ h. let e = c.up_to-next.ensures.end (omega (arith, ints, h, row, block)) in omega (arith, ints, c.up_to.ensures.next, e, block))
    (λ h. let e = c.up_to.ensures.end (omega (arith, ints, h, row, run)) in omega (arith, ints, e, run))
