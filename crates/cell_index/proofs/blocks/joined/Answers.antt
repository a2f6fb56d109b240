use Rattle.std.proofs.Common.{rules, sym, ◌∙◌, ◌≡◌, ◌≤ℤ◌, to_z, of_z, w32, SFits}
use Rattle.std.proofs.lemmas.Int.{to_z-of_z}
use Rattle.cell_index.proofs.Pairs.{joined_span}
use Rattle.cell_index.proofs.blocks.joined.Goals as goal

pub returns : goal.returns
returns c = λ track.
    let first_start : SFits w32 c.args.first.start = search rules in
    let first_end : SFits w32 c.args.first.end = search rules in
    let second_start : SFits w32 c.args.second.start = search rules in
    let second_end : SFits w32 c.args.second.end = search rules in
    let same : to_z w32 (of_z w32 c.args.first.end) ≡ to_z w32 (of_z w32 c.args.second.start) = search rules in
    let low : c.args.first.start ≤ℤ c.args.first.end = search rules in
    let high : c.args.second.start ≤ℤ c.args.second.end = search rules in
    joined_span c.args.first c.args.second (to_z w32 (of_z w32 c.args.first.start)) (to_z w32 (of_z w32 c.args.second.end)) track (to_z-of_z w32 c.args.first.start first_start) (to_z-of_z w32 c.args.second.end second_end)
    (sym (to_z-of_z w32 c.args.first.end first_end) ∙ same ∙ to_z-of_z w32 c.args.second.start second_start) low high
