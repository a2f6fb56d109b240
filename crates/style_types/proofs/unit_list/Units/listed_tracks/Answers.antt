use Rattle.std.proofs.Common.{rules, arith, ◌≡◌, ◌≤◌, length, ap}
use Rattle.style_types.proofs.Computing.{few_made}
use Rattle.style_types.proofs.unit_list.Units.listed_tracks.Goals as goal

pub of-requires : goal.of-requires
of-requires c =
    let read : c.as_slice.result.now ≡ c.args.tracks.now = search rules in
    let same : length c.as_slice.result.now ≡ length c.args.tracks.now = ap length read in
    let few : length c.as_slice.result.now ≤ 4294967296 = omega (arith, same, c.len.ensures.value, c.len.ensures.few) in
    few_made c.args.em c.args.rem c.in_ok-made.made c.as_slice.result.now c.tracks.new.self c.args.self.now 4294967296 c.in_ok-made.ensures few
