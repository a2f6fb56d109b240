use Rattle.std.proofs.Common.{rules, ◌≡◌, ◌≤◌, length, arith}
use Rattle.track_text.specs.Templates.{kept_tracks}
use Rattle.track_text.specs.Kept.{entries_of}
use Rattle.track_text.proofs.TrackLists.{kept-few}
use Rattle.track_text.proofs.lists.automatic_list.Goals as goal

pub overflow_cast-before : goal.overflow_cast-before
overflow_cast-before c =
    let sizes : c.len-before.result ≡ length (kept_tracks (entries_of c.args.around.now.front.now)) = search rules in
    let few : length (kept_tracks (entries_of c.args.around.now.front.now)) ≤ 10000 = kept-few (entries_of c.args.around.now.front.now) in
    omega (arith, sizes, few)
