use Rattle.hit_index.proofs.Found.{strips_within}
use Rattle.hit_index.proofs.index.HitIndex.build.Goals as goal

pub all_extents-requires-clause-within : goal.all_extents-requires-clause-within
all_extents-requires-clause-within c =
    let within = strips_within c.rects-2.result.now c.as_slice.result.now c.in_ok-strips.strips c.in_ok-strips.ensures in
    rw (c.as_slice-2.ensures, c.rects-3.ensures.value, ← c.rects-2.ensures.value) within
