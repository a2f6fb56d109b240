use Rattle.std.proofs.Common.{arith, ap, ◌∙◌}
use Rattle.std.proofs.lemmas.Int.{ints}
use Rattle.hit_index.specs.Hits.{hit_of}
use Rattle.hit_index.proofs.Found.{found_is, hit_is_last, hit_is_none, strips_within}
use Rattle.hit_index.proofs.index.HitIndex.hit.Goals as goal

pub last_in_strip-requires : goal.last_in_strip-requires
last_in_strip-requires c = record {
  within = rw c.as_slice-2.ensures (strips_within c.self.inside.boxes c.self.inside.edges.items c.self.inside.strips c.self.invariant.strips);
  runs = rw (c.as_slice-2.ensures, c.as_slice-3.ensures, c.self.invariant.strips.count) c.self.invariant.runs;
  strip = rw (c.as_slice-2.ensures, c.self.invariant.strips.count) c.strip_at-strip.ensures.within;
}

pub returns-clause-hit : goal.returns-clause-hit
returns-clause-hit c =
    found_is c.self.inside.boxes c.self.inside.edges.items c.self.inside.strips c.args.x c.args.y c.strip_at-strip.result c.last_in_strip.result c.self.invariant.edges c.self.invariant.strips c.strip_at-strip.ensures.within
    (λ h. rw (← c.as_slice.ensures.value) (omega (arith, ints, c.strip_at-strip.ensures.begins h)))
    (λ h. rw (← c.as_slice.ensures.value) (omega (arith, ints, c.strip_at-strip.ensures.ends h)))
    (rw (← c.as_slice-2.ensures) c.last_in_strip.ensures)
    ∙ ap (λ boxes. hit_of boxes c.args.x c.args.y) c.self.view_is

pub returns-clause-last : goal.returns-clause-last
returns-clause-last c = hit_is_last c.args.self.now c.args.x c.args.y c.last_in_strip.result (returns-clause-hit c)

pub returns-clause-none : goal.returns-clause-none
returns-clause-none c = hit_is_none c.args.self.now c.args.x c.args.y c.last_in_strip.result (returns-clause-hit c)
