use Rattle.std.proofs.Common.{arith}
use Rattle.std.proofs.lemmas.Int.{ints}
use Rattle.hit_index.proofs.Adding.{adds_none, adds_next, adds_rest}
use Rattle.hit_index.proofs.strips.add_box.Goals as goal

pub loop-strip-init : goal.loop-strip-init
loop-strip-init c = adds_none c.args.edges.now c.args.rect.now c.args.number c.args.strips.now c.strip_at-strip.result c.requires.strips c.requires.rising c.strip_at-strip.ensures.within (λ h. omega (arith, ints, c.strip_at-strip.ensures.begins h))

pub loop-strip-preserved : goal.loop-strip-preserved
loop-strip-preserved c = adds_next c.args.edges.now c.args.rect.now c.args.number c.args.strips.now c.loop-strip.strip c.loop-strip.strips c.push_if.new.strips c.reaches-wanted.result c.loop-strip.invariant c.loop-strip-test.true c.reaches-wanted.ensures c.in_ok-push_if.ensures

pub returns-else-edges-strip : goal.returns-else-edges-strip
returns-else-edges-strip c = adds_rest c.args.edges.now c.args.rect.now c.args.number c.args.strips.now c.loop-strip.strip c.loop-strip.strips c.loop-strip.invariant c.requires.rising (omega (arith, ints))
