use Rattle.std.proofs.Common.{arith, ap, sym, ◌∙◌, ◌≡◌, ◌*◌, ◌-◌, ◌+◌, ℕ, List, drop, length}
use Rattle.std.specs.Prelude.{slice_get}
use Rattle.runs.specs.Times.{items_of}
use Rattle.runs.proofs.Times.{items_at, get_here, get_there, part_few}
use Rattle.runs.proofs.repeats.item_in.Goals as goal

pub overflow_mul-all : goal.overflow_mul-all
overflow_mul-all g c =
    let item = c.loop-count-item.result in
    let few = part_few c.args.parts.now c.loop-count.count-index 4294967296 item c.loop-count-test.true c.loop-count-item.is c.loop-count.invariant.few in
    let same : item.0 * c.len.result ≡ item.0 * length item.1 = ap (λ (n : ℕ). item.0 * n) c.len.ensures in
    omega (arith, few, same)

pub returns-then-left-all : goal.returns-then-left-all
returns-then-left-all g c =
    let item = c.loop-count-item.result in
    let rest = items_of (drop (c.loop-count.count-index + 1) c.args.parts.now) in
    let same : item.0 * c.len.result ≡ item.0 * length item.1 = ap (λ (n : ℕ). item.0 * n) c.len.ensures in
    c.item_of.ensures
    ∙ sym (get_here item.0 item.1 rest c.loop-count.left (omega (arith, c.if-left-all.true, same)))
    ∙ ap (λ (xs : List _). slice_get xs c.loop-count.left) (sym (items_at c.args.parts.now c.loop-count.count-index item c.loop-count-test.true c.loop-count-item.is))
    ∙ c.loop-count.invariant.same

pub loop-count-preserved : goal.loop-count-preserved
loop-count-preserved g c =
    let item = c.loop-count-item.result in
    let rest = items_of (drop (c.loop-count.count-index + 1) c.args.parts.now) in
    let same : item.0 * c.len.result ≡ item.0 * length item.1 = ap (λ (n : ℕ). item.0 * n) c.len.ensures in
    let few = part_few c.args.parts.now c.loop-count.count-index 4294967296 item c.loop-count-test.true c.loop-count-item.is c.loop-count.invariant.few in
    record {
      same = ap (λ (n : ℕ). slice_get rest (c.loop-count.left - n)) same
          ∙ sym (get_there item.0 item.1 rest c.loop-count.left (omega (arith, c.if-left-all.false, same)))
          ∙ ap (λ (xs : List _). slice_get xs c.loop-count.left) (sym (items_at c.args.parts.now c.loop-count.count-index item c.loop-count-test.true c.loop-count-item.is))
          ∙ c.loop-count.invariant.same;
      few = omega (arith, few);
    }
