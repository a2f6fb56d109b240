use Rattle.std.proofs.Common.{◌≡◌, ap, sym, ◌∙◌, ℕ, pos, ◌+◌, ◌+ℤ◌, List, drop, get_or}
use Rattle.lunit.specs.declared.geometry.Rect.{Rect}
use Rattle.page_maker.specs.Sums.{weighted, sum_of, rest_of}
use Rattle.page_maker.proofs.Totals.{total_step, total_end}
use Rattle.page_maker.proofs.sums.checksum.Goals as goal

pub loop-rect-preserved : goal.loop-rect-preserved
loop-rect-preserved c =
    let boxes = c.args.boxes.now in
    let at = c.loop-rect.rect-index in
    let next : c.total_with-total.result ≡ rest_of (pos c.loop-rect.total +ℤ weighted (get_or boxes at c.loop-rect-item.result).1) =
    c.total_with-total.ensures ∙ ap (λ (b : List ℕ × Rect). rest_of (pos c.loop-rect.total +ℤ weighted b.1)) c.loop-rect-item.is in (
      ap (λ (n : ℕ). rest_of (pos n +ℤ sum_of (drop (at + 1) boxes))) next ∙ total_step c.loop-rect.total boxes at c.loop-rect-item.result c.loop-rect-test.true ∙ c.loop-rect.invariant.0,
      c.total_with-total.type_inv,
    )

pub returns : goal.returns
returns c = sym (total_end c.loop-rect.total c.args.boxes.now c.loop-rect.rect-index c.loop-rect-test.false c.loop-rect.invariant.1) ∙ c.loop-rect.invariant.0
