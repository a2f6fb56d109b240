use Rattle.std.proofs.Common.{◌≡◌, ℤ, take}
use Rattle.std.specs.Prelude.{fold}
use Rattle.std.specs.Int.{int_min}
use Rattle.lunit.specs.declared.geometry.Rect.{Rect}
use Rattle.hit_index.proofs.edges.least_y.Given as goal

abbrev pub invariant-loop-rect : goal.invariant-loop-rect
invariant-loop-rect l = l.top ≡ fold (λ (top : ℤ) (other : Rect). int_min top other.y) l.first (take l.rect-index l.rects)
