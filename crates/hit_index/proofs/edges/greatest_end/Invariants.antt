use Rattle.std.proofs.Common.{◌≡◌, ℤ, ◌+ℤ◌, take}
use Rattle.std.specs.Prelude.{fold}
use Rattle.std.specs.Int.{int_max}
use Rattle.lunit.specs.declared.geometry.Rect.{Rect}
use Rattle.hit_index.proofs.edges.greatest_end.Given as goal

abbrev pub invariant-loop-rect : goal.invariant-loop-rect
invariant-loop-rect l = l.bottom ≡ fold (λ (bottom : ℤ) (other : Rect). int_max bottom (other.y +ℤ other.height)) l.first (take l.rect-index l.rects)
