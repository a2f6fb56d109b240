use Rattle.std.proofs.Common.{◌≡◌, ℕ, List, take}
use Rattle.std.specs.Prelude.{map}
use Rattle.lunit.specs.declared.geometry.Rect.{Rect}
use Rattle.hit_index.proofs.boxes.rects_of.Given as goal

abbrev pub invariant-loop-rect : goal.invariant-loop-rect
invariant-loop-rect l = l.rects.items ≡ map (λ (box : List ℕ × Rect). box.1) (take l.rect-index l.boxes)
