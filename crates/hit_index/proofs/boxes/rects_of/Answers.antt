use Rattle.std.proofs.Common.{ap, ◌∙◌, ℕ, List}
use Rattle.std.specs.Prelude.{map}
use Rattle.std.proofs.lemmas.List.{take_all}
use Rattle.lunit.specs.declared.geometry.Rect.{Rect}
use Rattle.hit_index.proofs.Found.{small_rects}
use Rattle.hit_index.proofs.boxes.rects_of.Goals as goal

pub returns-clause-small : goal.returns-clause-small
returns-clause-small c = small_rects c.args.boxes.now c.loop-rect.rects.items (c.loop-rect.invariant ∙ ap (map (λ (box : List ℕ × Rect). box.1)) (take_all c.loop-rect.rect-index c.args.boxes.now c.loop-rect-test.false)) c.requires.small
