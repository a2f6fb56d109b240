-- The root stands near the origin of the viewport.
use Rattle.std.proofs.Common.{arith, ◌≡◌, sym, subst, ℕ, ◌-◌, ◌^◌, ◌≤◌, ℤ, pos, ◌+ℤ◌}
use Rattle.std.proofs.lemmas.Int.{clamps, ints}
use Rattle.lunit.specs.Units.{IsUnits, clamp}
use Rattle.tree_rules.specs.Answers.{Frame, Kid}
use Rattle.tree_rules.specs.Boxes.{root_framed}
use Rattle.box_layout.specs.BoxesSeen.{IsNearAt, reach}
use Rattle.box_layout.specs.Ranges.{IsWithin}
use Rattle.box_layout.specs.Stands.{IsGivenNear}

limited : (z : ℤ) → IsUnits (clamp z)
unfolding clamp
limited z = (omega (arith, ints, clamps), omega (arith, ints, clamps))

reach_root : (level : ℕ) → 1 ≤ level → 2 ^ 36 ≤ reach level
reach_root level h =
    let few : 64 - level ≤ 63 = omega (arith, h) in
    omega (arith, few)

within_more : (by most : ℕ) (z : ℤ) → by ≤ most → IsWithin by z → IsWithin most (pos 0 +ℤ z)
within_more by most z h w = (omega (arith, ints, h, w.0, w.1), omega (arith, ints, h, w.0, w.1))

pub near_root : (width height : ℤ) (r : Kid) (level : ℕ) (frame : Frame) → frame ≡ (root_framed width height r).frame → 1 ≤ level → IsWithin (2 ^ 36) frame.rect.x → IsWithin (2 ^ 36) frame.rect.y → IsNearAt level (pos 0) (pos 0) frame
near_root width height r level frame is h x y =
    record {
      x = within_more (2 ^ 36) (reach level) frame.rect.x (reach_root level h) x;
      y = within_more (2 ^ 36) (reach level) frame.rect.y (reach_root level h) y;
      width = subst (λ (f : Frame). IsUnits f.rect.width) (sym is) (limited _);
      height = subst (λ (f : Frame). IsUnits f.rect.height) (sym is) (limited _);
      inline = subst (λ (f : Frame). IsGivenNear level f.inline) (sym is) (limited _);
      block = subst (λ (f : Frame). IsGivenNear level f.block) (sym is) (limited _);
    }
