-- A border box that is as long as its area starts where the area starts, however it is aligned.
use Rattle.std.proofs.Common.{arith, ◌≡◌, ◌∙◌, sym, refl, ℤ, pos, ◌+ℤ◌, ◌-ℤ◌, Bool, true, false}
use Rattle.std.specs.Prelude.{◌&&◌}
use Rattle.std.specs.Ordering.{int_eq}
use Rattle.std.proofs.lemmas.Bool.{and_parts}
use Rattle.std.proofs.lemmas.Bool.Decides.{Decides-int_eq}
use Rattle.std.proofs.lemmas.Int.{ints}
use Rattle.lunit.specs.Units.{floor_div}
use Rattle.part_rules.specs.Alignment.{auto_taken, self_moved}
use Rattle.part_rules.specs.declared.mode.Mode.{Mode}
use Rattle.part_rules.specs.declared.mode.Mode.TheVariants.{Start, End, Center, Stretch, Between, Around, Evenly}
use Rattle.style_types.specs.declared.value.Align.{Align}
use Rattle.tree_rules.specs.Distribution.{aligned_at, is_safe, mode_of}
use Rattle.tree_rules.specs.Labels.{GridAxis}
use Rattle.tree_rules.specs.NodeSizes.{is_auto_margin, margin}
use Rattle.box_layout.specs.Filling.{IsAsLong, is_as_long}
use Rattle.box_layout.specs.Ranges.{IsNearTo}

-- what the test says
pub as_long : (g : GridAxis) (size box : ℤ) → is_as_long g size box ≡ true → IsAsLong g size box
as_long g size box e =
    let all = and_parts (int_eq box size) (int_eq (margin g.margin_start) (pos 0) && int_eq (margin g.margin_end) (pos 0)) e in
    let sides = and_parts (int_eq (margin g.margin_start) (pos 0)) (int_eq (margin g.margin_end) (pos 0)) all.1 in
    record { same = (Decides-int_eq box size).0 all.0; before = (Decides-int_eq (margin g.margin_start) (pos 0)).0 sides.0; after = (Decides-int_eq (margin g.margin_end) (pos 0)).0 sides.1 }

-- no space moves nothing
stays : (m : Mode) (safe : Bool) → self_moved m safe (pos 0) ≡ pos 0
unfolding floor_div
stays Start true = refl
stays Start false = refl
stays End true = refl
stays End false = refl
stays Center true = refl
stays Center false = refl
stays Stretch true = refl
stays Stretch false = refl
stays Between safe = refl
stays Around safe = refl
stays Evenly safe = refl

-- where a border box starts by its margin at the start and the free space
abbrev place : Align → GridAxis → ℤ → ℤ → ℤ → ℤ
place a g start before free =
    let taken = auto_taken free (is_auto_margin g.margin_start) (is_auto_margin g.margin_end) in
    start +ℤ before +ℤ taken.0 +ℤ self_moved (mode_of a.mode) (is_safe a) (free -ℤ taken.0 -ℤ taken.1)

nothing_free : (g : GridAxis) (size box : ℤ) → IsAsLong g size box → size -ℤ box -ℤ (margin g.margin_start +ℤ margin g.margin_end) ≡ pos 0
nothing_free g size box f = omega (arith, ints, f.same, f.before, f.after)

pub fills_place : (a : Align) (g : GridAxis) (start size box : ℤ) → IsAsLong g size box → start ≡ aligned_at a g start size box
fills_place a g start size box f =
    let here : start ≡ start +ℤ pos 0 +ℤ pos 0 +ℤ self_moved (mode_of a.mode) (is_safe a) (pos 0) = omega (arith, ints, stays (mode_of a.mode) (is_safe a)) in
    let free : size -ℤ box -ℤ (margin g.margin_start +ℤ margin g.margin_end) ≡ pos 0 = nothing_free g size box f in
    here ∙ (λ i. place a g start (sym f.before i) (sym free i))

pub near_itself : (z : ℤ) → IsNearTo z z
near_itself z = record { low = omega (arith, ints); high = omega (arith, ints) }
