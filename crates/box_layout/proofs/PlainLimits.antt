-- A child without declared sizes, borders and paddings has no limits across its line.
use Rattle.std.proofs.Common.{◌≡◌, ◌∙◌, ap, refl, sym, ℤ, pos}
use Rattle.lunit.specs.Units.{clamp, top}
use Rattle.tree_rules.specs.NodeSizes.{Bounds}
use Rattle.inline_sizes.specs.Plains.{no_bounds}
use Rattle.box_layout.specs.Sittings.{greatest_across, least_across}

no_least : pos 0 ≡ least_across no_bounds
unfolding clamp
no_least = refl

pub no_limits : (b : Bounds) → b ≡ no_bounds → (least most : ℤ) → least ≡ pos 0 → most ≡ top → (let made : ℤ × ℤ = (least, most) in let all : ℤ × ℤ = (least_across b, greatest_across b) in made ≡ all)
no_limits b none least most e f = λ i. ((e ∙ no_least ∙ ap least_across (sym none)) i, (f ∙ ap greatest_across (sym none)) i)
