-- Rules with fixed min functions of at least 0, and items in their tracks.
use Rattle.std.proofs.Common.{ℕ, ℤ, List, [], ◌∷◌, ◌++◌}
use Rattle.lunit.specs.declared.item.Item.{Item}
use Rattle.part_rules.specs.declared.track.Rule.{Rule}
use Rattle.track_sizing.specs.Fits.{HaveFixed, IsFixed}
use Rattle.track_sizing.specs.Placed.{AreIn, IsIn}

pub fixed_more : (rules : List Rule) (r : Rule) → HaveFixed rules → IsFixed r → HaveFixed (rules ++ r ∷ [])
fixed_more [] r h f = (f, tt)
fixed_more (x ∷ xs) r h f = (h.0, fixed_more xs r h.1 f)

pub in_more : (first : ℤ) (n : ℕ) (items : List Item) (i : Item) → AreIn first n items → IsIn first n i → AreIn first n (items ++ i ∷ [])
in_more first n [] i h f = (f, tt)
in_more first n (x ∷ xs) i h f = (h.0, in_more first n xs i h.1 f)
