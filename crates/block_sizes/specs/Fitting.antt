-- Tracks that are sized, or are given.
use Rattle.std.specs.Prelude.{ℕ, List}
use Rattle.lunit.specs.declared.geometry.Span.{Span}
use Rattle.lunit.specs.declared.item.Item.{Item}
use Rattle.style_types.specs.Styles.{StyleMap}
use Rattle.tree_rules.specs.declared.query.Given.{Given}
use Rattle.tree_rules.specs.declared.query.Given.TheVariants as given
use Rattle.inline_sizes.specs.TrackAxes.{CanSize}

-- Where tracks are given none are sized; else they can be.
abbrev pub CanSizeFor : Given → ℕ → StyleMap → Span → List Item → Type 0
CanSizeFor given.None axis style tracks items = CanSize axis style tracks items
CanSizeFor (given.Size x) axis style tracks items = CanSize axis style tracks items
CanSizeFor (given.Tracks edges gap) axis style tracks items = Unit {0}
