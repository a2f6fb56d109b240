-- What a leaf measures, and what its measuring logs.
use Rattle.std.specs.Prelude.{ℤ}
use Rattle.part_rules.specs.declared.content.Content.{Content}
use Rattle.part_rules.specs.WordLines.{narrowest, widest, height_at}
use Rattle.outside.specs.declared.event.Width.{Width}
use Rattle.outside.specs.declared.event.Width.TheVariants.{Narrowest, Widest, At}

-- the narrowest width, the widest width, or the height at a content width (own rule)
abbrev pub measured : Content → Width → ℤ
measured content Narrowest = narrowest content
measured content Widest = widest content
measured content (At width) = height_at content width
