-- What is told at a glance of the line values of a style.
use Rattle.std.specs.Prelude.{◌≡◌, None}
use Rattle.lunit.specs.declared.line_value.LineValue.{LineValue}
use Rattle.lunit.specs.declared.line_value.LineValue.TheVariants as line
use Rattle.style_types.specs.declared.brief.Glance.{Glance}
use Rattle.style_types.specs.declared.brief.Glance.TheVariants as glance

-- what a glance tells of a line value (CSS Grid 2, section 8.3)
abbrev pub IsLineGlance : Glance → LineValue → Type 0
IsLineGlance glance.Read l = Unit {0}
IsLineGlance glance.Auto l = l ≡ line.Auto
IsLineGlance (glance.Span n) l = l ≡ line.Reach n None
