-- What a style tells at a glance of a value is so of what the rules read of it.
use Rattle.std.proofs.Common.{◌≡◌, ap, refl}
use Rattle.style_types.specs.Briefs.{IsGlance, gap_value, is_subgrid_value}
use Rattle.style_types.specs.declared.brief.Glance.{Glance}
use Rattle.style_types.specs.declared.brief.Glance.TheVariants as glance
use Rattle.style_types.specs.declared.track.Template.TheVariants as template
use Rattle.style_types.specs.declared.value.Value.{Value}
use Rattle.style_types.specs.declared.value.Value.TheVariants as value
use Rattle.tree_rules.specs.Chains.{is_subgrid}
use Rattle.tree_rules.specs.Labels.{line_in, size_in, template_in}
use Rattle.placing.specs.Glances.{IsLineGlance}

pub subgrid_is : (v : Value) → is_subgrid_value v ≡ is_subgrid (template_in v)
subgrid_is (value.Template (template.Subgrid sets)) = refl
subgrid_is (value.Template (template.Tracks list)) = refl
subgrid_is (value.Template template.Absent) = refl
subgrid_is (value.Areas a) = refl
subgrid_is (value.Sizes s) = refl
subgrid_is (value.Flow c d) = refl
subgrid_is (value.Line l) = refl
subgrid_is (value.Order o) = refl
subgrid_is (value.Size s) = refl
subgrid_is (value.BorderBox b) = refl
subgrid_is (value.Overflow s) = refl
subgrid_is (value.Align a) = refl
subgrid_is (value.Column b) = refl
subgrid_is (value.Wrap b) = refl
subgrid_is (value.Factor n) = refl

pub gap_is : (v : Value) → gap_value v ≡ size_in v
gap_is (value.Template t) = refl
gap_is (value.Areas a) = refl
gap_is (value.Sizes s) = refl
gap_is (value.Flow c d) = refl
gap_is (value.Line l) = refl
gap_is (value.Order o) = refl
gap_is (value.Size s) = refl
gap_is (value.BorderBox b) = refl
gap_is (value.Overflow s) = refl
gap_is (value.Align a) = refl
gap_is (value.Column b) = refl
gap_is (value.Wrap b) = refl
gap_is (value.Factor n) = refl

pub line_glance : (g : Glance) (v : Value) → IsGlance g v → IsLineGlance g (line_in v)
line_glance glance.Read v h = tt
line_glance glance.Auto v h = ap line_in h
line_glance (glance.Span n) v h = ap line_in h

pub ruleset glance_laws = (subgrid_is, gap_is, line_glance)
