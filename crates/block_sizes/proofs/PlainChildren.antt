-- The size of a plain child of a grid along an axis, and what it is given there.
use Rattle.std.proofs.Common.{ap, ◌≡◌, ◌∙◌, ℤ, pos, Bool}
use Rattle.lunit.specs.Units.{IsUnits}
use Rattle.style_types.specs.declared.value.Align.{Align}
use Rattle.tree_rules.specs.declared.query.Given.TheVariants as given
use Rattle.tree_rules.specs.Frames.{given_box}
use Rattle.tree_rules.specs.Labels.{ContentAxis, GridAxis, Label}
use Rattle.tree_rules.specs.NodeSizes.{block_used, inline_used, self_align, stretches}
use Rattle.inline_sizes.proofs.Plains.{plain_block, plain_box, plain_inline}
use Rattle.inline_sizes.specs.Plains.{IsPlain, no_bounds}
use Rattle.block_sizes.specs.Children.{own_block, own_inline}

pub inline_told : (items : Align) (x : Label) (fills : Bool) (room size : ℤ) (sizes : ℤ × ℤ) → IsPlain x.grid.columns x.content.inline → fills ≡ stretches (self_align x.content.inline.own items).mode
    → size ≡ inline_used no_bounds fills (pos 0) room sizes → size ≡ own_inline items x room sizes
inline_told items x fills room size sizes p h k =
    k ∙ ap (λ (s : Bool). inline_used no_bounds s (pos 0) room sizes) h ∙ plain_inline x.grid.columns x.content.inline p x.content.border_box (self_align x.content.inline.own items) room sizes

pub block_told : (items : Align) (x : Label) (fills : Bool) (room size content : ℤ) → IsPlain x.grid.rows x.content.block → fills ≡ stretches (self_align x.content.block.own items).mode
    → size ≡ block_used no_bounds fills (pos 0) room content → size ≡ own_block items x room content
block_told items x fills room size content p h k =
    k ∙ ap (λ (s : Bool). block_used no_bounds s (pos 0) room content) h ∙ plain_block x.grid.rows x.content.block p x.content.border_box (self_align x.content.block.own items) room content

pub given_told : (g : GridAxis) (c : ContentAxis) (size : ℤ) → IsPlain g c → IsUnits size → given.Size size ≡ given_box g size
given_told g c size p h = ap given.Size (plain_box g c p size h)
