-- What the code makes of the root's style is what its values make.
use Rattle.std.proofs.Common.{◌≡◌, ◌∙◌, ℤ, pos, false, Some}
use Rattle.lunit.specs.declared.geometry.Rect.{Rect}
use Rattle.style_types.specs.Styles.{StyleMap}
use Rattle.tree_rules.specs.Boxes.{root_align, root_height, root_justify, root_width}
use Rattle.tree_rules.specs.Distribution.{aligned_at}
use Rattle.tree_rules.specs.Frames.{given_box}
use Rattle.tree_rules.specs.Labels.{Label, content_of, grid_of}
use Rattle.tree_rules.specs.NodeSizes.{block_used, bounds_of, inline_used, is_stretched, margins}
use Rattle.tree_rules.specs.declared.query.Given.{Given}
use Rattle.inline_sizes.specs.Styled.{grid_at}
use Rattle.box_layout.specs.RootFrames.{height_by, root_frame_by, width_by}
use Rattle.box_layout.specs.Roots.{root_by, root_rect, with_block}

module _ (style : StyleMap) (x : Label) (g : grid_of style ≡ x.grid) (c : content_of style ≡ x.content) where
  pub width_is : (width : ℤ) (sizes : ℤ × ℤ) → root_width width (root_by style sizes (pos 0)) ≡ width_by width x sizes
  width_is width sizes = λ i. inline_used (bounds_of (Some width) (c i).border_box (g i).columns (c i).inline) (is_stretched root_justify (g i).columns (c i).inline) (margins (g i).columns) width sizes

  height_is : (height content : ℤ) → root_height height (root_by style (pos 0, pos 0) content) (with_block content) ≡ height_by height x content
  height_is height content = λ i. block_used (bounds_of (Some height) (c i).border_box (g i).rows (c i).block) false (margins (g i).rows) height content

  pub placed_is : (width height across content size : ℤ) (inline : Given) (rect : Rect) (block : Given) → size ≡ root_height height (root_by style (pos 0, pos 0) content) (with_block content)
      → rect ≡ root_rect style (width, height) (across, size) → block ≡ given_box (grid_at 1 style) size → record { rect = rect; inline = inline; block = block } ≡ root_frame_by (width, height) x across inline content
  placed_is width height across content size inline rect block h r b =
      let is : size ≡ height_by height x content = h ∙ height_is height content in
      (λ i. record { rect = r i; inline = inline; block = b i })
      ∙ (λ i. record { rect = record { x = aligned_at root_justify (g i).columns (pos 0) width across; y = aligned_at root_align (g i).rows (pos 0) height (is i); width = across; height = is i }; inline = inline; block = given_box (g i).rows (is i) })
