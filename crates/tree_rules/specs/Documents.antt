-- The boxes of a document, whose nodes have declared styles: font sizes, then computed styles, then boxes (CSS Fonts 4, 2.5; CSS Values 4,
-- section 6.1).
use Rattle.std.specs.Prelude.{◌≡◌, refl, ℕ, ℤ, pos, List}
use Rattle.plain_tree.specs.Trees.{Trees, leafless, tree}
use Rattle.style_types.specs.Computed.{DeclaredMap, computed_style, font_of}
use Rattle.tree_rules.specs.declared.kind.NodeKind.{NodeKind}
use Rattle.tree_rules.specs.Answers.{Box}
use Rattle.tree_rules.specs.Boxes.{boxes}
use Rattle.tree_rules.specs.Labels.{Label, label_of}
use Rattle.lunit.specs.Units.{clamp, floor_div}
use Rattle.part_rules.specs.Fractions.{left_flexible}
use Rattle.part_rules.specs.Placement.{placed_by_rows}
use Rattle.part_rules.specs.Sharing.{handed_by_level}
use Rattle.part_rules.specs.Tracks.{sized, group_fitted, spans_fitted}
use Rattle.std.specs.Prelude.{[], ◌∷◌, Some}
use Rattle.style_types.specs.Computed.{computed_size, computed_tracks, font_with}
use Rattle.style_types.specs.Units.{relative}
use Rattle.style_types.specs.declared.unit.Unit.TheVariants as unit
use Rattle.style_types.specs.declared.value.AlignMode.TheVariants as align_mode
use Rattle.style_types.specs.declared.value.Size.TheVariants as size
use Rattle.style_types.specs.declared.value.Value.TheVariants as value
use Rattle.tree_rules.specs.Labels.{plain_axis, plain_content, plain_content_axis, plain_grid}
use Rattle.tree_rules.specs.Samples.{px, px_size, fixed, tracks, aligned, grid, leaf, plain_leaf, side_by_side, box, px_box, main, name_a, name_b, name_p}

-- A node of a document without its children: its style has lengths in px, em and rem.
pub record DeclaredLabel : Type 0 where
  pub name : List ℕ
  pub kind : NodeKind
  pub declared : DeclaredMap

-- the font size that the root has where it declares none: 16px (own rule)
abbrev pub first_font : ℤ
first_font = pos 1024

-- the font size of the root: both em and rem of it are of 16px
abbrev pub root_font : DeclaredLabel → ℤ
root_font x = font_of first_font first_font x.declared

-- A node with its computed style, where its font size is em and that of the root rem.
abbrev pub computed_label : ℤ → ℤ → DeclaredLabel → Label
computed_label em rem x = label_of x.name x.kind (computed_style em rem x.declared)

-- Trees below a node of the font size `parent`, in a document whose root has the font size `root`: a node that declares no font size has its
-- parent's (CSS Fonts 4, 2.5).
abbrev pub computed_trees : ℤ → ℤ → Trees DeclaredLabel → Trees Label
computed_trees parent root leafless = leafless
computed_trees parent root (tree x below after) =
    let font = font_of parent root x.declared in
    tree (computed_label font root x) (computed_trees font root below) (computed_trees parent root after)

-- The boxes of a document in its viewport.
abbrev pub boxes_of : ℤ → ℤ → DeclaredLabel → Trees DeclaredLabel → List Box
boxes_of width height x below =
    let font = root_font x in
    boxes width height (computed_label font font x) (computed_trees font font below)

-- ---- worked rows: the values of a style one by one, and the boxes of the labels that they make (a finite map does not compute)

-- A root of 20px: 2em and 1rem are columns of 40 and 20, and a gap of 0.5em is 10. Its child of 0.5em has a font size of 10px, so a margin of 1em
-- is 10.
root_of_20px : font_with first_font first_font (value.Size (size.Length (px 20))) (unit.Px ∷ []) ≡ px 20
root_of_20px = refl

its_columns : (computed_tracks (px 20) (px 20) (fixed 0 ∷ fixed 0 ∷ []) (unit.Em (pos 2000000) ∷
    unit.Em (pos 2000000) ∷ unit.Rem (pos 1000000) ∷ unit.Rem (pos 1000000) ∷ [])).0
    ≡ fixed 40 ∷ fixed 20 ∷ []
unfolding relative
its_columns = refl

its_gap : computed_size (px 20) (px 20) (size.Length (pos 0)) (unit.Em (pos 500000) ∷ []) ≡ px_size 10
unfolding relative
its_gap = refl

child_font : font_with (px 20) (px 20) (value.Size (size.Length (pos 0))) (unit.Em (pos 500000) ∷ []) ≡ px 10
unfolding relative
child_font = refl

child_margin : computed_size (px 10) (px 20) (size.Length (pos 0)) (unit.Em (pos 1000000) ∷ []) ≡ px_size 10
unfolding relative
child_margin = refl

by_fonts : boxes (px 300) (px 100)
    (grid main (record plain_grid { columns = record plain_axis { template = tracks (fixed 40 ∷ fixed 20 ∷ []); gap = px_size 10 } })
    plain_content)
    (side_by_side
    (leaf name_a (pos 0) (px 10) (record plain_grid { columns = record plain_axis { margin_start = Some (px 10) } }) plain_content ∷
    plain_leaf name_b 0 10 ∷ []))
    ≡ px_box main 0 0 300 10 ∷ px_box name_a 10 0 30 10 ∷ px_box name_b 50 0 20 10 ∷ []
unfolding clamp floor_div sized group_fitted spans_fitted handed_by_level left_flexible placed_by_rows
by_fonts = refl

-- 0.3em of 16px are 307.2 units, of which 307 count.
part_of_em : computed_size first_font first_font (size.Length (pos 0)) (unit.Em (pos 300000) ∷ []) ≡ size.Length (pos 307)
unfolding relative
part_of_em = refl

by_part : boxes (px 300) (px 100) (grid main plain_grid plain_content)
    (side_by_side
    (leaf name_p (pos 0) (px 10) plain_grid
    (record plain_content { inline = record plain_content_axis { size = size.Length (pos 307); own = aligned align_mode.Start } }) ∷
    []))
    ≡ px_box main 0 0 300 10 ∷ box name_p (pos 0) (pos 0) (pos 307) (px 10) ∷ []
unfolding clamp floor_div sized group_fitted spans_fitted handed_by_level left_flexible placed_by_rows
by_part = refl
