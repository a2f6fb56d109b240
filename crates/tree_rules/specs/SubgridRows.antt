-- Whole documents with subgrids, worked by hand.
use Rattle.std.specs.Prelude.{◌≡◌, refl, pos, negsuc, false, [], ◌∷◌, codes, Some, None}
use Rattle.lunit.specs.Units.{clamp, floor_div}
use Rattle.lunit.specs.declared.line_value.LineValue.{LineValue}
use Rattle.lunit.specs.declared.line_value.LineValue.TheVariants as line
use Rattle.part_rules.specs.FlexLines.{resolved}
use Rattle.part_rules.specs.Fractions.{left_flexible}
use Rattle.part_rules.specs.Placement.{placed_by_rows}
use Rattle.part_rules.specs.Sharing.{handed_by_level}
use Rattle.part_rules.specs.Tracks.{sized, group_fitted, spans_fitted}
use Rattle.plain_tree.specs.Trees.{Trees, leafless, tree}
use Rattle.style_types.specs.declared.track.Template.TheVariants as template
use Rattle.style_types.specs.declared.value.AlignMode.TheVariants as align_mode
use Rattle.tree_rules.specs.Boxes.{boxes}
use Rattle.tree_rules.specs.Labels.{GridAxis, GridStyle, Label, plain_axis, plain_content, plain_content_axis, plain_grid}
use Rattle.tree_rules.specs.Samples.{px, px_size, aligned, auto, fixed, tracks, named_tracks, repeated, number, span, in_columns, with_gap, from_to, grid, flex, leaf, plain_leaf, side_by_side, px_box, main, name_a, name_b, name_c, name_p, name_s}

-- a subgrid in the columns between these lines
abbrev subgrid_at : LineValue → LineValue → GridAxis
subgrid_at start end = record plain_axis { template = template.Subgrid []; start_line = start; end_line = end }

-- Gaps of 10 and 20 differ by 10, of which half lies on each side: the second track begins at 115.
subgrid_gap : boxes (px 300) (px 50)
    (grid main (with_gap (named_tracks (name_a ∷ name_b ∷ name_c ∷ []) (fixed 100 ∷ fixed 100 ∷ [])) 10) plain_content)
    (tree
    (grid name_s (record plain_grid { columns = record (subgrid_at (line.Named name_a) (line.Named name_c)) { gap = px_size 20 } })
    plain_content) (side_by_side (leaf name_p (pos 0) (px 10) (from_to (line.Named name_b) (line.Named name_c)) plain_content ∷ []))
    leafless)
    ≡ px_box main 0 0 300 10 ∷ px_box name_s 0 0 210 10 ∷ px_box name_p 115 0 95 10 ∷ []
unfolding clamp floor_div sized group_fitted spans_fitted handed_by_level left_flexible placed_by_rows
subgrid_gap = refl

abbrev repeating : Label
repeating =
    grid (codes "g") (in_columns (repeated false (fixed 100 ∷ []) ((name_a ∷ []) ∷ [] ∷ []) ([] ∷ (codes "z" ∷ []) ∷ [])))
    (record plain_content { grow = 1000 })

abbrev below_repeating : Trees Label
below_repeating =
    tree repeating
    (tree (grid name_s (record plain_grid { columns = subgrid_at (number (pos 1)) (number (negsuc 0)) }) plain_content)
    (side_by_side (leaf name_p (px 10) (px 10) (from_to (line.Line (negsuc 0) (Some name_a)) line.Auto) plain_content ∷ [])) leafless)
    leafless

-- Three tracks of 100 fit 350, and the last line `a` is the start of the third; of 240 only two fit.
repeated_names : boxes (px 350) (px 100) (flex main plain_grid plain_content) below_repeating
    ≡ px_box main 0 0 350 10 ∷ px_box (codes "g") 0 0 350 10 ∷ px_box name_s 0 0 300 10 ∷ px_box name_p 200 0 100 10 ∷ []
unfolding clamp floor_div sized group_fitted spans_fitted handed_by_level left_flexible resolved placed_by_rows
repeated_names = refl

repeated_names_narrow : boxes (px 240) (px 100) (flex main plain_grid plain_content) below_repeating
    ≡ px_box main 0 0 240 10 ∷ px_box (codes "g") 0 0 240 10 ∷ px_box name_s 0 0 200 10 ∷ px_box name_p 100 0 100 10 ∷ []
unfolding clamp floor_div sized group_fitted spans_fitted handed_by_level left_flexible resolved placed_by_rows
repeated_names_narrow = refl

-- four columns with the lines a, b, a and b; a subgrid of two columns in a subgrid has an item at the first line `b`
abbrev names_lent : GridStyle → Trees Label
names_lent first =
    tree (leaf name_b (px 10) (px 10) first plain_content) leafless
    (tree (grid name_s (record plain_grid { columns = subgrid_at (span 2) line.Auto }) plain_content)
    (tree (grid (codes "t") (record plain_grid { columns = subgrid_at (number (pos 1)) (number (negsuc 0)) }) plain_content)
    (side_by_side (leaf name_p (px 5) (px 5) (from_to (line.Named name_b) line.Auto) plain_content ∷ [])) leafless) leafless)

abbrev four_columns : Label
four_columns =
    grid main
    (in_columns
    (template.Tracks
    (record {
      sizes = fixed 50 ∷ fixed 50 ∷ fixed 50 ∷ fixed 50 ∷ [];
      names = (name_a ∷ []) ∷ (name_b ∷ []) ∷ (name_a ∷ []) ∷ (name_b ∷ []) ∷
          [] ∷ [];
      repeat = None;
    }))) plain_content

-- Beside an item of one column the subgrids span the lines b, a and b, and the item stands in the first of their tracks.
lent_names : boxes (px 300) (px 100) four_columns (names_lent plain_grid)
    ≡ px_box main 0 0 300 10 ∷ px_box name_b 0 0 50 10 ∷ px_box name_s 50 0 100 10 ∷ px_box (codes "t") 50 0 100 10 ∷ px_box name_p 50 0 50 10 ∷ []
unfolding clamp floor_div sized group_fitted spans_fitted handed_by_level left_flexible placed_by_rows
lent_names = refl

-- Beside one of two columns they span a and b and the last line, and it stands in the second.
lent_names_move : boxes (px 300) (px 100) four_columns (names_lent (from_to (number (pos 1)) (number (pos 3))))
    ≡ px_box main 0 0 300 10 ∷ px_box name_b 0 0 100 10 ∷ px_box name_s 100 0 100 10 ∷ px_box (codes "t") 100 0 100 10 ∷ px_box name_p 150 0 50 10 ∷ []
unfolding clamp floor_div sized group_fitted spans_fitted handed_by_level left_flexible placed_by_rows
lent_names_move = refl

-- Two `auto` columns at the start of the width. The subgrid lends its items of 20 and 30; the first has the padding of 10 beside it as an extra
-- margin, so each column is 30.
padding_lent : boxes (px 300) (px 100)
    (grid main (in_columns (tracks (auto ∷ auto ∷ [])))
    (record plain_content { inline = record plain_content_axis { distribution = aligned align_mode.Start } }))
    (tree (grid name_s (record plain_grid { columns = record (subgrid_at (span 2) line.Auto) { padding_start = px 10 } }) plain_content)
    (side_by_side (plain_leaf name_p 20 10 ∷ plain_leaf (codes "q") 30 10 ∷ [])) leafless)
    ≡ px_box main 0 0 300 10 ∷ px_box name_s 0 0 60 10 ∷ px_box name_p 10 0 20 10 ∷ px_box (codes "q") 30 0 30 10 ∷ []
unfolding clamp floor_div sized group_fitted spans_fitted handed_by_level left_flexible placed_by_rows
padding_lent = refl

-- A subgrid of one column that has nothing but margins of 7 and a padding of 5 makes its column 12 wide by itself, and stands 7 from its start.
empty_subgrid : boxes (px 100) (px 100)
    (grid main (in_columns (tracks (auto ∷ [])))
    (record plain_content { inline = record plain_content_axis { distribution = aligned align_mode.Start } }))
    (tree
    (grid name_s
    (record plain_grid { columns = record (subgrid_at (number (pos 1)) line.Auto) { margin_start = Some (px 7); padding_end = px 5 } })
    plain_content) leafless leafless)
    ≡ px_box main 0 0 100 0 ∷ px_box name_s 7 0 5 0 ∷ []
unfolding clamp floor_div sized group_fitted spans_fitted handed_by_level left_flexible placed_by_rows
empty_subgrid = refl

-- a subgrid of two rows with a gap of 4
abbrev row_subgrid : GridStyle
row_subgrid = record plain_grid { rows = record (subgrid_at (span 2) line.Auto) { gap = px_size 4 } }

-- Subgrids in the rows share them: the leaves of 10 and 26 have beside them 2 as half of the gap of 4, which makes the first row 28, and those of
-- 10 and 6 make the second 12. The first row is seen as 26 high, and the second begins at 30.
shared_rows : boxes (px 100) (px 100) (grid main (in_columns (tracks (fixed 50 ∷ fixed 50 ∷ []))) plain_content)
    (tree (grid name_a row_subgrid plain_content) (side_by_side (plain_leaf name_p 10 10 ∷ plain_leaf (codes "q") 10 10 ∷ []))
    (tree (grid name_b row_subgrid plain_content) (side_by_side (plain_leaf (codes "r") 10 26 ∷ plain_leaf name_s 10 6 ∷ [])) leafless))
    ≡ px_box main 0 0 100 40 ∷ px_box name_a 0 0 50 40 ∷ px_box name_p 0 0 50 26 ∷ px_box (codes "q") 0 30 50 10 ∷ px_box name_b 50 0 50 40 ∷
    px_box (codes "r") 50 0 50 26 ∷ px_box name_s 50 30 50 10 ∷ []
unfolding clamp floor_div sized group_fitted spans_fitted handed_by_level left_flexible placed_by_rows
shared_rows = refl
