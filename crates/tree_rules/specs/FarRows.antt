-- Grids of thousands of tracks, worked by hand.
use Rattle.std.specs.Prelude.{◌≡◌, refl, pos, [], ◌∷◌}
use Rattle.lunit.specs.Units.{clamp, floor_div}
use Rattle.lunit.specs.declared.line_value.LineValue.TheVariants as line
use Rattle.part_rules.specs.Fractions.{left_flexible}
use Rattle.part_rules.specs.Placement.{placed_by_rows}
use Rattle.part_rules.specs.Sharing.{handed_by_level}
use Rattle.part_rules.specs.Tracks.{sized, group_fitted, spans_fitted}
use Rattle.tree_rules.specs.Boxes.{boxes}
use Rattle.tree_rules.specs.Labels.{GridStyle, plain_axis, plain_content, plain_grid}
use Rattle.tree_rules.specs.Samples.{px, px_size, fixed, number, span, from_to, grid, leaf, side_by_side, px_box, main, name_a, name_b}

-- automatic columns of 0 with gaps of 1
abbrev thin_columns : GridStyle
thin_columns = record plain_grid { columns = record plain_axis { autos = fixed 0 ∷ []; gap = px_size 1 } }

-- Line 20,000 lies past the limit, so the item stands in the last track before line 10,000, after 9,999 gaps.
far_column : boxes (px 100) (px 50) (grid main thin_columns plain_content)
    (side_by_side (leaf name_a (px 10) (px 10) (from_to (number (pos 20000)) line.Auto) plain_content ∷ []))
    ≡ px_box main 0 0 100 10 ∷ px_box name_a 9999 0 0 10 ∷ []
unfolding clamp floor_div sized group_fitted spans_fitted handed_by_level left_flexible placed_by_rows
far_column = refl

-- An item in the first row over these lines.
abbrev first_row : GridStyle → GridStyle
first_row g = record g { rows = record plain_axis { start_line = number (pos 1) } }

-- After an item over the first 9,999 tracks the next of two tracks is found at the lines 9,999 to 10,001, and cut to the last track.
past_the_limit : boxes (px 100) (px 50) (grid main (record thin_columns { rows = record plain_axis { autos = fixed 10 ∷ [] } }) plain_content)
    (side_by_side
    (leaf name_a (px 0) (px 10) (first_row (from_to (number (pos 1)) (span 9999))) plain_content ∷
    leaf name_b (px 0) (px 10) (first_row (from_to (span 2) line.Auto)) plain_content ∷ []))
    ≡ px_box main 0 0 100 10 ∷ px_box name_a 0 0 9998 10 ∷ px_box name_b 9999 0 0 10 ∷ []
unfolding clamp floor_div sized group_fitted spans_fitted handed_by_level left_flexible placed_by_rows
past_the_limit = refl
