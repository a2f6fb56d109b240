-- Whole documents of grids, worked by hand.
use Rattle.std.specs.Prelude.{◌≡◌, refl, ℕ, pos, negsuc, Bool, true, false, [], ◌∷◌, codes, Some, List, ℤ}
use Rattle.lunit.specs.Units.{clamp, floor_div}
use Rattle.lunit.specs.declared.geometry.Area.{Area}
use Rattle.lunit.specs.declared.line_value.LineValue.TheVariants as line
use Rattle.part_rules.specs.Fractions.{left_flexible}
use Rattle.part_rules.specs.Placement.{placed_by_rows}
use Rattle.part_rules.specs.Sharing.{handed_by_level}
use Rattle.part_rules.specs.Tracks.{sized, group_fitted, spans_fitted}
use Rattle.plain_tree.specs.Trees.{Trees, leafless, tree}
use Rattle.style_types.specs.declared.track.Breadth.TheVariants as breadth
use Rattle.style_types.specs.declared.value.AlignMode.TheVariants as align_mode
use Rattle.style_types.specs.declared.value.Size.TheVariants as size
use Rattle.tree_rules.specs.Boxes.{boxes}
use Rattle.tree_rules.specs.Labels.{GridStyle, Label, plain_axis, plain_content, plain_content_axis, plain_grid}
use Rattle.tree_rules.specs.Samples.{px, px_size, track, fixed, fr, auto, tracks, repeated, number, span, aligned, in_columns, with_gap, from_to, grid, leaf, words, plain_leaf, side_by_side, box, px_box, main, name_a, name_b, name_c, name_d, name_p, name_s}

-- Columns 100px and 1fr with a gap of 10 in a width of 300: the fraction has 300 - 100 - 10. Both children are stretched to the row of 30.
pixel_and_fr : boxes (px 300) (px 200) (grid main (with_gap (tracks (fixed 100 ∷ fr 1000 ∷ [])) 10) plain_content)
    (side_by_side (plain_leaf name_a 40 20 ∷ plain_leaf name_b 50 30 ∷ []))
    ≡ px_box main 0 0 300 30 ∷ px_box name_a 0 0 100 30 ∷ px_box name_b 110 0 190 30 ∷ []
unfolding clamp floor_div sized group_fitted spans_fitted handed_by_level left_flexible placed_by_rows
pixel_and_fr = refl

-- 6400 units by three fractions: 2133, 2133 and 2134.
three_fr : boxes (px 100) (px 50) (grid main (in_columns (tracks (fr 1000 ∷ fr 1000 ∷ fr 1000 ∷ []))) plain_content)
    (side_by_side (plain_leaf name_a 0 10 ∷ plain_leaf name_b 0 10 ∷ plain_leaf name_c 0 10 ∷ []))
    ≡ px_box main 0 0 100 10 ∷ box name_a (pos 0) (pos 0) (pos 2133) (px 10) ∷ box name_b (pos 2133) (pos 0) (pos 2133) (px 10) ∷
    box name_c (pos 4266) (pos 0) (pos 2134) (px 10) ∷ []
unfolding clamp floor_div sized group_fitted spans_fitted handed_by_level left_flexible placed_by_rows
three_fr = refl

-- Half of 100 is below the base size 80 of the first column: 20 are left for the other.
fr_below_base : boxes (px 100) (px 50) (grid main (in_columns (tracks (fr 1000 ∷ fr 1000 ∷ []))) plain_content)
    (side_by_side (plain_leaf name_a 80 10 ∷ plain_leaf name_b 0 10 ∷ []))
    ≡ px_box main 0 0 100 10 ∷ px_box name_a 0 0 80 10 ∷ px_box name_b 80 0 20 10 ∷ []
unfolding clamp floor_div sized group_fitted spans_fitted handed_by_level left_flexible placed_by_rows
fr_below_base = refl

-- An item of 6401 units over two columns: the odd unit goes to the first, which is 3201 wide.
odd_unit : boxes (px 300) (px 50)
    (grid main (in_columns (tracks (auto ∷ auto ∷ [])))
    (record plain_content { inline = record plain_content_axis { distribution = aligned align_mode.Start } }))
    (side_by_side
    (leaf name_a (pos 6401) (px 10) (from_to (number (pos 1)) (number (pos 3))) plain_content ∷ plain_leaf name_b 0 10 ∷
    plain_leaf name_c 0 10 ∷ []))
    ≡ px_box main 0 0 300 20 ∷ box name_a (pos 0) (pos 0) (pos 6401) (px 10) ∷ box name_b (pos 0) (px 10) (pos 3201) (px 10) ∷
    box name_c (pos 3201) (px 10) (pos 3200) (px 10) ∷ []
unfolding clamp floor_div sized group_fitted spans_fitted handed_by_level left_flexible placed_by_rows
odd_unit = refl

-- Two words of 60 with a space of 4 are 124 wide, capped by 80: so the column is 80 and the words stand on two lines of 20.
fit_content : boxes (px 300) (px 100)
    (grid main (in_columns (tracks (record { least = breadth.Auto; most = breadth.MaxContent; fit = Some (breadth.Length (px 80)) } ∷ [])))
    (record plain_content { inline = record plain_content_axis { distribution = aligned align_mode.Start } }))
    (side_by_side (words (codes "w") 20 4 (60 ∷ 60 ∷ []) plain_grid ∷ []))
    ≡ px_box main 0 0 300 40 ∷ px_box (codes "w") 0 0 80 40 ∷ []
unfolding clamp floor_div sized group_fitted spans_fitted handed_by_level left_flexible placed_by_rows
fit_content = refl

abbrev three_columns : Bool → GridStyle
three_columns dense = record plain_grid { columns = record plain_axis { template = tracks (fixed 100 ∷ fixed 100 ∷ fixed 100 ∷ []) }; dense = dense }

abbrev two_wide_one_narrow : Trees Label
two_wide_one_narrow =
    side_by_side
    (leaf name_a (pos 0) (px 10) (from_to (span 2) line.Auto) plain_content ∷
    leaf name_b (pos 0) (px 10) (from_to (span 2) line.Auto) plain_content ∷ plain_leaf name_c 0 10 ∷ [])

-- Two items of two columns stand in two rows, and the third follows the second.
sparse : boxes (px 300) (px 100) (grid main (three_columns false) plain_content) two_wide_one_narrow
    ≡ px_box main 0 0 300 20 ∷ px_box name_a 0 0 200 10 ∷ px_box name_b 0 10 200 10 ∷ px_box name_c 200 10 100 10 ∷ []
unfolding clamp floor_div sized group_fitted spans_fitted handed_by_level left_flexible placed_by_rows
sparse = refl

-- In dense mode it stands beside the first.
dense : boxes (px 300) (px 100) (grid main (three_columns true) plain_content) two_wide_one_narrow
    ≡ px_box main 0 0 300 20 ∷ px_box name_a 0 0 200 10 ∷ px_box name_b 0 10 200 10 ∷ px_box name_c 200 0 100 10 ∷ []
unfolding clamp floor_div sized group_fitted spans_fitted handed_by_level left_flexible placed_by_rows
dense = refl

-- 3 / 1 is swapped; of 2 / 2 the end is dropped; of two spans the end's; -1 is the last line, and the column after it has the automatic size.
line_conflicts : boxes (px 300) (px 100)
    (grid main (record plain_grid { columns = record plain_axis { template = tracks (fixed 100 ∷ fixed 100 ∷ []); autos = fixed 50 ∷ [] } })
    plain_content)
    (side_by_side
    (leaf name_a (pos 0) (px 10) (from_to (number (pos 3)) (number (pos 1))) plain_content ∷
    leaf name_b (pos 0) (px 10) (from_to (number (pos 2)) (number (pos 2))) plain_content ∷
    leaf name_c (pos 0) (px 10) (from_to (span 2) (span 3)) plain_content ∷
    leaf name_d (pos 0) (px 10) (from_to (number (negsuc 0)) line.Auto) plain_content ∷ []))
    ≡ px_box main 0 0 300 30 ∷ px_box name_a 0 0 200 10 ∷ px_box name_b 100 10 100 10 ∷ px_box name_c 0 20 200 10 ∷ px_box name_d 200 20 50 10 ∷ []
unfolding clamp floor_div sized group_fitted spans_fitted handed_by_level left_flexible placed_by_rows
line_conflicts = refl

-- 100 three times with two gaps of 10 fit 350; two of the tracks are empty and collapse with their gutters, and half of 250 lies before the one.
auto_fit : boxes (px 350) (px 50)
    (grid main (with_gap (repeated true (fixed 100 ∷ []) ([] ∷ [] ∷ []) ([] ∷ [] ∷ [])) 10)
    (record plain_content { inline = record plain_content_axis { distribution = aligned align_mode.Center } }))
    (side_by_side (plain_leaf name_a 0 10 ∷ []))
    ≡ px_box main 0 0 350 10 ∷ px_box name_a 125 0 100 10 ∷ []
unfolding clamp floor_div sized group_fitted spans_fitted handed_by_level left_flexible placed_by_rows
auto_fit = refl

-- A grid without children has no height.
empty_grid : boxes (px 300) (px 200) (grid main plain_grid plain_content) leafless ≡ px_box main 0 0 300 0 ∷ []
unfolding clamp floor_div sized group_fitted spans_fitted handed_by_level left_flexible placed_by_rows
empty_grid = refl

abbrev spread_columns : ℕ → Label
spread_columns width =
    grid main (in_columns (tracks (fixed width ∷ fixed width ∷ fixed width ∷ [])))
    (record plain_content { inline = record plain_content_axis { distribution = aligned align_mode.Between } })

abbrev three_leaves : Trees Label
three_leaves = side_by_side (plain_leaf name_a 0 10 ∷ plain_leaf name_b 0 10 ∷ plain_leaf name_c 0 10 ∷ [])

-- Three columns of 10 leave 70, of which half lies between each two.
space_between : boxes (px 100) (px 50) (spread_columns 10) three_leaves ≡
    px_box main 0 0 100 10 ∷ px_box name_a 0 0 10 10 ∷ px_box name_b 45 0 10 10 ∷ px_box name_c 90 0 10 10 ∷ []
unfolding clamp floor_div sized group_fitted spans_fitted handed_by_level left_flexible placed_by_rows
space_between = refl

-- Three of 40 pass the container, so they start at its start.
space_between_overflow : boxes (px 100) (px 50) (spread_columns 40) three_leaves ≡
    px_box main 0 0 100 10 ∷ px_box name_a 0 0 40 10 ∷ px_box name_b 40 0 40 10 ∷ px_box name_c 80 0 40 10 ∷ []
unfolding clamp floor_div sized group_fitted spans_fitted handed_by_level left_flexible placed_by_rows
space_between_overflow = refl

-- An item over two columns of 10 under `space-between`, which leaves 80 between them, is stretched over all 100: its words of 30 and 30 with a
-- space of 5 stand on one line of 20.
wide_by_space : boxes (px 100) (px 50)
    (grid main (in_columns (tracks (fixed 10 ∷ fixed 10 ∷ [])))
    (record plain_content { inline = record plain_content_axis { distribution = aligned align_mode.Between } }))
    (side_by_side (words name_a 20 5 (30 ∷ 30 ∷ []) (from_to (span 2) line.Auto) ∷ []))
    ≡ px_box main 0 0 100 20 ∷ px_box name_a 0 0 100 20 ∷ []
unfolding clamp floor_div sized group_fitted spans_fitted handed_by_level left_flexible placed_by_rows
wide_by_space = refl

-- 50% of 91, which is 101 less two paddings of 5, is 45.5px or 2912 units; 20% of that is 582, and half of the rest 1165 lies before the item. A
-- row of 10 stands in the middle of 50.
percentages : boxes (px 101) (px 100)
    (grid main
    (record plain_grid {
      columns = record plain_axis
          { template = tracks (track (breadth.Percent 50000) (breadth.Percent 50000) ∷ []); padding_start = px 5; padding_end = px 5 };
      rows
          = record plain_axis { padding_start = px 5; padding_end = px 5 };
    })
    (record plain_content { block = record plain_content_axis { size = px_size 50; distribution = aligned align_mode.Center } }))
    (side_by_side
    (leaf name_a (px 10) (px 10) plain_grid
    (record plain_content { inline = record plain_content_axis { size = size.Percent 20000; own = aligned align_mode.Center } }) ∷ []))
    ≡ px_box main 0 0 101 60 ∷ box name_a (pos 1485) (px 25) (pos 582) (px 10) ∷ []
unfolding clamp floor_div sized group_fitted spans_fitted handed_by_level left_flexible placed_by_rows
percentages = refl

-- Items at their lines of fixed tracks: the first over both columns of the first row, the second in the last cell.
placed_at_lines : boxes (px 300) (px 200)
    (grid main
    (record plain_grid {
      columns = record plain_axis { template = tracks (fixed 100 ∷ fixed 50 ∷ []) };
      rows = record plain_axis
          { template = tracks (fixed 20 ∷ fixed 30 ∷ []) };
    }) plain_content)
    (side_by_side
    (leaf name_a (px 10) (px 10)
    (record plain_grid {
      columns = record plain_axis { start_line = number (pos 1); end_line = number (pos 3) };
      rows = record plain_axis
          { start_line = number (pos 1); end_line = number (pos 2) };
    }) plain_content ∷
    leaf name_b (px 10) (px 10)
    (record plain_grid {
      columns = record plain_axis { start_line = number (pos 2); end_line = number (pos 3) };
      rows = record plain_axis
          { start_line = number (pos 2); end_line = number (pos 3) };
    }) plain_content ∷ []))
    ≡ px_box main 0 0 300 50 ∷ px_box name_a 0 0 150 20 ∷ px_box name_b 100 20 50 30 ∷ []
unfolding clamp floor_div sized group_fitted spans_fitted handed_by_level left_flexible placed_by_rows
placed_at_lines = refl

-- Three tracks of 100 with gaps of 10 fit 350. The second is empty and collapses, so the item in the third stands one gap after the first.
collapsed_between : boxes (px 350) (px 50)
    (grid main
    (record plain_grid {
      columns = record plain_axis
          { template = repeated true (fixed 100 ∷ []) ([] ∷ [] ∷ []) ([] ∷ [] ∷ []); gap = px_size 10; autos = fixed 50 ∷ [] };
      rows =
          record plain_axis { autos = fixed 10 ∷ [] };
    }) plain_content)
    (side_by_side (plain_leaf name_a 0 10 ∷ leaf name_b (pos 0) (px 10) (from_to (number (pos 3)) line.Auto) plain_content ∷ []))
    ≡ px_box main 0 0 350 10 ∷ px_box name_a 0 0 100 10 ∷ px_box name_b 110 0 100 10 ∷ []
unfolding clamp floor_div sized group_fitted spans_fitted handed_by_level left_flexible placed_by_rows
collapsed_between = refl

-- an item at a named area
abbrev in_area : List ℕ → GridStyle
in_area name =
    record plain_grid {
      columns = record plain_axis { start_line = line.Named name; end_line = line.Named name };
      rows = record plain_axis
          { start_line = line.Named name; end_line = line.Named name };
    }

-- the cells of an area
abbrev cells : ℤ → ℤ → ℤ → ℤ → Area
cells a b c d = record { columns = record { start = a; end = b }; rows = record { start = c; end = d } }

-- Areas `a a` over `b c`: the rows that they make have the automatic size of 10.
named_areas : boxes (px 300) (px 50)
    (grid main
    (record plain_grid {
      columns = record plain_axis { template = tracks (fixed 50 ∷ fixed 70 ∷ []); autos = fixed 1 ∷ [] };
      rows = record plain_axis
          { autos = fixed 10 ∷ [] };
      areas = Some
          (record {
            columns = 2;
            rows = 2;
            named = (name_a, cells (pos 0) (pos 2) (pos 0) (pos 1)) ∷
                (name_b, cells (pos 0) (pos 1) (pos 1) (pos 2)) ∷ (name_c, cells (pos 1) (pos 2) (pos 1) (pos 2)) ∷ [];
          });
    })
    plain_content)
    (side_by_side (leaf name_p (px 1) (px 1) (in_area name_c) plain_content ∷ leaf name_s (px 1) (px 1) (in_area name_a) plain_content ∷ []))
    ≡ px_box main 0 0 300 20 ∷ px_box name_p 50 10 70 10 ∷ px_box name_s 0 0 120 10 ∷ []
unfolding clamp floor_div sized group_fitted spans_fitted handed_by_level left_flexible placed_by_rows
named_areas = refl

-- A grid in a grid, with a leaf of 10 by 10: each is as high as its content and as wide as the viewport.
nested : boxes (px 100) (px 50) (grid main plain_grid plain_content)
    (tree (grid name_a plain_grid plain_content) (side_by_side (plain_leaf (codes "a1") 10 10 ∷ [])) leafless)
    ≡ px_box main 0 0 100 10 ∷ px_box name_a 0 0 100 10 ∷ px_box (codes "a1") 0 0 100 10 ∷ []
unfolding clamp floor_div sized group_fitted spans_fitted handed_by_level left_flexible placed_by_rows
nested = refl
