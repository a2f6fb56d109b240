-- Whole documents with flex containers, worked by hand.
use Rattle.std.specs.Prelude.{◌≡◌, refl, ℕ, ℤ, pos, true, List, [], ◌∷◌, None}
use Rattle.lunit.specs.Units.{clamp, floor_div}
use Rattle.part_rules.specs.FlexLines.{resolved}
use Rattle.part_rules.specs.Sharing.{handed_by_level}
use Rattle.plain_tree.specs.Trees.{Trees}
use Rattle.style_types.specs.declared.value.Size.TheVariants as size
use Rattle.tree_rules.specs.Boxes.{boxes}
use Rattle.tree_rules.specs.Labels.{ContentStyle, Label, plain_axis, plain_content, plain_content_axis, plain_grid}
use Rattle.tree_rules.specs.Samples.{px, px_size, flex, leaf, words, plain_leaf, side_by_side, px_box, main, name_a, name_b, name_c}

-- an item that grows from 0 by this factor
abbrev growing : List ℕ → ℕ → ContentStyle → Label
growing name factor c = leaf name (pos 0) (px 10) plain_grid (record c { grow = factor; basis = size.Length (pos 0) })

-- Two equal factors share 100; the first is limited to 30, and the second has the rest.
limited : boxes (px 100) (px 50) (flex main plain_grid plain_content)
    (side_by_side
    (growing name_a 1000 (record plain_content { inline = record plain_content_axis { most = px_size 30 } }) ∷
    growing name_b 1000 plain_content ∷ []))
    ≡ px_box main 0 0 100 10 ∷ px_box name_a 0 0 30 10 ∷ px_box name_b 30 0 70 10 ∷ []
unfolding clamp floor_div handed_by_level resolved
limited = refl

alone : boxes (px 100) (px 50) (flex main plain_grid plain_content) (side_by_side (growing name_b 1000 plain_content ∷ [])) ≡
    px_box main 0 0 100 10 ∷ px_box name_b 0 0 100 10 ∷ []
unfolding clamp floor_div handed_by_level resolved
alone = refl

-- A factor of 0.25 alone takes a quarter.
quarter : boxes (px 100) (px 50) (flex main plain_grid plain_content) (side_by_side (growing name_b 250 plain_content ∷ [])) ≡
    px_box main 0 0 100 10 ∷ px_box name_b 0 0 25 10 ∷ []
unfolding clamp floor_div handed_by_level resolved
quarter = refl

-- Three words of 40 with spaces of 5 are 130 wide, so at 100 they stand on two lines. The other item grows into what 20 and a gap of 10 leave
-- of 100, and is half as wide as the container.
column : boxes (px 100) (px 100)
    (flex main (record plain_grid { rows = record plain_axis { gap = px_size 10 } })
    (record plain_content { column = true; block = record plain_content_axis { size = px_size 100 } }))
    (side_by_side
    (words name_a 10 5 (40 ∷ 40 ∷ 40 ∷ []) plain_grid ∷
    leaf name_b (pos 0) (pos 0) plain_grid
    (record plain_content { grow = 1000; inline = record plain_content_axis { size = size.Percent 50000 } }) ∷ []))
    ≡ px_box main 0 0 100 100 ∷ px_box name_a 0 0 100 20 ∷ px_box name_b 0 30 50 70 ∷ []
unfolding clamp floor_div handed_by_level resolved
column = refl

-- three items, of which the second has this order
abbrev three_leaves : ℤ → Trees Label
three_leaves order =
    side_by_side
    (plain_leaf name_a 20 10 ∷ leaf name_c (px 10) (px 10) (record plain_grid { order = order }) plain_content ∷ plain_leaf name_b 30 10 ∷ [])

in_document_order : boxes (px 100) (px 50) (flex main plain_grid plain_content) (three_leaves (pos 0)) ≡
    px_box main 0 0 100 10 ∷ px_box name_a 0 0 20 10 ∷ px_box name_c 20 0 10 10 ∷ px_box name_b 30 0 30 10 ∷ []
unfolding clamp floor_div handed_by_level resolved
in_document_order = refl

-- Boxes are told in document order all the same.
last_in_order : boxes (px 100) (px 50) (flex main plain_grid plain_content) (three_leaves (pos 1)) ≡
    px_box main 0 0 100 10 ∷ px_box name_a 0 0 20 10 ∷ px_box name_c 50 0 10 10 ∷ px_box name_b 20 0 30 10 ∷ []
unfolding clamp floor_div handed_by_level resolved
last_in_order = refl

-- 60, a gap of 10 and 30 fill 100, and 40 more begin a second line, which lies a gap of 5 after the first one of 20. The item of 10 in that is
-- stretched to it.
wrapped : boxes (px 100) (px 100)
    (flex main (record plain_grid { columns = record plain_axis { gap = px_size 10 }; rows = record plain_axis { gap = px_size 5 } })
    (record plain_content { wrap = true })) (side_by_side (plain_leaf name_a 60 10 ∷ plain_leaf name_b 30 20 ∷ plain_leaf name_c 40 10 ∷ []))
    ≡ px_box main 0 0 100 35 ∷ px_box name_a 0 0 60 20 ∷ px_box name_b 70 0 30 20 ∷ px_box name_c 0 25 40 10 ∷ []
unfolding clamp floor_div handed_by_level resolved
wrapped = refl

-- Two items of 40 pass 60, and do not shrink below their content.
no_room : boxes (px 60) (px 50) (flex main plain_grid plain_content) (side_by_side (plain_leaf name_a 40 10 ∷ plain_leaf name_b 40 10 ∷ []))
    ≡ px_box main 0 0 60 10 ∷ px_box name_a 0 0 40 10 ∷ px_box name_b 40 0 40 10 ∷ []
unfolding clamp floor_div handed_by_level resolved
no_room = refl

-- A column of 100 by 100 that wraps: words of 40 and 40 with a space of 5 are fit to the content, so on one line of 10 they are 85 wide. The lines are
-- then stretched over 100, and so are the words; they keep the height.
stretched_to_line : boxes (px 100) (px 100)
    (flex main plain_grid (record plain_content { column = true; wrap = true; block = record plain_content_axis { size = px_size 100 } }))
    (side_by_side (words name_a 10 5 (40 ∷ 40 ∷ []) plain_grid ∷ []))
    ≡ px_box main 0 0 100 100 ∷ px_box name_a 0 0 100 10 ∷ []
unfolding clamp floor_div handed_by_level resolved
stretched_to_line = refl

-- An `auto` margin takes the rest of 100 before the content distribution, and of two across each takes half
-- of 30.
auto_margins : boxes (px 100) (px 40) (flex main plain_grid (record plain_content { block = record plain_content_axis { size = px_size 40 } }))
    (side_by_side
    (leaf name_a (px 20) (px 10)
    (record plain_grid
    { columns = record plain_axis { margin_start = None }; rows = record plain_axis { margin_start = None; margin_end = None } })
    plain_content ∷ []))
    ≡ px_box main 0 0 100 40 ∷ px_box name_a 80 15 20 10 ∷ []
unfolding clamp floor_div handed_by_level resolved
auto_margins = refl

-- With a minimum of 0 they shrink by equal parts.
shrunk : boxes (px 60) (px 50) (flex main plain_grid plain_content)
    (side_by_side
    (leaf name_a (px 40) (px 10) plain_grid (record plain_content { inline = record plain_content_axis { least = px_size 0 } }) ∷
    leaf name_b (px 40) (px 10) plain_grid (record plain_content { inline = record plain_content_axis { least = px_size 0 } }) ∷ []))
    ≡ px_box main 0 0 60 10 ∷ px_box name_a 0 0 30 10 ∷ px_box name_b 30 0 30 10 ∷ []
unfolding clamp floor_div handed_by_level resolved
shrunk = refl
