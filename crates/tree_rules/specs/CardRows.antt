-- A page of cards, worked by hand: a grid of subgrids in the rows, each with a flex container.
use Rattle.std.specs.Prelude.{◌≡◌, refl, ℕ, ◌+◌, ◌/◌, ◌%◌, zero, suc, false, List, [], ◌∷◌, ◌++◌, filter, replicate, bytes_eq, codes, ◌==◌, None, if◌then◌else◌}
use Rattle.std.specs.List.{list_any}
use Rattle.lunit.specs.Units.{clamp, floor_div}
use Rattle.part_rules.specs.FlexLines.{resolved}
use Rattle.part_rules.specs.Fractions.{left_flexible}
use Rattle.part_rules.specs.Placement.{placed_by_rows}
use Rattle.part_rules.specs.Sharing.{handed_by_level}
use Rattle.part_rules.specs.Tracks.{sized, group_fitted, spans_fitted}
use Rattle.plain_tree.specs.Trees.{Trees, leafless, tree}
use Rattle.style_types.specs.declared.track.Breadth.TheVariants as breadth
use Rattle.style_types.specs.declared.track.Template.TheVariants as template
use Rattle.style_types.specs.declared.value.AlignMode.TheVariants as align_mode
use Rattle.tree_rules.specs.Answers.{Box}
use Rattle.tree_rules.specs.Boxes.{boxes}
use Rattle.tree_rules.specs.Labels.{Label, plain_axis, plain_content, plain_content_axis, plain_grid}
use Rattle.tree_rules.specs.Samples.{px, px_size, track, fr, tracks, repeated, span, aligned, grid, flex, leaf, words, plain_leaf, side_by_side, px_box, main}

-- a letter and two digits
abbrev numbered : List ℕ → ℕ → List ℕ
numbered letter n = letter ++ (48 + n / 10) ∷ (48 + n % 10) ∷ []

-- A card: a title on one line, a text of so many words of 40, and a foot whose last item an `auto` margin moves to the end. It is a subgrid of
-- three rows.
abbrev card : ℕ → ℕ → Trees Label → Trees Label
card n count after =
    tree
    (grid (numbered (codes "c") n)
    (record plain_grid { rows = record plain_axis { template = template.Subgrid []; start_line = span 3; gap = px_size 4 } }) plain_content)
    (tree (words (numbered (codes "t") n) 20 5 (60 ∷ 70 ∷ []) plain_grid) leafless
    (tree (words (numbered (codes "p") n) 16 4 (replicate count 40) plain_grid) leafless
    (tree (flex (numbered (codes "f") n) (record plain_grid { columns = record plain_axis { gap = px_size 8 } }) plain_content)
    (side_by_side
    (plain_leaf (numbered (codes "x") n) 60 24 ∷
    leaf (numbered (codes "y") n) (px 60) (px 24) (record plain_grid { columns = record plain_axis { margin_start = None } })
    plain_content ∷ [])) leafless))) after

-- the cards from this one on, so many, of twelve words each, but the seventh has so many
abbrev cards_from : ℕ → ℕ → ℕ → Trees Label
cards_from seventh zero n = leafless
cards_from seventh (suc more) n = card n (if n == 7 then seventh else 12) (cards_from seventh more (n + 1))

-- A page: a head, and 24 cards in as many columns of at least 200 as fit.
abbrev page : ℕ → Trees Label
page seventh =
    tree
    (flex (codes "head") plain_grid
    (record plain_content {
      inline = record plain_content_axis { distribution = aligned align_mode.Between };
      block = record plain_content_axis
          { items = aligned align_mode.Center };
    }))
    (side_by_side (plain_leaf (codes "logo") 120 40 ∷ words (codes "nav") 20 5 (40 ∷ 50 ∷ 60 ∷ []) plain_grid ∷ []))
    (tree
    (grid (codes "cards")
    (record plain_grid {
      columns = record plain_axis
          { template = repeated false (track (breadth.Length (px 200)) (breadth.Flex 1000) ∷ []) ([] ∷ [] ∷ []) ([] ∷ [] ∷ []); gap = px_size 20 };
      rows = record plain_axis { gap = px_size 20 };
    }) plain_content) (cards_from seventh 24 1) leafless)

abbrev page_label : Label
page_label =
    grid main
    (record plain_grid {
      columns = record plain_axis { template = tracks (fr 1000 ∷ []); padding_start = px 10; padding_end = px 10 };
      rows = record plain_axis
          { gap = px_size 20; padding_start = px 10; padding_end = px 10 };
    }) plain_content

-- the boxes of these names
abbrev boxes_named : List (List ℕ) → List Box → List Box
boxes_named names all = filter (λ (b : Box). list_any (λ name. bytes_eq name b.0) names) all

-- 980 have room for four columns of 200 and three gaps of 20, and the columns are 230. Twelve words of 40 with spaces of 4 stand on three lines
-- of 16 at 230, five on each. The rows are 20, 48 and 24 of the cards, between which the cards have gaps of 4: together 100. A gap of 20 lies between the
-- rows of the grid, of which each card has 8 on each side of its own gaps. Six rows of cards and five gaps are 700.
first_page : boxes_named
    (main ∷ codes "head" ∷ codes "logo" ∷ codes "nav" ∷ codes "cards" ∷ codes "c01" ∷ codes "t01" ∷ codes "p01" ∷ codes "f01" ∷ codes "y01" ∷
    codes "c05" ∷ []) (boxes (px 1000) (px 600) page_label (page 12))
    ≡ px_box main 0 0 1000 780 ∷ px_box (codes "head") 10 10 980 40 ∷ px_box (codes "logo") 10 10 120 40 ∷ px_box (codes "nav") 830 20 160 20 ∷
    px_box (codes "cards") 10 70 980 700
    ∷ px_box (codes "c01") 10 70 230 100 ∷ px_box (codes "t01") 10 70 230 20 ∷ px_box (codes "p01") 10 94 230 48 ∷
    px_box (codes "f01") 10 146 230 24 ∷ px_box (codes "y01") 180 146 60 24 ∷ px_box (codes "c05") 10 190 230 100 ∷ []
unfolding clamp floor_div sized group_fitted spans_fitted handed_by_level left_flexible resolved placed_by_rows
first_page = refl

-- Seventeen words in the seventh card need a fourth line, so the second row of cards is 16 higher.
longer_text : boxes_named (main ∷ codes "cards" ∷ codes "c07" ∷ codes "p07" ∷ codes "f07" ∷ codes "p08" ∷ codes "c09" ∷ [])
    (boxes (px 1000) (px 600) page_label (page 17))
    ≡ px_box main 0 0 1000 796 ∷ px_box (codes "cards") 10 70 980 716 ∷ px_box (codes "c07") 510 190 230 116 ∷
    px_box (codes "p07") 510 214 230 64 ∷ px_box (codes "f07") 510 282 230 24 ∷ px_box (codes "p08") 760 214 230 64 ∷
    px_box (codes "c09") 10 326 230 100 ∷ []
unfolding clamp floor_div sized group_fitted spans_fitted handed_by_level left_flexible resolved placed_by_rows
longer_text = refl
