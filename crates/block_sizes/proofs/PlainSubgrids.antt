-- A subgrid without margins, borders and paddings: its border box and its content box are its area.
use Rattle.std.proofs.Common.{arith, rules, ap, sym, ◌≡◌, ◌∙◌, ℕ, ℤ, pos, ◌+ℤ◌, ◌-ℤ◌, ◌≤ℤ◌, true, false, ◌&&◌, List, Option, Some, None, int_le, true≢false}
use Rattle.std.specs.Int.{int_max, int_min}
use Rattle.std.proofs.lemmas.Bool.{and_parts}
use Rattle.std.proofs.lemmas.Int.{ints, int_max_is, int_min_is}
use Rattle.lunit.specs.Units.{IsUnits, bottom, top, clamp}
use Rattle.lunit.specs.declared.geometry.Span.{Span}
use Rattle.part_rules.specs.declared.view.View.{View}
use Rattle.part_rules.specs.Views.{area_size, content_size, tracks_over, view_of}
use Rattle.tree_rules.specs.Distribution.{subgrid_box, view_in}
use Rattle.tree_rules.specs.Labels.{ContentAxis, GridAxis}
use Rattle.tree_rules.specs.NodeSizes.{inner, inner_end, inner_start, margin, margins, outer_end, outer_start}
use Rattle.tree_rules.specs.Repetitions.{gap_by}
use Rattle.inline_sizes.specs.Plains.{has_no_inner, has_no_margins, has_no_size, is_no_margin, is_plain, is_zero}
use Rattle.block_sizes.specs.Sharing.{HasNoSides}

le_from : (a b : ℤ) → int_le a b ≡ true → a ≤ℤ b
le_from a b h = search rules

zero_is : (z : ℤ) → is_zero z ≡ true → z ≡ pos 0
zero_is z h = omega (arith, ints, le_from z (pos 0) ((and_parts (int_le z (pos 0)) (int_le (pos 0) z) h).0), le_from (pos 0) z ((and_parts (int_le z (pos 0)) (int_le (pos 0) z) h).1))

margin_is : (m : Option ℤ) → is_no_margin m ≡ true → margin m ≡ pos 0
margin_is None h = absurd (true≢false (sym h))
margin_is (Some z) h = zero_is z h

module _ (g : GridAxis) (c : ContentAxis) (h : is_plain g c ≡ true) where
  inners : has_no_inner g ≡ true
  inners = (and_parts (has_no_size c) (has_no_inner g) ((and_parts (has_no_size c && has_no_inner g) (has_no_margins g) h).0)).1

  outers : has_no_margins g ≡ true
  outers = (and_parts (has_no_size c && has_no_inner g) (has_no_margins g) h).1

  starts : ((is_zero g.border_start && is_zero g.border_end) && is_zero g.padding_start) ≡ true
  starts = (and_parts ((is_zero g.border_start && is_zero g.border_end) && is_zero g.padding_start) (is_zero g.padding_end) inners).0

  borders : (is_zero g.border_start && is_zero g.border_end) ≡ true
  borders = (and_parts (is_zero g.border_start && is_zero g.border_end) (is_zero g.padding_start) starts).0

  inner_before : inner_start g ≡ pos 0
  inner_before =
      let border : g.border_start ≡ pos 0 = zero_is g.border_start ((and_parts (is_zero g.border_start) (is_zero g.border_end) borders).0) in
      let padding : g.padding_start ≡ pos 0 = zero_is g.padding_start ((and_parts (is_zero g.border_start && is_zero g.border_end) (is_zero g.padding_start) starts).1) in
      λ i. border i +ℤ padding i

  inner_after : inner_end g ≡ pos 0
  inner_after =
      let border : g.border_end ≡ pos 0 = zero_is g.border_end ((and_parts (is_zero g.border_start) (is_zero g.border_end) borders).1) in
      let padding : g.padding_end ≡ pos 0 =
      zero_is g.padding_end ((and_parts ((is_zero g.border_start && is_zero g.border_end) && is_zero g.padding_start) (is_zero g.padding_end) inners).1) in
      λ i. border i +ℤ padding i

  margin_before : margin g.margin_start ≡ pos 0
  margin_before = margin_is g.margin_start ((and_parts (is_no_margin g.margin_start) (is_no_margin g.margin_end) outers).0)

  margin_after : margin g.margin_end ≡ pos 0
  margin_after = margin_is g.margin_end ((and_parts (is_no_margin g.margin_start) (is_no_margin g.margin_end) outers).1)

  pub no_sides : HasNoSides g
  no_sides = record {
    start = λ i. margin_before i +ℤ inner_before i;
    end = λ i. margin_after i +ℤ inner_after i;
    inner = λ i. inner_before i +ℤ inner_after i;
    margins = λ i. margin_before i +ℤ margin_after i;
  }

-- ---- its boxes

fits_content : (z : ℤ) → IsUnits z → pos 0 ≤ℤ z → z ≡ clamp (int_max (pos 0) (z -ℤ pos 0 -ℤ pos 0))
unfolding clamp
fits_content z u h =
    omega (arith, ints, u.0, u.1, h, int_max_is (pos 0) (z -ℤ pos 0 -ℤ pos 0), int_min_is top (int_max (pos 0) (z -ℤ pos 0 -ℤ pos 0)), int_max_is bottom (int_min top (int_max (pos 0) (z -ℤ pos 0 -ℤ pos 0))))

fits_box : (z : ℤ) → IsUnits z → pos 0 ≤ℤ z → z ≡ clamp (int_max (pos 0) (z -ℤ pos 0))
unfolding clamp
fits_box z u h =
    omega (arith, ints, u.0, u.1, h, int_max_is (pos 0) (z -ℤ pos 0), int_min_is top (int_max (pos 0) (z -ℤ pos 0)), int_max_is bottom (int_min top (int_max (pos 0) (z -ℤ pos 0))))

pub content_is : (tracks : List (ℤ × ℤ)) (room before after : ℤ) → IsUnits room → pos 0 ≤ℤ room → room ≡ area_size tracks → before ≡ pos 0 → after ≡ pos 0 → room ≡ content_size tracks before after
content_is tracks room before after u h e b a = fits_content room u h ∙ (λ i. clamp (int_max (pos 0) (e i -ℤ sym b i -ℤ sym a i)))

pub box_is : (g : GridAxis) (tracks : List (ℤ × ℤ)) (room : ℤ) → HasNoSides g → IsUnits room → pos 0 ≤ℤ room → room ≡ area_size tracks → room ≡ subgrid_box g (area_size tracks)
box_is g tracks room s u h e = fits_box room u h ∙ (λ i. clamp (int_max (sym s.inner i) (e i -ℤ sym s.margins i)))

-- ---- its view

pub view_is : {axis : ℕ} (outer : View axis) (span : Span) (g : GridAxis) (content before after gap : ℤ) → content ≡ content_size (tracks_over outer.edges span) before after → before ≡ outer_start g → after ≡ outer_end g
    → gap ≡ gap_by (Some content) outer.gap g.gap → view_of outer span gap before after ≡ view_in outer span g
view_is outer span g content before after gap e b a k =
    let content_by : content ≡ content_size (tracks_over outer.edges span) (outer_start g) (outer_end g) = e ∙ (λ i. content_size (tracks_over outer.edges span) (b i) (a i)) in
    let gap_is : gap ≡ gap_by (Some (content_size (tracks_over outer.edges span) (outer_start g) (outer_end g))) outer.gap g.gap = k ∙ ap (λ z. gap_by (Some z) outer.gap g.gap) content_by in
    λ i. view_of outer span (gap_is i) (b i) (a i)
