-- Nodes without margins, borders, paddings and declared sizes along an axis: their sizes and what they are as items.
use Rattle.std.proofs.Common.{arith, rules, ap, sym, refl, ◌≡◌, ◌∙◌, ℤ, pos, ◌+ℤ◌, ◌-ℤ◌, ◌≤ℤ◌, Bool, true, false, ◌&&◌, [], Option, Some, None, int_le, true≢false}
use Rattle.std.specs.Int.{int_max, int_min}
use Rattle.std.proofs.Math.Bool.{and-true}
use Rattle.std.proofs.lemmas.Bool.{and_parts}
use Rattle.std.proofs.lemmas.Int.{ints, int_max_is, int_min_is}
use Rattle.lunit.specs.Units.{IsUnits, bottom, top, clamp}
use Rattle.lunit.specs.declared.geometry.Span.{Span}
use Rattle.lunit.specs.declared.item.Floor.TheVariants.{Known, Content}
use Rattle.style_types.specs.declared.value.Align.{Align}
use Rattle.style_types.specs.declared.value.Size.{Size}
use Rattle.style_types.specs.declared.value.Size.TheVariants as keyword
use Rattle.tree_rules.specs.Labels.{ContentAxis, GridAxis}
use Rattle.tree_rules.specs.LentItems.{child_item, extra_margins, lifted}
use Rattle.tree_rules.specs.NodeSizes.{block_used, bounds_of, content_of_box, contribution, fitted, floor_of, inline_used, inner, is_auto, is_stretched, margin, margins, stretches}
use Rattle.inline_sizes.specs.Plains.{IsPlain, has_no_inner, has_no_margins, has_no_size, is_absent, is_no_margin, is_plain, is_zero, no_bounds, plain_item}

-- ---- what the test says

le_from : (a b : ℤ) → int_le a b ≡ true → a ≤ℤ b
le_from a b h = search rules

zero_is : (z : ℤ) → is_zero z ≡ true → z ≡ pos 0
zero_is z h = omega (arith, ints, le_from z (pos 0) ((and_parts (int_le z (pos 0)) (int_le (pos 0) z) h).0), le_from (pos 0) z ((and_parts (int_le z (pos 0)) (int_le (pos 0) z) h).1))

margin_is : (m : Option ℤ) → is_no_margin m ≡ true → m ≡ Some (pos 0)
margin_is None h = absurd (true≢false (sym h))
margin_is (Some z) h = ap Some (zero_is z h)

auto_is : (s : Size) → is_auto s ≡ true → s ≡ keyword.Auto
auto_is keyword.Auto h = refl
auto_is keyword.Absent h = absurd (true≢false (sym h))
auto_is keyword.Normal h = absurd (true≢false (sym h))
auto_is keyword.Content h = absurd (true≢false (sym h))
auto_is (keyword.Length x) h = absurd (true≢false (sym h))
auto_is (keyword.Percent t) h = absurd (true≢false (sym h))

absent_is : (s : Size) → is_absent s ≡ true → s ≡ keyword.Absent
absent_is keyword.Auto h = absurd (true≢false (sym h))
absent_is keyword.Absent h = refl
absent_is keyword.Normal h = absurd (true≢false (sym h))
absent_is keyword.Content h = absurd (true≢false (sym h))
absent_is (keyword.Length x) h = absurd (true≢false (sym h))
absent_is (keyword.Percent t) h = absurd (true≢false (sym h))

module _ (g : GridAxis) (c : ContentAxis) (h : is_plain g c ≡ true) where
  sizes : has_no_size c ≡ true
  sizes = (and_parts (has_no_size c) (has_no_inner g) ((and_parts (has_no_size c && has_no_inner g) (has_no_margins g) h).0)).0

  inners : has_no_inner g ≡ true
  inners = (and_parts (has_no_size c) (has_no_inner g) ((and_parts (has_no_size c && has_no_inner g) (has_no_margins g) h).0)).1

  outers : has_no_margins g ≡ true
  outers = (and_parts (has_no_size c && has_no_inner g) (has_no_margins g) h).1

  size : c.size ≡ keyword.Auto
  size = auto_is c.size ((and_parts (is_auto c.size) (is_auto c.least) ((and_parts (is_auto c.size && is_auto c.least) (is_absent c.most) sizes).0)).0)

  least : c.least ≡ keyword.Auto
  least = auto_is c.least ((and_parts (is_auto c.size) (is_auto c.least) ((and_parts (is_auto c.size && is_auto c.least) (is_absent c.most) sizes).0)).1)

  most : c.most ≡ keyword.Absent
  most = absent_is c.most ((and_parts (is_auto c.size && is_auto c.least) (is_absent c.most) sizes).1)

  borders : (is_zero g.border_start && is_zero g.border_end) ≡ true
  borders =
      (and_parts (is_zero g.border_start && is_zero g.border_end) (is_zero g.padding_start) ((and_parts ((is_zero g.border_start && is_zero g.border_end) && is_zero g.padding_start) (is_zero g.padding_end) inners).0)).0

  border_start : g.border_start ≡ pos 0
  border_start = zero_is g.border_start ((and_parts (is_zero g.border_start) (is_zero g.border_end) borders).0)

  border_end : g.border_end ≡ pos 0
  border_end = zero_is g.border_end ((and_parts (is_zero g.border_start) (is_zero g.border_end) borders).1)

  padding_start : g.padding_start ≡ pos 0
  padding_start =
      zero_is g.padding_start
      ((and_parts (is_zero g.border_start && is_zero g.border_end) (is_zero g.padding_start) ((and_parts ((is_zero g.border_start && is_zero g.border_end) && is_zero g.padding_start) (is_zero g.padding_end) inners).0)).1)

  padding_end : g.padding_end ≡ pos 0
  padding_end = zero_is g.padding_end ((and_parts ((is_zero g.border_start && is_zero g.border_end) && is_zero g.padding_start) (is_zero g.padding_end) inners).1)

  margin_start : g.margin_start ≡ Some (pos 0)
  margin_start = margin_is g.margin_start ((and_parts (is_no_margin g.margin_start) (is_no_margin g.margin_end) outers).0)

  margin_end : g.margin_end ≡ Some (pos 0)
  margin_end = margin_is g.margin_end ((and_parts (is_no_margin g.margin_start) (is_no_margin g.margin_end) outers).1)

  no_bounds_by : (base : Option ℤ) (border_box : Bool) → bounds_of base border_box g c ≡ no_bounds
  no_bounds_by base border_box =
      λ i. bounds_of base border_box (record g { border_start = border_start i; border_end = border_end i; padding_start = padding_start i; padding_end = padding_end i }) (record c { size = size i; least = least i; most = most i })

  no_margins : margins g ≡ pos 0
  no_margins = λ i. margin (margin_start i) +ℤ margin (margin_end i)

  stretched_by : (a : Align) → is_stretched a g c ≡ (stretches a.mode && true)
  stretched_by a = λ i. is_stretched a (record g { margin_start = margin_start i; margin_end = margin_end i }) (record c { size = size i })

  pub plain_is : IsPlain g c
  plain_is = record { bounds = no_bounds_by; margins = no_margins; least = least; stretched = λ a. stretched_by a ∙ and-true (stretches a.mode) }

-- ---- its sizes

-- a content that has no declared size, as a contribution without margins
pub free_contribution : (z : ℤ) → IsUnits z → int_max (pos 0) z ≡ contribution no_bounds (pos 0) z
unfolding clamp
free_contribution z h =
    omega (
      arith,
      ints,
      h.0,
      h.1,
      int_max_is (pos 0) z,
      int_max_is (pos 0) (z +ℤ pos 0),
      int_max_is (pos 0) (int_max (pos 0) (z +ℤ pos 0)),
      int_min_is top (pos 0 +ℤ int_max (pos 0) (int_max (pos 0) (z +ℤ pos 0))),
      int_max_is bottom
          (int_min top (pos 0 +ℤ int_max (pos 0) (int_max (pos 0) (z +ℤ pos 0)))),
    )

free_content : (z : ℤ) → IsUnits z → z ≡ clamp (z +ℤ pos 0)
unfolding clamp
free_content z h = omega (arith, ints, h.0, h.1, int_min_is top (z +ℤ pos 0), int_max_is bottom (int_min top (z +ℤ pos 0)))

no_length : pos 0 ≡ clamp (pos 0)
unfolding clamp
no_length = refl

-- its minimum
scroll_floor : (z : ℤ) → Known (pos 0) ≡ floor_of keyword.Auto true no_bounds (pos 0) z
scroll_floor z = ap Known no_length

pub scrolling_floor : (scrolls : Bool) (nothing z : ℤ) → scrolls ≡ true → nothing ≡ pos 0 → Known nothing ≡ floor_of keyword.Auto scrolls no_bounds (pos 0) z
scrolling_floor scrolls nothing z h e = ap Known e ∙ scroll_floor z ∙ ap (λ (s : Bool). floor_of keyword.Auto s no_bounds (pos 0) z) (sym h)

pub content_floor : (z : ℤ) → IsUnits z → Content z (pos 0) (pos 0) ≡ floor_of keyword.Auto false no_bounds (pos 0) z
content_floor z h = λ i. Content (free_content z h i) (no_length i) (pos 0)

-- in a room
at_least_nothing : (z y : ℤ) → IsUnits z → y ≡ z → int_max (pos 0) z ≡ clamp (int_max (pos 0) (int_max (pos 0) y))
unfolding clamp
at_least_nothing z y h e =
    omega (arith, ints, h.0, h.1, e, int_max_is (pos 0) z, int_max_is (pos 0) y, int_max_is (pos 0) (int_max (pos 0) y), int_min_is top (int_max (pos 0) (int_max (pos 0) y)), int_max_is bottom (int_min top (int_max (pos 0) (int_max (pos 0) y))))

take_nothing : (z : ℤ) → (z -ℤ pos 0) ≡ z
take_nothing z = omega (arith, ints)

add_nothing : (z : ℤ) → (z +ℤ pos 0) ≡ z
add_nothing z = omega (arith, ints)

pub fills_room : (room : ℤ) → IsUnits room → int_max (pos 0) room ≡ clamp (fitted no_bounds (room -ℤ pos 0))
fills_room room h = at_least_nothing room (room -ℤ pos 0) h (take_nothing room)

pub stretched_inline : (stretched : Bool) (room size : ℤ) (content : ℤ × ℤ) → stretched ≡ true → size ≡ clamp (fitted no_bounds (room -ℤ pos 0)) → size ≡ inline_used no_bounds stretched (pos 0) room content
stretched_inline stretched room size content h e = e ∙ ap (λ (s : Bool). inline_used no_bounds s (pos 0) room content) (sym h)

pub stretched_block : (stretched : Bool) (room size content : ℤ) → stretched ≡ true → size ≡ clamp (fitted no_bounds (room -ℤ pos 0)) → size ≡ block_used no_bounds stretched (pos 0) room content
stretched_block stretched room size content h e = e ∙ ap (λ (s : Bool). block_used no_bounds s (pos 0) room content) (sym h)

between : (low room high : ℤ) → IsUnits low → IsUnits room → IsUnits high → IsUnits (int_min (int_max low room) high)
between low room high h k l = (
  omega (arith, ints, h.0, h.1, k.0, k.1, l.0, l.1, int_max_is low room, int_min_is (int_max low room) high),
  omega (arith, ints, h.0, h.1, k.0, k.1, l.0, l.1, int_max_is low room, int_min_is (int_max low room) high),
)

pub fit_in_room : (room : ℤ) (content : ℤ × ℤ) → IsUnits room → IsUnits content.0 → IsUnits content.1 → int_max (pos 0) (int_min (int_max content.0 room) content.1) ≡ inline_used no_bounds false (pos 0) room content
fit_in_room room content h k l =
    let same : int_min (int_max (content.0 +ℤ pos 0) (room -ℤ pos 0)) (content.1 +ℤ pos 0) ≡ int_min (int_max content.0 room) content.1 = λ i. int_min (int_max (add_nothing content.0 i) (take_nothing room i)) (add_nothing content.1 i) in
    at_least_nothing (int_min (int_max content.0 room) content.1) (int_min (int_max (content.0 +ℤ pos 0) (room -ℤ pos 0)) (content.1 +ℤ pos 0)) (between content.0 room content.1 k h l) same

pub of_content : (room content : ℤ) → IsUnits content → int_max (pos 0) content ≡ block_used no_bounds false (pos 0) room content
of_content room content h = at_least_nothing content (content +ℤ pos 0) h (add_nothing content)

-- its content box is its border box
free_box : (z : ℤ) → IsUnits z → z ≡ content_of_box (pos 0) z
unfolding clamp
free_box z h = omega (arith, ints, h.0, h.1, int_min_is top (z -ℤ pos 0), int_max_is bottom (int_min top (z -ℤ pos 0)))

not_lifted : (span : Span) → lifted [] span ≡ span
not_lifted span = λ i. record { start = add_nothing span.start i; end = add_nothing span.end i }

-- ---- the same by the values of a node

module _ (g : GridAxis) (c : ContentAxis) (p : IsPlain g c) where
  alone : (span : Span) → (margins g +ℤ extra_margins [] span) ≡ pos 0
  alone span = ap (λ m. m +ℤ extra_margins [] span) p.margins

  child_alone : (border_box scrolls : Bool) (span : Span) (content : ℤ × ℤ) → child_item [] border_box scrolls g c span content ≡ plain_item scrolls span content
  child_alone border_box scrolls span content =
      λ i. record {
        span = not_lifted span i;
        low = contribution (p.bounds None border_box i) (alone span i) content.0;
        high = contribution (p.bounds None border_box i) (alone span i) content.1;
        floor = floor_of (p.least i) scrolls (p.bounds None border_box i) (alone span i) content.0;
      }

  -- as an item of a grid that sizes its tracks itself
  pub plain_child : (border_box scrolls : Bool) (span : Span) (content : ℤ × ℤ) → plain_item scrolls span content ≡ child_item [] border_box scrolls g c span content
  plain_child border_box scrolls span content = sym (child_alone border_box scrolls span content)

  -- in a room
  pub plain_inline : (border_box : Bool) (a : Align) (room : ℤ) (content : ℤ × ℤ) → inline_used no_bounds (stretches a.mode) (pos 0) room content ≡ inline_used (bounds_of (Some room) border_box g c) (is_stretched a g c) (margins g) room content
  plain_inline border_box a room content =
      let way : inline_used (bounds_of (Some room) border_box g c) (is_stretched a g c) (margins g) room content ≡ inline_used no_bounds (stretches a.mode) (pos 0) room content = λ i. inline_used (p.bounds (Some room) border_box i) (p.stretched a i) (p.margins i) room content in
      sym way

  pub plain_block : (border_box : Bool) (a : Align) (room content : ℤ) → block_used no_bounds (stretches a.mode) (pos 0) room content ≡ block_used (bounds_of (Some room) border_box g c) (is_stretched a g c) (margins g) room content
  plain_block border_box a room content =
      let way : block_used (bounds_of (Some room) border_box g c) (is_stretched a g c) (margins g) room content ≡ block_used no_bounds (stretches a.mode) (pos 0) room content = λ i. block_used (p.bounds (Some room) border_box i) (p.stretched a i) (p.margins i) room content in
      sym way

  -- what it contributes beside others in a line
  pub plain_outside : (border_box : Bool) (content size : ℤ) → size ≡ contribution no_bounds (pos 0) content → size ≡ contribution (bounds_of None border_box g c) (margins g) content
  plain_outside border_box content size is =
      let way : contribution (bounds_of None border_box g c) (margins g) content ≡ contribution no_bounds (pos 0) content = λ i. contribution (p.bounds None border_box i) (p.margins i) content in
      is ∙ sym way

  -- across a line, where it is not stretched
  pub plain_across : (cross : Option ℤ) (border_box : Bool) (nothing content size : ℤ) → nothing ≡ pos 0 → size ≡ block_used no_bounds false (pos 0) nothing content → size ≡ block_used (bounds_of cross border_box g c) false (pos 0) (pos 0) content
  plain_across cross border_box nothing content size none is =
      let way : block_used (bounds_of cross border_box g c) false (pos 0) (pos 0) content ≡ block_used no_bounds false (pos 0) (pos 0) content = λ i. block_used (p.bounds cross border_box i) false (pos 0) (pos 0) content in
      is ∙ ap (λ (z : ℤ). block_used no_bounds false (pos 0) z content) none ∙ sym way

  -- what it is given
  pub plain_box : (size : ℤ) → IsUnits size → size ≡ content_of_box (inner g) size
  plain_box size h =
      let way : content_of_box (inner g) size ≡ content_of_box (pos 0) size = λ i. content_of_box ((p.bounds None false i).inner) size in
      free_box size h ∙ sym way
