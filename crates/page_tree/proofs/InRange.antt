-- Computed values are in the ranges that layout asks, where the declared ones are.
use Rattle.std.proofs.Common.{◌≡◌, ℕ, ◌*◌, ◌≤◌, ℤ, pos, ◌≤ℤ◌, min, Bool, true, false, List, [], ◌∷◌, Option, Some, None, length, refl, sym, ap, subst, ◌∙◌, arith}
use Rattle.std.specs.Prelude.{◌/◌, int_le, int_lt, unsigned_abs}
use Rattle.std.specs.FinMap as map
use Rattle.std.specs.Option.{option_map, unwrap_or}
use Rattle.std.proofs.lemmas.Bool.{and_from, and_parts}
use Rattle.std.proofs.lemmas.Int.{ints}
use Rattle.style_types.proofs.Computing.{get_computed}
use Rattle.style_types.specs.Computed.{DeclaredMap, computed_breadth, computed_fit, computed_repeat, computed_style, computed_template, computed_track, computed_tracks, computed_value, computed_with, font_of, font_or, font_with, next_length}
use Rattle.style_types.specs.Styles.{value_of}
use Rattle.style_types.specs.Table.{initial}
use Rattle.style_types.specs.Units.{differ, is_negative, relative, signed, size_of}
use Rattle.style_types.specs.declared.declared.DeclaredValue.{DeclaredValue}
use Rattle.style_types.specs.declared.prop.Prop.{Prop}
use Rattle.style_types.specs.declared.prop.Prop.TheVariants as prop
use Rattle.style_types.specs.declared.track.Breadth.{Breadth}
use Rattle.style_types.specs.declared.track.Breadth.TheVariants as breadth
use Rattle.style_types.specs.declared.track.Repeat.{Repeat}
use Rattle.style_types.specs.declared.track.Template.{Template}
use Rattle.style_types.specs.declared.track.Template.TheVariants as template
use Rattle.style_types.specs.declared.track.TrackFn.{TrackFn}
use Rattle.style_types.specs.declared.unit.Unit.{Unit}
use Rattle.style_types.specs.declared.unit.Unit.TheVariants as unit
use Rattle.style_types.specs.declared.value.Size.TheVariants as size
use Rattle.style_types.specs.declared.value.Value.{Value}
use Rattle.style_types.specs.declared.value.Value.TheVariants as value
use Rattle.tree_rules.specs.Labels.{areas_in, content_of, grid_of, length_in, line_in, margin_in, size_in, sizes_in, template_in}
use Rattle.placing.specs.Ranges.{AreAreas, IsContentStyle, IsEdge, IsGridStyle, IsLine, IsMargin, IsOffset, IsRepeated, IsSize, IsTemplate, are_tracks, is_breadth, is_track}
use Rattle.page_tree.specs.Ranges.{AreInRange, IsInRange, IsRange, breadth_units, fit_units, next_unit, repeat_units, template_units, track_units, tracks_units, value_units}

-- ---- lengths
few : (a b : ℕ) → min a b ≤ a
few a b = omega arith

not_below : (z : ℤ) → pos 0 ≤ℤ z → is_negative z ≡ false
not_below z h = at (int_lt z (pos 0)) refl
  where
    at : (b : Bool) → int_lt z (pos 0) ≡ b → b ≡ false
    at true e = absurd (omega (arith, ints))
    at false e = refl

at_least : (z : ℤ) → int_le (pos 0) z ≡ true → pos 0 ≤ℤ z
at_least z h = omega (arith, ints)

edge_of : (n : ℕ) → n ≤ 67108864 → IsEdge (pos n)
edge_of n h = record { low = omega (arith, ints); high = omega (arith, ints) }

pub relative_edge : (q font : ℤ) → int_le (pos 0) q ≡ true → pos 0 ≤ℤ font → IsEdge (relative q font)
unfolding relative
relative_edge q font h f =
    subst (λ b. IsEdge (signed b (size_of q font))) (sym ((λ i. differ (not_below q (at_least q h) i) (is_negative font)) ∙ not_below font f))
    (edge_of (size_of q font) (few 67108864 (unsigned_abs q * unsigned_abs font / 1000000)))

signed_offset : (b : Bool) (n : ℕ) → n ≤ 67108864 → IsOffset (signed b n)
signed_offset true n h = record { low = omega (arith, ints); high = omega (arith, ints) }
signed_offset false n h = record { low = omega (arith, ints); high = omega (arith, ints) }

pub relative_offset : (q font : ℤ) → IsOffset (relative q font)
unfolding relative
relative_offset q font = signed_offset (differ (is_negative q) (is_negative font)) (size_of q font) (few 67108864 (unsigned_abs q * unsigned_abs font / 1000000))

module _ (em rem : ℤ) where
  next_offset : (px : ℤ) (units : List Unit) → IsOffset px → IsOffset (next_length em rem px units).0
  next_offset px [] h = h
  next_offset px (unit.Px ∷ units) h = h
  next_offset px (unit.Em q ∷ units) h = relative_offset q em
  next_offset px (unit.Rem q ∷ units) h = relative_offset q rem

  -- ---- the units that are left
  next_left : (px : ℤ) (units : List Unit) → (next_length em rem px units).1 ≡ (next_unit units).1
  next_left px [] = refl
  next_left px (u ∷ units) = refl

  breadth_left : (b : Breadth) (units : List Unit) → (computed_breadth em rem b units).1 ≡ (breadth_units b units).1
  breadth_left (breadth.Length px) units = next_left px units
  breadth_left (breadth.Percent n) units = refl
  breadth_left breadth.Auto units = refl
  breadth_left breadth.MinContent units = refl
  breadth_left breadth.MaxContent units = refl
  breadth_left (breadth.Flex n) units = refl

  fit_left : (fit : Option Breadth) (units : List Unit) → (computed_fit em rem fit units).1 ≡ fit_units fit units
  fit_left None units = refl
  fit_left (Some b) units = breadth_left b units

  track_left : (track : TrackFn) (units : List Unit) → (computed_track em rem track units).1 ≡ (track_units track units).1
  track_left track units =
      ap (λ us. (computed_fit em rem track.fit (computed_breadth em rem track.most us).1).1) (breadth_left track.least units)
      ∙ ap (λ us. (computed_fit em rem track.fit us).1) (breadth_left track.most (breadth_units track.least units).1)
      ∙ fit_left track.fit (breadth_units track.most (breadth_units track.least units).1).1

  tracks_left : (tracks : List TrackFn) (units : List Unit) → (computed_tracks em rem tracks units).1 ≡ (tracks_units tracks units).1
  tracks_left [] units = refl
  tracks_left (track ∷ tracks) units = ap (λ us. (computed_tracks em rem tracks us).1) (track_left track units) ∙ tracks_left tracks (track_units track units).1

  tracks_length : (tracks : List TrackFn) (units : List Unit) → length (computed_tracks em rem tracks units).0 ≡ length tracks
  tracks_length [] units = refl
  tracks_length (track ∷ tracks) units = omega (arith, tracks_length tracks (computed_track em rem track units).1)

  -- ---- where font sizes are not below 0
  module _ (low_em : pos 0 ≤ℤ em) (low_rem : pos 0 ≤ℤ rem) where
    next_edge : (px : ℤ) (units : List Unit) → IsEdge px → (next_unit units).0 ≡ true → IsEdge (next_length em rem px units).0
    next_edge px [] h u = h
    next_edge px (unit.Px ∷ units) h u = h
    next_edge px (unit.Em q ∷ units) h u = relative_edge q em u low_em
    next_edge px (unit.Rem q ∷ units) h u = relative_edge q rem u low_rem

    le_edge : (x : ℤ) → IsEdge x → int_le (pos 0) x ≡ true
    le_edge x h = at (int_le (pos 0) x) refl h.low
      where
        at : (b : Bool) → int_le (pos 0) x ≡ b → pos 0 ≤ℤ x → b ≡ true
        at true e l = refl
        at false e l = absurd (omega (arith, ints))

    breadth_in : (b : Breadth) (units : List Unit) → is_breadth b ≡ true → (breadth_units b units).0 ≡ true → is_breadth (computed_breadth em rem b units).0 ≡ true
    breadth_in (breadth.Length px) [] h u = h
    breadth_in (breadth.Length px) (unit.Px ∷ units) h u = h
    breadth_in (breadth.Length px) (unit.Em q ∷ units) h u = le_edge (relative q em) (relative_edge q em u low_em)
    breadth_in (breadth.Length px) (unit.Rem q ∷ units) h u = le_edge (relative q rem) (relative_edge q rem u low_rem)
    breadth_in (breadth.Percent n) units h u = refl
    breadth_in breadth.Auto units h u = refl
    breadth_in breadth.MinContent units h u = refl
    breadth_in breadth.MaxContent units h u = refl
    breadth_in (breadth.Flex n) units h u = refl

    track_in : (track : TrackFn) (units : List Unit) → is_track track ≡ true → (track_units track units).0 ≡ true → is_track (computed_track em rem track units).0 ≡ true
    track_in track units h u =
        let sides = and_parts (is_breadth track.least) (is_breadth track.most) h in
        let taken = and_parts (breadth_units track.least units).0 (breadth_units track.most (breadth_units track.least units).1).0 u in
        and_from (is_breadth (computed_breadth em rem track.least units).0) (is_breadth (computed_breadth em rem track.most (computed_breadth em rem track.least units).1).0) (breadth_in track.least units sides.0 taken.0)
        (breadth_in track.most (computed_breadth em rem track.least units).1 sides.1 (ap (λ us. (breadth_units track.most us).0) (breadth_left track.least units) ∙ taken.1))

    tracks_in : (tracks : List TrackFn) (units : List Unit) → are_tracks tracks ≡ true → (tracks_units tracks units).0 ≡ true → are_tracks (computed_tracks em rem tracks units).0 ≡ true
    tracks_in [] units h u = refl
    tracks_in (track ∷ tracks) units h u =
        let each = and_parts (is_track track) (are_tracks tracks) h in
        let taken = and_parts (track_units track units).0 (tracks_units tracks (track_units track units).1).0 u in
        and_from (is_track (computed_track em rem track units).0) (are_tracks (computed_tracks em rem tracks (computed_track em rem track units).1).0) (track_in track units each.0 taken.0)
        (tracks_in tracks (computed_track em rem track units).1 each.1 (ap (λ us. (tracks_units tracks us).0) (track_left track units) ∙ taken.1))

    repeat_in : (r : Option Repeat) (units : List Unit) → IsRepeated r → repeat_units r units ≡ true → IsRepeated (computed_repeat em rem r units).0
    repeat_in None units h u = tt
    repeat_in (Some r) units h u =
        record {
          some = omega (arith, h.some, tracks_length r.sizes units);
          few = omega (arith, h.few, tracks_length r.sizes units);
          tracks = tracks_in r.sizes units h.tracks u;
        }

    template_in_range : (t : Template) (units : List Unit) → IsTemplate t → template_units t units ≡ true → IsTemplate (computed_template em rem t units)
    template_in_range template.Absent units h u = tt
    template_in_range (template.Tracks l) units h u =
        let taken = and_parts (tracks_units l.sizes units).0 (repeat_units l.repeat (tracks_units l.sizes units).1) u in
        record {
          few = omega (arith, h.few, tracks_length l.sizes units);
          tracks = tracks_in l.sizes units h.tracks taken.0;
          repeated = repeat_in l.repeat (computed_tracks em rem l.sizes units).1 h.repeated (ap (repeat_units l.repeat) (tracks_left l.sizes units) ∙ taken.1);
        }
    template_in_range (template.Subgrid sets) units h u = h

    -- ---- values by property
    a_template : (v : Value) (units : List Unit) → IsTemplate (template_in v) → value_units v units ≡ true → IsTemplate (template_in (computed_with em rem v units))
    a_template (value.Template t) units h u = template_in_range t units h u
    a_template (value.Areas a) units h u = tt
    a_template (value.Sizes tracks) units h u = tt
    a_template (value.Flow column dense) units h u = tt
    a_template (value.Line l) units h u = tt
    a_template (value.Order n) units h u = tt
    a_template (value.Size s) units h u = tt
    a_template (value.BorderBox b) units h u = tt
    a_template (value.Overflow s) units h u = tt
    a_template (value.Align a) units h u = tt
    a_template (value.Column b) units h u = tt
    a_template (value.Wrap b) units h u = tt
    a_template (value.Factor n) units h u = tt

    a_track_list : (v : Value) (units : List Unit) → are_tracks (sizes_in v) ≡ true → value_units v units ≡ true → are_tracks (sizes_in (computed_with em rem v units)) ≡ true
    a_track_list (value.Template t) units h u = refl
    a_track_list (value.Areas a) units h u = refl
    a_track_list (value.Sizes tracks) units h u = tracks_in tracks units h u
    a_track_list (value.Flow column dense) units h u = refl
    a_track_list (value.Line l) units h u = refl
    a_track_list (value.Order n) units h u = refl
    a_track_list (value.Size s) units h u = refl
    a_track_list (value.BorderBox b) units h u = refl
    a_track_list (value.Overflow s) units h u = refl
    a_track_list (value.Align a) units h u = refl
    a_track_list (value.Column b) units h u = refl
    a_track_list (value.Wrap b) units h u = refl
    a_track_list (value.Factor n) units h u = refl

    a_size : (v : Value) (units : List Unit) → IsSize (size_in v) → value_units v units ≡ true → IsSize (size_in (computed_with em rem v units))
    a_size (value.Template t) units h u = tt
    a_size (value.Areas a) units h u = tt
    a_size (value.Sizes tracks) units h u = tt
    a_size (value.Flow column dense) units h u = tt
    a_size (value.Line l) units h u = tt
    a_size (value.Order n) units h u = tt
    a_size (value.Size size.Auto) units h u = tt
    a_size (value.Size size.Absent) units h u = tt
    a_size (value.Size size.Normal) units h u = tt
    a_size (value.Size size.Content) units h u = tt
    a_size (value.Size (size.Length px)) units h u = next_edge px units h u
    a_size (value.Size (size.Percent n)) units h u = tt
    a_size (value.BorderBox b) units h u = tt
    a_size (value.Overflow s) units h u = tt
    a_size (value.Align a) units h u = tt
    a_size (value.Column b) units h u = tt
    a_size (value.Wrap b) units h u = tt
    a_size (value.Factor n) units h u = tt

    an_edge : (v : Value) (units : List Unit) → IsEdge (length_in v) → value_units v units ≡ true → IsEdge (length_in (computed_with em rem v units))
    an_edge (value.Template t) units h u = h
    an_edge (value.Areas a) units h u = h
    an_edge (value.Sizes tracks) units h u = h
    an_edge (value.Flow column dense) units h u = h
    an_edge (value.Line l) units h u = h
    an_edge (value.Order n) units h u = h
    an_edge (value.Size size.Auto) units h u = h
    an_edge (value.Size size.Absent) units h u = h
    an_edge (value.Size size.Normal) units h u = h
    an_edge (value.Size size.Content) units h u = h
    an_edge (value.Size (size.Length px)) units h u = next_edge px units h u
    an_edge (value.Size (size.Percent n)) units h u = h
    an_edge (value.BorderBox b) units h u = h
    an_edge (value.Overflow s) units h u = h
    an_edge (value.Align a) units h u = h
    an_edge (value.Column b) units h u = h
    an_edge (value.Wrap b) units h u = h
    an_edge (value.Factor n) units h u = h

    some_areas : (v : Value) (units : List Unit) → AreAreas (areas_in v) → value_units v units ≡ true → AreAreas (areas_in (computed_with em rem v units))
    some_areas (value.Template t) units h u = tt
    some_areas (value.Areas a) units h u = h
    some_areas (value.Sizes tracks) units h u = tt
    some_areas (value.Flow column dense) units h u = tt
    some_areas (value.Line l) units h u = tt
    some_areas (value.Order n) units h u = tt
    some_areas (value.Size s) units h u = tt
    some_areas (value.BorderBox b) units h u = tt
    some_areas (value.Overflow s) units h u = tt
    some_areas (value.Align a) units h u = tt
    some_areas (value.Column b) units h u = tt
    some_areas (value.Wrap b) units h u = tt
    some_areas (value.Factor n) units h u = tt

    a_line : (v : Value) (units : List Unit) → IsLine (line_in v) → value_units v units ≡ true → IsLine (line_in (computed_with em rem v units))
    a_line (value.Template t) units h u = h
    a_line (value.Areas a) units h u = h
    a_line (value.Sizes tracks) units h u = h
    a_line (value.Flow column dense) units h u = h
    a_line (value.Line l) units h u = h
    a_line (value.Order n) units h u = h
    a_line (value.Size s) units h u = h
    a_line (value.BorderBox b) units h u = h
    a_line (value.Overflow s) units h u = h
    a_line (value.Align a) units h u = h
    a_line (value.Column b) units h u = h
    a_line (value.Wrap b) units h u = h
    a_line (value.Factor n) units h u = h

    a_margin : (v : Value) (units : List Unit) → IsMargin (margin_in v) → IsMargin (margin_in (computed_with em rem v units))
    a_margin (value.Template t) units h = tt
    a_margin (value.Areas a) units h = tt
    a_margin (value.Sizes tracks) units h = tt
    a_margin (value.Flow column dense) units h = tt
    a_margin (value.Line l) units h = tt
    a_margin (value.Order n) units h = tt
    a_margin (value.Size size.Auto) units h = tt
    a_margin (value.Size size.Absent) units h = tt
    a_margin (value.Size size.Normal) units h = tt
    a_margin (value.Size size.Content) units h = tt
    a_margin (value.Size (size.Length px)) units h = next_offset px units h
    a_margin (value.Size (size.Percent n)) units h = tt
    a_margin (value.BorderBox b) units h = tt
    a_margin (value.Overflow s) units h = tt
    a_margin (value.Align a) units h = tt
    a_margin (value.Column b) units h = tt
    a_margin (value.Wrap b) units h = tt
    a_margin (value.Factor n) units h = tt

    pub value_in_range : (p : Prop) (d : DeclaredValue) → IsInRange p d → IsRange p (computed_value em rem d)
    value_in_range prop.GridTemplateColumns d h = a_template d.value d.units h.value (h.units refl)
    value_in_range prop.GridTemplateRows d h = a_template d.value d.units h.value (h.units refl)
    value_in_range prop.GridTemplateAreas d h = some_areas d.value d.units h.value (h.units refl)
    value_in_range prop.GridAutoColumns d h = a_track_list d.value d.units h.value (h.units refl)
    value_in_range prop.GridAutoRows d h = a_track_list d.value d.units h.value (h.units refl)
    value_in_range prop.GridAutoFlow d h = tt
    value_in_range prop.GridColumnStart d h = a_line d.value d.units h.value (h.units refl)
    value_in_range prop.GridColumnEnd d h = a_line d.value d.units h.value (h.units refl)
    value_in_range prop.GridRowStart d h = a_line d.value d.units h.value (h.units refl)
    value_in_range prop.GridRowEnd d h = a_line d.value d.units h.value (h.units refl)
    value_in_range prop.Order d h = tt
    value_in_range prop.RowGap d h = a_size d.value d.units h.value (h.units refl)
    value_in_range prop.ColumnGap d h = a_size d.value d.units h.value (h.units refl)
    value_in_range prop.MarginTop d h = a_margin d.value d.units h.value
    value_in_range prop.MarginRight d h = a_margin d.value d.units h.value
    value_in_range prop.MarginBottom d h = a_margin d.value d.units h.value
    value_in_range prop.MarginLeft d h = a_margin d.value d.units h.value
    value_in_range prop.PaddingTop d h = an_edge d.value d.units h.value (h.units refl)
    value_in_range prop.PaddingRight d h = an_edge d.value d.units h.value (h.units refl)
    value_in_range prop.PaddingBottom d h = an_edge d.value d.units h.value (h.units refl)
    value_in_range prop.PaddingLeft d h = an_edge d.value d.units h.value (h.units refl)
    value_in_range prop.BorderTopWidth d h = an_edge d.value d.units h.value (h.units refl)
    value_in_range prop.BorderRightWidth d h = an_edge d.value d.units h.value (h.units refl)
    value_in_range prop.BorderBottomWidth d h = an_edge d.value d.units h.value (h.units refl)
    value_in_range prop.BorderLeftWidth d h = an_edge d.value d.units h.value (h.units refl)
    value_in_range prop.Width d h = a_size d.value d.units h.value (h.units refl)
    value_in_range prop.Height d h = a_size d.value d.units h.value (h.units refl)
    value_in_range prop.MinWidth d h = a_size d.value d.units h.value (h.units refl)
    value_in_range prop.MinHeight d h = a_size d.value d.units h.value (h.units refl)
    value_in_range prop.MaxWidth d h = a_size d.value d.units h.value (h.units refl)
    value_in_range prop.MaxHeight d h = a_size d.value d.units h.value (h.units refl)
    value_in_range prop.BoxSizing d h = tt
    value_in_range prop.Overflow d h = tt
    value_in_range prop.JustifyContent d h = tt
    value_in_range prop.AlignContent d h = tt
    value_in_range prop.JustifyItems d h = tt
    value_in_range prop.AlignItems d h = tt
    value_in_range prop.JustifySelf d h = tt
    value_in_range prop.AlignSelf d h = tt
    value_in_range prop.FlexDirection d h = tt
    value_in_range prop.FlexWrap d h = tt
    value_in_range prop.FlexGrow d h = tt
    value_in_range prop.FlexShrink d h = tt
    value_in_range prop.FlexBasis d h = a_size d.value d.units h.value (h.units refl)
    value_in_range prop.FontSize d h = a_size d.value d.units h.value (h.units refl)

-- ---- initial values
no_edge : IsEdge (pos 0)
no_edge = record { low = omega (arith, ints); high = omega (arith, ints) }

no_margin : IsOffset (pos 0)
no_margin = record { low = omega (arith, ints); high = omega (arith, ints) }

first_edge : IsEdge (pos 1024)
first_edge = record { low = omega (arith, ints); high = omega (arith, ints) }

initial_in_range : (p : Prop) → IsRange p (initial p)
initial_in_range prop.GridTemplateColumns = tt
initial_in_range prop.GridTemplateRows = tt
initial_in_range prop.GridTemplateAreas = tt
initial_in_range prop.GridAutoColumns = refl
initial_in_range prop.GridAutoRows = refl
initial_in_range prop.GridAutoFlow = tt
initial_in_range prop.GridColumnStart = record { edges = refl; some = refl }
initial_in_range prop.GridColumnEnd = record { edges = refl; some = refl }
initial_in_range prop.GridRowStart = record { edges = refl; some = refl }
initial_in_range prop.GridRowEnd = record { edges = refl; some = refl }
initial_in_range prop.Order = tt
initial_in_range prop.RowGap = tt
initial_in_range prop.ColumnGap = tt
initial_in_range prop.MarginTop = no_margin
initial_in_range prop.MarginRight = no_margin
initial_in_range prop.MarginBottom = no_margin
initial_in_range prop.MarginLeft = no_margin
initial_in_range prop.PaddingTop = no_edge
initial_in_range prop.PaddingRight = no_edge
initial_in_range prop.PaddingBottom = no_edge
initial_in_range prop.PaddingLeft = no_edge
initial_in_range prop.BorderTopWidth = no_edge
initial_in_range prop.BorderRightWidth = no_edge
initial_in_range prop.BorderBottomWidth = no_edge
initial_in_range prop.BorderLeftWidth = no_edge
initial_in_range prop.Width = tt
initial_in_range prop.Height = tt
initial_in_range prop.MinWidth = tt
initial_in_range prop.MinHeight = tt
initial_in_range prop.MaxWidth = tt
initial_in_range prop.MaxHeight = tt
initial_in_range prop.BoxSizing = tt
initial_in_range prop.Overflow = tt
initial_in_range prop.JustifyContent = tt
initial_in_range prop.AlignContent = tt
initial_in_range prop.JustifyItems = tt
initial_in_range prop.AlignItems = tt
initial_in_range prop.JustifySelf = tt
initial_in_range prop.AlignSelf = tt
initial_in_range prop.FlexDirection = tt
initial_in_range prop.FlexWrap = tt
initial_in_range prop.FlexGrow = tt
initial_in_range prop.FlexShrink = tt
initial_in_range prop.FlexBasis = tt
initial_in_range prop.FontSize = first_edge

-- ---- styles
module _ (em rem : ℤ) (low_em : pos 0 ≤ℤ em) (low_rem : pos 0 ≤ℤ rem) (declared : DeclaredMap) (each : AreInRange declared) where
  pub style_in_range : (p : Prop) → IsRange p (value_of (computed_style em rem declared) p)
  style_in_range p = at (map.get declared p) refl
    where
      at : (o : Option DeclaredValue) → map.get declared p ≡ o → IsRange p (value_of (computed_style em rem declared) p)
      at None e = subst (λ o. IsRange p (unwrap_or o (initial p))) (sym (get_computed em rem declared p ∙ ap (option_map (computed_value em rem)) e)) (initial_in_range p)
      at (Some d) e = subst (λ o. IsRange p (unwrap_or o (initial p))) (sym (get_computed em rem declared p ∙ ap (option_map (computed_value em rem)) e)) (value_in_range em rem low_em low_rem p d (each p d e))

  pub grid_in_range : IsGridStyle (grid_of (computed_style em rem declared))
  grid_in_range =
      record {
        columns = record {
          template = style_in_range prop.GridTemplateColumns;
          autos = style_in_range prop.GridAutoColumns;
          start_line = style_in_range prop.GridColumnStart;
          end_line = style_in_range prop.GridColumnEnd;
          gap = style_in_range prop.ColumnGap;
          margin_start = style_in_range prop.MarginLeft;
          margin_end = style_in_range prop.MarginRight;
          border_start = style_in_range prop.BorderLeftWidth;
          border_end = style_in_range prop.BorderRightWidth;
          padding_start = style_in_range prop.PaddingLeft;
          padding_end = style_in_range prop.PaddingRight;
        };
        rows = record {
          template = style_in_range prop.GridTemplateRows;
          autos = style_in_range prop.GridAutoRows;
          start_line = style_in_range prop.GridRowStart;
          end_line = style_in_range prop.GridRowEnd;
          gap = style_in_range prop.RowGap;
          margin_start = style_in_range prop.MarginTop;
          margin_end = style_in_range prop.MarginBottom;
          border_start = style_in_range prop.BorderTopWidth;
          border_end = style_in_range prop.BorderBottomWidth;
          padding_start = style_in_range prop.PaddingTop;
          padding_end = style_in_range prop.PaddingBottom;
        };
        areas = style_in_range prop.GridTemplateAreas;
      }

  pub content_in_range : IsContentStyle (content_of (computed_style em rem declared))
  content_in_range =
      record {
        inline = record { size = style_in_range prop.Width; least = style_in_range prop.MinWidth; most = style_in_range prop.MaxWidth };
        block = record { size = style_in_range prop.Height; least = style_in_range prop.MinHeight; most = style_in_range prop.MaxHeight };
        basis = style_in_range prop.FlexBasis;
      }

-- ---- font sizes
font_with_edge : (parent root : ℤ) → IsEdge parent → IsEdge root → (v : Value) (units : List Unit) → IsSize (size_in v) → value_units v units ≡ true → IsEdge (font_with parent root v units)
font_with_edge parent root p r (value.Template t) units h u = p
font_with_edge parent root p r (value.Areas a) units h u = p
font_with_edge parent root p r (value.Sizes tracks) units h u = p
font_with_edge parent root p r (value.Flow column dense) units h u = p
font_with_edge parent root p r (value.Line l) units h u = p
font_with_edge parent root p r (value.Order n) units h u = p
font_with_edge parent root p r (value.Size size.Auto) units h u = p
font_with_edge parent root p r (value.Size size.Absent) units h u = p
font_with_edge parent root p r (value.Size size.Normal) units h u = p
font_with_edge parent root p r (value.Size size.Content) units h u = p
font_with_edge parent root p r (value.Size (size.Length px)) units h u = next_edge parent root p.low r.low px units h u
font_with_edge parent root p r (value.Size (size.Percent n)) units h u = p
font_with_edge parent root p r (value.BorderBox b) units h u = p
font_with_edge parent root p r (value.Overflow s) units h u = p
font_with_edge parent root p r (value.Align a) units h u = p
font_with_edge parent root p r (value.Column b) units h u = p
font_with_edge parent root p r (value.Wrap b) units h u = p
font_with_edge parent root p r (value.Factor n) units h u = p

-- a font size is at least 0 and at most 2^26
pub font_edge : (parent root : ℤ) (declared : DeclaredMap) → AreInRange declared → IsEdge parent → IsEdge root → IsEdge (font_of parent root declared)
font_edge parent root declared each p r = at (map.get declared prop.FontSize) refl
  where
    at : (o : Option DeclaredValue) → map.get declared prop.FontSize ≡ o → IsEdge (font_or parent root o)
    at None e = p
    at (Some d) e = font_with_edge parent root p r d.value d.units (each prop.FontSize d e).value ((each prop.FontSize d e).units refl)
