-- Declared values, and what they are where the font sizes are known.
use Rattle.std.specs.Prelude.{◌≡◌, refl, ℤ, pos, negsuc, Bool, true, false, List, [], ◌∷◌, map, Option, Some, None}
use Rattle.std.specs.List.{list_all}
use Rattle.std.specs.FinMap as map
use Rattle.style_types.specs.Order.{prop_cmp}
use Rattle.style_types.specs.Styles.{StyleMap}
use Rattle.style_types.specs.Units.{relative, length_of, is_px}
use Rattle.style_types.specs.declared.declared.DeclaredValue.{DeclaredValue}
use Rattle.style_types.specs.declared.prop.Prop.{Prop}
use Rattle.style_types.specs.declared.prop.Prop.TheVariants as prop
use Rattle.style_types.specs.declared.track.Breadth.{Breadth}
use Rattle.style_types.specs.declared.track.Breadth.TheVariants as breadth
use Rattle.style_types.specs.declared.track.TrackFn.{TrackFn}
use Rattle.style_types.specs.declared.track.Repeat.{Repeat}
use Rattle.style_types.specs.declared.track.TrackList.{TrackList}
use Rattle.style_types.specs.declared.track.Template.{Template}
use Rattle.style_types.specs.declared.track.Template.TheVariants as template
use Rattle.style_types.specs.declared.unit.Unit.{Unit}
use Rattle.style_types.specs.declared.unit.Unit.TheVariants as unit
use Rattle.style_types.specs.declared.value.Size.{Size}
use Rattle.style_types.specs.declared.value.Size.TheVariants as size
use Rattle.style_types.specs.declared.value.Value.{Value}
use Rattle.style_types.specs.declared.value.Value.TheVariants as value

-- ---- the lengths of a value
-- The units are those of the value's lengths in their order: of a track size the least side, the most side, then the
-- argument of `fit-content`; of a list one track after another; of a list with an automatic repeat first the tracks
-- outside of it, then those of one repetition. A length without a unit is in px. Each step takes the units of its
-- lengths, and gives what it makes of them beside the units that are left.

abbrev pub next_length : ℤ → ℤ → ℤ → List Unit → ℤ × List Unit
next_length em rem px [] = (px, [])
next_length em rem px (u ∷ units) = (length_of em rem u px, units)

abbrev pub onto : {A B C : Type 0} → (A → B) → A × C → B × C
onto f read = (f read.0, read.1)

abbrev pub computed_breadth : ℤ → ℤ → Breadth → List Unit → Breadth × List Unit
computed_breadth em rem (breadth.Length px) units = onto breadth.Length (next_length em rem px units)
computed_breadth em rem b units = (b, units)

abbrev pub computed_fit : ℤ → ℤ → Option Breadth → List Unit → Option Breadth × List Unit
computed_fit em rem None units = (None, units)
computed_fit em rem (Some b) units = onto Some (computed_breadth em rem b units)

abbrev pub track_of : Breadth → Breadth → Option Breadth → TrackFn
track_of least most fit = record { least = least; most = most; fit = fit }

abbrev pub computed_track : ℤ → ℤ → TrackFn → List Unit → TrackFn × List Unit
computed_track em rem track units =
    let least = computed_breadth em rem track.least units in
    let most = computed_breadth em rem track.most least.1 in
    let fit = computed_fit em rem track.fit most.1 in
    (track_of least.0 most.0 fit.0, fit.1)

abbrev pub computed_tracks : ℤ → ℤ → List TrackFn → List Unit → List TrackFn × List Unit
computed_tracks em rem [] units = ([], units)
computed_tracks em rem (track ∷ tracks) units =
    let first = computed_track em rem track units in
    let rest = computed_tracks em rem tracks first.1 in
    (first.0 ∷ rest.0, rest.1)

abbrev pub computed_repeat : ℤ → ℤ → Option Repeat → List Unit → Option Repeat × List Unit
computed_repeat em rem None units = (None, units)
computed_repeat em rem (Some r) units = onto (λ sizes. Some (record r { sizes = sizes })) (computed_tracks em rem r.sizes units)

abbrev pub list_with : TrackList → List TrackFn → Option Repeat → TrackList
list_with list sizes repeat = record { sizes = sizes; names = list.names; repeat = repeat }

abbrev pub computed_list : ℤ → ℤ → TrackList → List Unit → TrackList
computed_list em rem list units =
    let sizes = computed_tracks em rem list.sizes units in
    list_with list sizes.0 (computed_repeat em rem list.repeat sizes.1).0

abbrev pub computed_template : ℤ → ℤ → Template → List Unit → Template
computed_template em rem (template.Tracks list) units = template.Tracks (computed_list em rem list units)
computed_template em rem t units = t

abbrev pub computed_size : ℤ → ℤ → Size → List Unit → Size
computed_size em rem (size.Length px) units = size.Length (next_length em rem px units).0
computed_size em rem s units = s

-- the value with its lengths in px, where the font size of the node is em and that of the root rem
abbrev pub computed_with : ℤ → ℤ → Value → List Unit → Value
computed_with em rem (value.Template t) units = value.Template (computed_template em rem t units)
computed_with em rem (value.Sizes tracks) units = value.Sizes (computed_tracks em rem tracks units).0
computed_with em rem (value.Size s) units = value.Size (computed_size em rem s units)
computed_with em rem v units = v

abbrev pub computed_value : ℤ → ℤ → DeclaredValue → Value
computed_value em rem d = computed_with em rem d.value d.units

-- ---- styles

-- the properties that a node declares, each with its value
abbrev pub DeclaredMap : Type 0
DeclaredMap = map.FinMap prop_cmp DeclaredValue

-- each entry with its value changed
abbrev pub values_mapped : (DeclaredValue → Value) → List (Prop × DeclaredValue) → List (Prop × Value)
values_mapped f entries = map (λ e. (e.0, f e.1)) entries

-- the style in which each declared property has its computed value, and no other is set
unfoldable pub computed_style : ℤ → ℤ → DeclaredMap → StyleMap
computed_style em rem m = map.from_entries (values_mapped (computed_value em rem) (map.entries m))

-- the font size that a declared value is, where the font size of the parent is parent and that of the root root
abbrev pub font_with : ℤ → ℤ → Value → List Unit → ℤ
font_with parent root (value.Size (size.Length px)) units = (next_length parent root px units).0
font_with parent root v units = parent

abbrev pub font_or : ℤ → ℤ → Option DeclaredValue → ℤ
font_or parent root None = parent
font_or parent root (Some d) = font_with parent root d.value d.units

-- the font size of a node: the declared one with `em` of the font size of the parent, else that of the parent (CSS
-- Fonts 4, 2.5)
abbrev pub font_of : ℤ → ℤ → DeclaredMap → ℤ
font_of parent root m = font_or parent root (map.get m prop.FontSize)

-- ---- px alone

abbrev pub are_px : List Unit → Bool
are_px units = list_all is_px units

-- each length of the declared values is in px
abbrev pub is_px_alone : DeclaredMap → Bool
is_px_alone m = list_all (λ e. are_px e.1.units) (map.entries m)

-- the declared values as they stand
unfoldable pub plain_style : DeclaredMap → StyleMap
plain_style m = map.from_entries (values_mapped (λ d. d.value) (map.entries m))

-- ---- examples, which hold by computation

-- 0.3em of 1,024 units are 307.2 units, and below zero the same is cut off
part_of_a_font : length_of (pos 1024) (pos 640) (unit.Em (pos 300000)) (pos 0) ≡ pos 307
unfolding relative
part_of_a_font = refl

part_below_zero : length_of (pos 1024) (pos 640) (unit.Rem (negsuc 299999)) (pos 0) ≡ negsuc 191
unfolding relative
part_below_zero = refl

far_past_the_limit : length_of (pos 67108864) (pos 640) (unit.Em (pos 10000000000)) (pos 0) ≡ pos 67108864
unfolding relative
far_past_the_limit = refl

px_stand : length_of (pos 1024) (pos 640) unit.Px (pos 70000000) ≡ pos 70000000
px_stand = refl

em_track : TrackFn
em_track = track_of (breadth.Length (pos 0)) (breadth.Length (pos 64)) None

fit_track : TrackFn
fit_track = track_of breadth.Auto breadth.MaxContent (Some (breadth.Length (pos 0)))

tracks_in_order : computed_tracks (pos 640) (pos 1024) (em_track ∷ fit_track ∷ []) (unit.Em (pos 2000000) ∷ unit.Px ∷ unit.Rem (pos 500000) ∷ [])
    ≡ (
      track_of (breadth.Length (pos 1280)) (breadth.Length (pos 64)) None ∷
          track_of breadth.Auto breadth.MaxContent (Some (breadth.Length (pos 512))) ∷ [],
      [],
    )
unfolding em_track fit_track relative
tracks_in_order = refl
