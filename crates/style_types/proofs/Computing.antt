-- Computed styles: a look-up in one, and one of px alone.
use Rattle.std.proofs.Common.{◌≡◌, ◌≤◌, ℕ, suc, length, arith, ℤ, Bool, true, false, ◌&&◌, cond, List, [], ◌∷◌, map, Option, Some, None, refl, ap, sym, ◌∙◌}
use Rattle.std.specs.List.{list_all}
use Rattle.std.specs.Option.{option_map}
use Rattle.std.specs.FinMap as map
use Rattle.style_types.specs.Order.{prop_cmp, prop_cmp_total, prop_cmp-IsAntisymmetric}
use Rattle.style_types.specs.Computed.{next_length, computed_breadth, computed_fit, computed_track, computed_tracks, computed_repeat, computed_list, computed_template, computed_size, computed_with, computed_value, track_of, list_with, DeclaredMap, values_mapped, computed_style, are_px, is_px_alone, plain_style}
use Rattle.style_types.specs.declared.prop.Prop.{Prop}
use Rattle.style_types.specs.declared.declared.DeclaredValue.{DeclaredValue}
use Rattle.style_types.specs.declared.value.Value.{Value}
use Rattle.style_types.specs.declared.value.Value.TheVariants as value
use Rattle.style_types.specs.declared.value.Size.{Size}
use Rattle.style_types.specs.declared.value.Size.TheVariants as size
use Rattle.style_types.specs.declared.unit.Unit.{Unit}
use Rattle.style_types.specs.declared.unit.Unit.TheVariants as unit
use Rattle.style_types.specs.declared.track.Breadth.{Breadth}
use Rattle.style_types.specs.declared.track.Breadth.TheVariants as breadth
use Rattle.style_types.specs.declared.track.TrackFn.{TrackFn}
use Rattle.style_types.specs.declared.track.Repeat.{Repeat}
use Rattle.style_types.specs.declared.track.TrackList.{TrackList}
use Rattle.style_types.specs.declared.track.Template.{Template}
use Rattle.style_types.specs.declared.track.Template.TheVariants as template
use Rattle.std.proofs.lemmas.Bool.{true≢false}
use Rattle.style_types.proofs.Places.{map_of}
use Rattle.std.specs.Ordering.{eq_by_cmp}

-- a look-up goes through a change of the values
find_mapped : (f : DeclaredValue → Value) (q : Prop) (es : List (Prop × DeclaredValue)) → map.find prop_cmp q (values_mapped f es) ≡ option_map f (map.find prop_cmp q es)
find_mapped f q [] = refl
find_mapped f q (e ∷ es) = by_test (eq_by_cmp prop_cmp q e.0) (find_mapped f q es) where
  by_test : (b : Bool) → map.find prop_cmp q (values_mapped f es) ≡ option_map f (map.find prop_cmp q es) → cond b (Some (f e.1)) (map.find prop_cmp q (values_mapped f es)) ≡ option_map f (cond b (Some e.1) (map.find prop_cmp q es))
  by_test true rest = refl
  by_test false rest = rest

get_mapped : (f : DeclaredValue → Value) (m : DeclaredMap) (q : Prop) → map.get (map.from_entries {R = prop_cmp} (values_mapped f (map.entries m))) q ≡ option_map f (map.get m q)
get_mapped f m q = map.get-from_entries prop_cmp_total (values_mapped f (map.entries m)) q ∙ find_mapped f q (map.entries m) ∙ ap (option_map f) (sym (map.get-entries m q))

pub get_computed : (em rem : ℤ) (m : DeclaredMap) (q : Prop) → map.get (computed_style em rem m) q ≡ option_map (computed_value em rem) (map.get m q)
unfolding computed_style
get_computed em rem m q = get_mapped (computed_value em rem) m q

pub get_plain : (m : DeclaredMap) (q : Prop) → map.get (plain_style m) q ≡ option_map (λ d. d.value) (map.get m q)
unfolding plain_style
get_plain m q = get_mapped (λ d. d.value) m q

-- entries that make a map may be changed before or after
pub style_of_entries : (em rem : ℤ) (es : List (Prop × DeclaredValue)) → map_of (values_mapped (computed_value em rem) es) ≡ computed_style em rem (map_of es)
style_of_entries em rem es = map.same_map prop_cmp_total prop_cmp-IsAntisymmetric (map_of (values_mapped (computed_value em rem) es)) (computed_style em rem (map_of es)) (λ q.
    map.get-from_entries prop_cmp_total (values_mapped (computed_value em rem) es) q ∙ find_mapped (computed_value em rem) q es
    ∙ ap (option_map (computed_value em rem)) (sym (map.get-from_entries prop_cmp_total es q)) ∙ sym (get_computed em rem (map_of es) q))

-- ---- how many tracks

pub tracks_stay : (em rem : ℤ) (tracks : List TrackFn) (units : List Unit) → length (computed_tracks em rem tracks units).0 ≡ length tracks
tracks_stay em rem [] units = refl
tracks_stay em rem (track ∷ tracks) units = ap suc (tracks_stay em rem tracks (computed_track em rem track units).1)

pub few_made : (em rem : ℤ) (made tracks : List TrackFn) (left units : List Unit) (most : ℕ) → (made, left) ≡ computed_tracks em rem tracks units → length tracks ≤ most → length made ≤ most
few_made em rem made tracks left units most e h =
    let f : length made ≡ length tracks = ap (λ (r : List TrackFn × List Unit). length r.0) e ∙ tracks_stay em rem tracks units in
    omega (arith, f, h)

-- ---- px alone

-- what a step makes is what was there, and the units that are left are px too
abbrev Stays : {A : Type 0} → A × List Unit → A → Type 0
Stays made was = (made.0 ≡ was) × (are_px made.1 ≡ true)

px_next : (em rem px : ℤ) (units : List Unit) → are_px units ≡ true → Stays (next_length em rem px units) px
px_next em rem px [] h = (refl, h)
px_next em rem px (unit.Px ∷ units) h = (refl, h)
px_next em rem px (unit.Em q ∷ units) h = elim (true≢false (sym h)) [ ]
px_next em rem px (unit.Rem q ∷ units) h = elim (true≢false (sym h)) [ ]

px_breadth : (em rem : ℤ) (b : Breadth) (units : List Unit) → are_px units ≡ true → Stays (computed_breadth em rem b units) b
px_breadth em rem (breadth.Length px) units h = let next = px_next em rem px units h in (ap breadth.Length next.0, next.1)
px_breadth em rem (breadth.Percent t) units h = (refl, h)
px_breadth em rem breadth.Auto units h = (refl, h)
px_breadth em rem breadth.MinContent units h = (refl, h)
px_breadth em rem breadth.MaxContent units h = (refl, h)
px_breadth em rem (breadth.Flex t) units h = (refl, h)

px_fit : (em rem : ℤ) (b : Option Breadth) (units : List Unit) → are_px units ≡ true → Stays (computed_fit em rem b units) b
px_fit em rem None units h = (refl, h)
px_fit em rem (Some b) units h = let next = px_breadth em rem b units h in (ap Some next.0, next.1)

track_same : (a b a' b' : Breadth) (f f' : Option Breadth) → a ≡ a' → b ≡ b' → f ≡ f' → track_of a b f ≡ track_of a' b' f'
track_same a b a' b' f f' p q r = ap (λ (x : Breadth). track_of x b f) p ∙ ap (λ (x : Breadth). track_of a' x f) q ∙ ap (λ (x : Option Breadth). track_of a' b' x) r

px_track : (em rem : ℤ) (track : TrackFn) (units : List Unit) → are_px units ≡ true → Stays (computed_track em rem track units) track
px_track em rem track units h =
    let least = px_breadth em rem track.least units h in
    let most = px_breadth em rem track.most (computed_breadth em rem track.least units).1 least.1 in
    let fit = px_fit em rem track.fit (computed_breadth em rem track.most (computed_breadth em rem track.least units).1).1 most.1 in
    (track_same _ _ track.least track.most _ track.fit least.0 most.0 fit.0, fit.1)

px_tracks : (em rem : ℤ) (tracks : List TrackFn) (units : List Unit) → are_px units ≡ true → Stays (computed_tracks em rem tracks units) tracks
px_tracks em rem [] units h = (refl, h)
px_tracks em rem (track ∷ tracks) units h =
    let first = px_track em rem track units h in
    let rest = px_tracks em rem tracks (computed_track em rem track units).1 first.1 in
    (ap (λ (x : TrackFn). x ∷ (computed_tracks em rem tracks (computed_track em rem track units).1).0) first.0 ∙ ap (λ (xs : List TrackFn). track ∷ xs) rest.0, rest.1)

px_repeat : (em rem : ℤ) (r : Option Repeat) (units : List Unit) → are_px units ≡ true → (computed_repeat em rem r units).0 ≡ r
px_repeat em rem None units h = refl
px_repeat em rem (Some r) units h = ap (λ (sizes : List TrackFn). Some (record r { sizes = sizes })) (px_tracks em rem r.sizes units h).0

px_list : (em rem : ℤ) (list : TrackList) (units : List Unit) → are_px units ≡ true → computed_list em rem list units ≡ list
px_list em rem list units h =
    let sizes = px_tracks em rem list.sizes units h in
    ap (λ (xs : List TrackFn). list_with list xs (computed_repeat em rem list.repeat (computed_tracks em rem list.sizes units).1).0) sizes.0
    ∙ ap (list_with list list.sizes) (px_repeat em rem list.repeat (computed_tracks em rem list.sizes units).1 sizes.1)

px_template : (em rem : ℤ) (t : Template) (units : List Unit) → are_px units ≡ true → computed_template em rem t units ≡ t
px_template em rem template.Absent units h = refl
px_template em rem (template.Tracks list) units h = ap template.Tracks (px_list em rem list units h)
px_template em rem (template.Subgrid names) units h = refl

px_size : (em rem : ℤ) (s : Size) (units : List Unit) → are_px units ≡ true → computed_size em rem s units ≡ s
px_size em rem (size.Length px) units h = ap size.Length (px_next em rem px units h).0
px_size em rem size.Auto units h = refl
px_size em rem size.Absent units h = refl
px_size em rem size.Normal units h = refl
px_size em rem size.Content units h = refl
px_size em rem (size.Percent t) units h = refl

pub px_value : (em rem : ℤ) (v : Value) (units : List Unit) → are_px units ≡ true → computed_with em rem v units ≡ v
px_value em rem (value.Template t) units h = ap value.Template (px_template em rem t units h)
px_value em rem (value.Sizes tracks) units h = ap value.Sizes (px_tracks em rem tracks units h).0
px_value em rem (value.Size s) units h = ap value.Size (px_size em rem s units h)
px_value em rem (value.Areas a) units h = refl
px_value em rem (value.Flow a b) units h = refl
px_value em rem (value.Line a) units h = refl
px_value em rem (value.Order a) units h = refl
px_value em rem (value.BorderBox a) units h = refl
px_value em rem (value.Overflow a) units h = refl
px_value em rem (value.Align a) units h = refl
px_value em rem (value.Column a) units h = refl
px_value em rem (value.Wrap a) units h = refl
px_value em rem (value.Factor a) units h = refl

and_both : (a b : Bool) → (a && b) ≡ true → (a ≡ true) × (b ≡ true)
and_both true b h = (refl, h)
and_both false b h = elim (true≢false (sym h)) [ ]

px_entries : (em rem : ℤ) (es : List (Prop × DeclaredValue)) → list_all (λ e. are_px e.1.units) es ≡ true → values_mapped (computed_value em rem) es ≡ values_mapped (λ d. d.value) es
px_entries em rem [] h = refl
px_entries em rem (e ∷ es) h =
    let both = and_both (are_px e.1.units) (list_all (λ e. are_px e.1.units) es) h in
    ap (λ (v : Value). (e.0, v) ∷ values_mapped (computed_value em rem) es) (px_value em rem e.1.value e.1.units both.0)
    ∙ ap (λ (xs : List (Prop × Value)). (e.0, e.1.value) ∷ xs) (px_entries em rem es both.1)

pub px_alone_stay : (em rem : ℤ) (m : DeclaredMap) → is_px_alone m ≡ true → computed_style em rem m ≡ plain_style m
unfolding computed_style plain_style
px_alone_stay em rem m h = ap map.from_entries (px_entries em rem (map.entries m) h)

pub ruleset computing = (get_computed, get_plain, px_alone_stay)
