-- How each track of an axis is sized (CSS Grid 2, 7.2 and 7.6).
use Rattle.std.specs.Prelude.{refl, ℕ, zero, suc, ◌+ℤ◌, ◌-ℤ◌, ℤ, pos, Bool, false, List, [], ◌∷◌, map, Option, Some, None, unwrap_or, ◌≡◌, negsuc, true}
use Rattle.std.specs.Int.{int_max}
use Rattle.lunit.specs.Units.{percent, clamp, floor_div}
use Rattle.lunit.specs.declared.geometry.Span.{Span}
use Rattle.part_rules.specs.declared.track.Least.{Least}
use Rattle.part_rules.specs.declared.track.Least.TheVariants as least
use Rattle.part_rules.specs.declared.track.Most.{Most}
use Rattle.part_rules.specs.declared.track.Most.TheVariants as most
use Rattle.part_rules.specs.declared.track.Rule.{Rule}
use Rattle.part_rules.specs.Lists.{above_zero}
use Rattle.part_rules.specs.Repetition.{collapses, size_at}
use Rattle.style_types.specs.Table.{auto_track}
use Rattle.style_types.specs.declared.track.Breadth.{Breadth}
use Rattle.style_types.specs.declared.track.Breadth.TheVariants as breadth
use Rattle.style_types.specs.declared.track.TrackFn.{TrackFn}
use Rattle.tree_rules.specs.Labels.{GridAxis}
use Rattle.tree_rules.specs.Templates.{Written, px_track}
use Rattle.tree_rules.specs.Labels.{plain_axis}

-- ---- one track

-- a percentage of a size as a min function, and `auto` where there is no such size (CSS Grid 2, 7.2.1)
abbrev pub least_percent : Option ℤ → ℕ → Least
least_percent None t = least.Auto
least_percent (Some x) t = least.Fixed (percent x t)

-- The min track sizing function. No factor is one.
abbrev pub least_of : Option ℤ → Breadth → Least
least_of base (breadth.Length x) = least.Fixed x
least_of base (breadth.Percent t) = least_percent base t
least_of base breadth.Auto = least.Auto
least_of base breadth.MinContent = least.MinContent
least_of base breadth.MaxContent = least.MaxContent
least_of base (breadth.Flex w) = least.Auto

-- a fixed max function is at least a fixed min function (CSS Grid 2, 7.2.1)
abbrev pub fixed_above : Least → ℤ → Most
fixed_above (least.Fixed x) y = most.Fixed (int_max x y)
fixed_above least.Auto y = most.Fixed y
fixed_above least.MinContent y = most.Fixed y
fixed_above least.MaxContent y = most.Fixed y

-- a percentage of a size as a max function, and `auto` where there is no such size
abbrev pub most_percent : Option ℤ → Least → ℕ → Most
most_percent None l t = most.Auto
most_percent (Some x) l t = fixed_above l (percent x t)

-- The max track sizing function, beside this min track sizing function.
abbrev pub most_of : Option ℤ → Least → Breadth → Most
most_of base l (breadth.Length x) = fixed_above l x
most_of base l (breadth.Percent t) = most_percent base l t
most_of base l breadth.Auto = most.Auto
most_of base l breadth.MinContent = most.MinContent
most_of base l breadth.MaxContent = most.MaxContent
most_of base l (breadth.Flex w) = most.Flex w

-- `fit-content` of a length is capped by it; of a percentage by the percentage of a size, and not capped where there is no such size (own rule:
-- it could also be `auto`, which stretches).
abbrev pub fit_of : Option ℤ → Most → Breadth → Most
fit_of base other (breadth.Length x) = most.Fit x
fit_of (Some x) other (breadth.Percent t) = most.Fit (percent x t)
fit_of None other (breadth.Percent t) = other
fit_of base other b = other

-- the max function of a track, which a cap replaces
abbrev pub capped_of : Option ℤ → Most → Option Breadth → Most
capped_of base m None = m
capped_of base m (Some b) = fit_of base m b

-- How a track with this size is sized, where percentages are of this size, or of none.
abbrev pub rule_of : Option ℤ → TrackFn → Bool → Rule
rule_of base f collapsed =
    let l = least_of base f.least in
    record { least = l; most = capped_of base (most_of base l f.most) f.fit; collapsed = collapsed }

-- ---- all tracks of an axis

-- the coordinates from this one on, so many
abbrev pub coordinates : ℕ → ℤ → List ℤ
coordinates zero at = []
coordinates (suc n) at = at ∷ coordinates n (at +ℤ pos 1)

-- the coordinates of the tracks of a span
abbrev pub tracks_of : Span → List ℤ
tracks_of s = coordinates (above_zero (s.end -ℤ s.start)) s.start

-- a track of `auto-fit` that no area covers collapses (CSS Grid 2, 7.2.3.2)
abbrev pub is_collapsed : Option (ℕ × ℕ) → List Span → ℤ → Bool
is_collapsed None areas at = false
is_collapsed (Some fit) areas at = collapses (pos fit.0) (pos fit.1) areas at

-- How the tracks of these coordinates are sized, where the children have these spans.
abbrev pub axis_rules : Option ℤ → GridAxis → Written → List Span → List ℤ → List Rule
axis_rules base g w areas ats = map (λ at. rule_of base (unwrap_or (size_at w.sizes g.autos at) auto_track) (is_collapsed w.fit areas at)) ats

-- ---- worked rows, in units

abbrev sized_by : Breadth → Breadth → Option Breadth → TrackFn
sized_by a b f = record { least = a; most = b; fit = f }

-- 25% of 1000 is 250, and of nothing `auto`.
percentage : rule_of (Some (pos 1000)) (sized_by (breadth.Percent 25000) (breadth.Percent 25000) None) false ≡
    record { least = least.Fixed (pos 250); most = most.Fixed (pos 250); collapsed = false }
unfolding clamp floor_div
percentage = refl

percentage_of_nothing : rule_of None (sized_by (breadth.Percent 25000) (breadth.Percent 25000) None) false ≡
    record { least = least.Auto; most = most.Auto; collapsed = false }
percentage_of_nothing = refl

-- minmax(30, 20) is minmax(30, 30).
raised : rule_of None (sized_by (breadth.Length (pos 30)) (breadth.Length (pos 20)) None) false ≡
    record { least = least.Fixed (pos 30); most = most.Fixed (pos 30); collapsed = false }
raised = refl

-- fit-content(40) caps `max-content` at 40; fit-content(50%) of nothing does not cap it.
capped : rule_of None (sized_by breadth.Auto breadth.MaxContent (Some (breadth.Length (pos 40)))) false ≡
    record { least = least.Auto; most = most.Fit (pos 40); collapsed = false }
capped = refl

not_capped : rule_of None (sized_by breadth.Auto breadth.MaxContent (Some (breadth.Percent 50000))) false ≡
    record { least = least.Auto; most = most.MaxContent; collapsed = false }
not_capped = refl

capped_by_percentage : rule_of (Some (pos 90)) (sized_by breadth.Auto breadth.MaxContent (Some (breadth.Percent 50000))) false ≡
    record { least = least.Auto; most = most.Fit (pos 45); collapsed = false }
unfolding clamp floor_div
capped_by_percentage = refl

-- a template of 1 unit, repeated twice by `auto-fit`, and automatic tracks of 2 and 3 units
abbrev fitting : Written
fitting = record { sizes = px_track 1 ∷ px_track 1 ∷ []; names = []; fit = Some (0, 2) }

abbrev of_size : ℕ → Bool → Rule
of_size n collapsed = record { least = least.Fixed (pos n); most = most.Fixed (pos n); collapsed = collapsed }

-- The tracks from -1 to 4 with an item in the second one: the first repeated one collapses; before it stands the last automatic size, and after
-- the template the automatic ones from the first on.
around_template : axis_rules None (record plain_axis { autos = px_track 2 ∷ px_track 3 ∷ [] }) fitting
    (record { start = pos 1; end = pos 2 } ∷ []) (tracks_of (record { start = negsuc 0; end = pos 4 }))
    ≡ of_size 3 false ∷ of_size 1 true ∷ of_size 1 false ∷ of_size 2 false ∷ of_size 3 false ∷ []
around_template = refl

no_tracks_of : tracks_of (record { start = pos 3; end = pos 3 }) ≡ []
no_tracks_of = refl
