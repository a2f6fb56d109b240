-- The sizes of tracks in a definite space are lengths.
use Rattle.std.proofs.Common.{ℕ, ℤ, Bool, true, false, List, [], ◌∷◌, ◌+ℤ◌, map, Option, if◌then◌else◌}
use Rattle.lunit.specs.Units.{IsUnits, clamp}
use Rattle.lunit.specs.declared.item.Item.{Item}
use Rattle.part_rules.specs.declared.fraction.FrRow.{FrRow}
use Rattle.part_rules.specs.declared.fraction.Fraction.{Fraction}
use Rattle.part_rules.specs.declared.track.Fit.{Fit}
use Rattle.part_rules.specs.declared.track.Rule.{Rule}
use Rattle.part_rules.specs.declared.track.Space.TheVariants.{Definite}
use Rattle.part_rules.specs.Fractions.{takes, weight_in, with_part}
use Rattle.part_rules.specs.Lists.{zipped}
use Rattle.part_rules.specs.Sharing.{apportioned, shares}
use Rattle.part_rules.specs.Tracks.{Track, auto_room, content_sized, expanded_by, factor_of, fr_row, fraction_for, free_of, grow_base, grown, initialised, sized, to_limit, track_sizes, with_base}
use Rattle.box_layout.specs.Near.{AreUnits}
use Rattle.box_layout.proofs.Near.{clamped_units}

-- base sizes that are lengths
abbrev AreBases : List Track → Type 0
AreBases [] = Unit {0}
AreBases (t ∷ ts) = IsUnits t.base × AreBases ts

chosen_bases : (b : Bool) (xs ys : List Track) → AreBases xs → AreBases ys → AreBases (if b then xs else ys)
chosen_bases true xs ys h k = h
chosen_bases false xs ys h k = k

-- tracks that have grown are limited, whatever they were
bases_grown : (ts : List Track) (ss : List ℤ) → AreBases (zipped grow_base ts ss)
bases_grown [] ss = tt
bases_grown (t ∷ ts) [] = tt
bases_grown (t ∷ ts) (s ∷ ss) = (clamped_units (t.base +ℤ s), bases_grown ts ss)

chosen_base : (b : Bool) (x y : FrRow) → IsUnits x.base → IsUnits y.base → IsUnits (if b then x else y).base
chosen_base true x y h k = h
chosen_base false x y h k = k

bases_expanded : (f : Fraction) (ts : List Track) (parts : List ℤ) → AreBases ts → AreBases (zipped with_base ts (zipped (with_part f) (map fr_row ts) parts))
bases_expanded f [] parts h = tt
bases_expanded f (t ∷ ts) [] h = tt
bases_expanded f (t ∷ ts) (p ∷ parts) h =
    let part : FrRow = record { base = clamp p; factor = factor_of t.rule.most } in
    (chosen_base (takes f (fr_row t)) part (fr_row t) (clamped_units p) h.0, bases_expanded f ts parts h.1)

bases_sized : (axis : ℕ) (a : ℤ) (min most : Option ℤ) (gap : ℤ) (wide : Bool) (rules : List Rule) (first : ℤ) (items : List Item)
    → AreBases (sized {axis = axis} rules first items (record { space = Definite a; min = min; max = most; gap = gap; stretch = wide }))
unfolding sized
bases_sized axis a min most gap wide rules first items =
    let fit : Fit axis = record { space = Definite a; min = min; max = most; gap = gap; stretch = wide } in
    let content : List Track = content_sized fit.space gap items (initialised first rules) in
    let full : List Track = grown to_limit (free_of gap a content) content in
    let f : Fraction = fraction_for fit.space gap items full in
    let flex : List Track = expanded_by f full in
    let flexible : AreBases flex = bases_expanded f full (apportioned f.space f.weight (map (weight_in f) (map fr_row full))) (bases_grown content (shares (free_of gap a content) (map to_limit content))) in
    chosen_bases wide (grown auto_room (free_of gap a flex) flex) flex (bases_grown flex (shares (free_of gap a flex) (map auto_room flex))) flexible

units_of : (ts : List Track) → AreBases ts → AreUnits (map (λ (t : Track). t.base) ts)
units_of [] h = tt
units_of (t ∷ ts) h = (h.0, units_of ts h.1)

pub sizes_units : (axis : ℕ) (a : ℤ) (min most : Option ℤ) (gap : ℤ) (wide : Bool) (rules : List Rule) (first : ℤ) (items : List Item)
    → AreUnits (track_sizes {axis = axis} rules first items (record { space = Definite a; min = min; max = most; gap = gap; stretch = wide }))
sizes_units axis a min most gap wide rules first items =
    let fit : Fit axis = record { space = Definite a; min = min; max = most; gap = gap; stretch = wide } in
    units_of (sized rules first items fit) (bases_sized axis a min most gap wide rules first items)
